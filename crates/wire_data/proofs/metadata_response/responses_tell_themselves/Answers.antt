use Rattle.wire_data.proofs.Topics.{response_back}
use Rattle.wire_data.proofs.metadata_response.responses_tell_themselves.Goals as goal

pub returns : goal.returns
returns c = response_back
