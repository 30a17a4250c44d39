use Rattle.http_conn.proofs.StreamLaw.{one_stream}
use Rattle.http_conn.proofs.law.bytes_have_one_stream.Goals as goal

pub returns : goal.returns
returns c = one_stream
