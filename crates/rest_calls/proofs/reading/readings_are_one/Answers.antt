use Rattle.rest_calls.proofs.Readings.{one_reading}
use Rattle.rest_calls.proofs.reading.readings_are_one.Goals as goal

pub returns : goal.returns
returns c = one_reading
