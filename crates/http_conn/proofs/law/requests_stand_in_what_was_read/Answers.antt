use Rattle.http_conn.proofs.BeginLemmas.{begins_front}
use Rattle.http_conn.proofs.law.requests_stand_in_what_was_read.Goals as goal

pub returns : goal.returns
returns c = begins_front
