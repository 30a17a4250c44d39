use Rattle.http_conn.proofs.BeginLemmas.{begins_push}
use Rattle.http_conn.proofs.law.requests_go_on.Goals as goal

pub returns : goal.returns
returns c = begins_push
