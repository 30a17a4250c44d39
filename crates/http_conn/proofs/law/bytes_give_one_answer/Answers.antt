use Rattle.http_conn.proofs.LawLemmas.{one_answer}
use Rattle.http_conn.proofs.law.bytes_give_one_answer.Goals as goal

pub returns : goal.returns
returns c = one_answer
