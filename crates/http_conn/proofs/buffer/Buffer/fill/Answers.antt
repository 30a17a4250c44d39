use Rattle.http_conn.proofs.PatientLemmas.{one_read}
use Rattle.http_conn.proofs.buffer.Buffer.fill.Goals as goal

pub returns-clause-patient : goal.returns-clause-patient
returns-clause-patient g c = one_read g.S.Source.left g.S.Source.asked _ _ _ c.read_behind.ensures.asked
