use Rattle.std.proofs.Common.{ap}
use Rattle.wire_prim.specs.Reading.{Reading}
use Rattle.wire_prim.proofs.BehindLemmas.{behind_short, behind_enough}
use Rattle.wire_prim.proofs.cursor.Cursor.int16.Goals as goal

pub returns-in_default-clause-answer : goal.returns-in_default-clause-answer
returns-in_default-clause-answer c = behind_short 2 _ _ (ap (λ (r : Reading). r.left) c.self.view_is) c.in_default.len_below

pub returns-clause-answer : goal.returns-clause-answer
returns-clause-answer c = behind_enough 2 _ _ (ap (λ (r : Reading). r.left) c.self.view_is) c.in-len2-up.len_at_least
