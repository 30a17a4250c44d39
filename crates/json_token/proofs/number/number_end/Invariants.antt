use Rattle.std.proofs.Common.{take}
use Rattle.json_token.specs.Number.{Leads}
use Rattle.json_token.specs.declared.number.Part.TheVariants.{Start}
use Rattle.json_token.proofs.number.number_end.Given as goal

abbrev pub invariant-loop-i : goal.invariant-loop-i
invariant-loop-i l = Leads Start (take l.i l.bytes) l.part
