use Rattle.std.proofs.Common.{◌≡◌, ◌+◌, min, take}
use Rattle.std.specs.Str.Parse.{digits_value}
use Rattle.http_head.specs.Fields.{max_body}
use Rattle.http_head.proofs.fields.value_of.Given as goal

abbrev pub invariant-loop-b : goal.invariant-loop-b
invariant-loop-b l = l.size ≡ min (digits_value 10 (take l.b-index l.digits)) (max_body + 1)
