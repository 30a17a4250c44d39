use Rattle.std.proofs.Common.{◌≡◌, ◌≤◌, ◌+◌, ◌*◌, ◌-◌, drop}
use Rattle.std.specs.Prelude.{fold}
use Rattle.json_token.specs.Integer.{decimal}
use Rattle.avro_schema.specs.Reading.{are_digits}
use Rattle.avro_schema.proofs.named.digits_size.Given as goal

abbrev pub invariant-loop-digit : goal.invariant-loop-digit
invariant-loop-digit l = record { size : decimal l.text ≡ fold (λ n d. n * 10 + (d - 48)) l.size (drop l.digit-index l.text); small : l.size ≤ 1048576; digits : are_digits l.text ≡ are_digits (drop l.digit-index l.text) }
