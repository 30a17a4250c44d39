use Rattle.std.proofs.Common.{◌≡◌, length, true, nat_lt, take}
use Rattle.std.specs.List.{list_all}
use Rattle.std.specs.Str.{chars}
use Rattle.avro_value.proofs.json_leaf.points.Given as goal

-- the bytes so far are the first code points
abbrev pub invariant-loop-c : goal.invariant-loop-c
invariant-loop-c l = record {
  out : l.out.items ≡ take (length l.yielded) (chars l.text);
  small : list_all (λ c. nat_lt c 256) (take (length l.yielded) (chars l.text)) ≡ true;
}
