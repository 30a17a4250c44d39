use Rattle.std.proofs.Common.{◌≡◌, List, ℕ, true, take, nat_cmp, Bor}
use Rattle.std.specs.BTreeSet.{contains}
use Rattle.std.specs.Cmp.Lexicographic.{slice_cmp}
use Rattle.avro_value.specs.Encoding.{differ, is_among}
use Rattle.avro_value.specs.Parts.{names_in}
use Rattle.avro_value.proofs.json_pick.differ.Given as goal

-- the set has the names so far, which differ
abbrev pub invariant-loop-member : goal.invariant-loop-member
invariant-loop-member l = record {
  names : (q : Bor (List ℕ)) → contains (λ x y. slice_cmp nat_cmp x.now y.now) l.names q ≡ is_among q.now (names_in (take l.member-index l.members));
  unlike : differ (names_in (take l.member-index l.members)) ≡ true;
}
