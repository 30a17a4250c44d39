use Rattle.std.proofs.Common.{◌≡◌, ◌+◌, ◌-◌, ◌<◌, ℕ, None, bytes_eq, true, false, drop, length, List, ap, sym, ◌∙◌, subst, arith}
use Rattle.avro_value.specs.Parts.{last_in}
use Rattle.avro_value.proofs.PartLemmas.{last_hit, last_go}
use Rattle.avro_value.proofs.json_pick.last_named.Goals as goal

pub returns-then-eq : goal.returns-then-eq
returns-then-eq c =
    let ms = c.args.members.now in
    let name = c.args.name.now in
    let back : c.loop-index.index ≡ c.loop-index.index - 1 + 1 = omega arith in
    let inside : c.loop-index.index - 1 < length ms = omega arith in
    let same : bytes_eq c.index-members-index.result.name name ≡ true = ap (λ (n : List ℕ). bytes_eq n name) (sym c.as_str.ensures) ∙ sym c.if-eq.ensures in
    last_hit name ms (c.loop-index.index - 1) c.index-members-index.result inside c.index-members-index.is (subst (λ (n : ℕ). last_in name (drop n ms) ≡ None) back c.loop-index.invariant.none) same

pub loop-index-preserved : goal.loop-index-preserved
loop-index-preserved c =
    let ms = c.args.members.now in
    let name = c.args.name.now in
    let back : c.loop-index.index ≡ c.loop-index.index - 1 + 1 = omega arith in
    let within : c.loop-index.index - 1 < length ms = omega arith in
    let other : bytes_eq c.index-members-index.result.name name ≡ false = ap (λ (n : List ℕ). bytes_eq n name) (sym c.as_str.ensures) ∙ sym c.if-eq.ensures in
    record {
      inside = omega arith;
      none = last_go name ms (c.loop-index.index - 1) c.index-members-index.result within c.index-members-index.is (subst (λ (n : ℕ). last_in name (drop n ms) ≡ None) back c.loop-index.invariant.none) other;
    }
