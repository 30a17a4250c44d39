use Rattle.std.proofs.Common.{◌≡◌, ◌<◌, ◌+◌, Option, Some, ℕ, drop, cond, ap, sym, ◌∙◌, subst}
use Rattle.std.specs.Option.{IfSome}
use Rattle.std.specs.Str.{bytes_eq}
use Rattle.std.proofs.Math.ListN.{drop_of_length-le}
use Rattle.json_span.specs.Parts.{FoundBefore}
use Rattle.json_span.specs.declared.tree.Member.{Member}
use Rattle.json_span.proofs.MemberLemmas.{found_more, found_last, below_cond, member_node}
use Rattle.json_span.proofs.tree.Tree.member.Goals as goal
use Rattle.json_span.proofs.tree.Tree.member.Goals.{then-eq, else-eq}

found_is : (c : goal.Joined-eq) → cond (bytes_eq c.member-item.result.name c.args.name.now) (Some c.member-item.result.node) c.loop-member.found ≡ c.if-eq.found
found_is c =
    let test = ap (λ n. bytes_eq n c.args.name.now) (sym c.as_str.ensures) ∙ sym c.eq.ensures in
    elim c.if-eq.branch [
      | then-eq w ↦ ap (λ t. cond t (Some c.member-item.result.node) c.loop-member.found) (test ∙ w.if-eq.true) ∙ sym w.found-is
      | else-eq w ↦ ap (λ t. cond t (Some c.member-item.result.node) c.loop-member.found) (test ∙ w.if-eq.false) ∙ sym w.found-is
    ]

pub loop-member-preserved : goal.loop-member-preserved
loop-member-preserved c =
    let xs = c.members-member-items.result.now in
    let Q : Option ℕ → Type 0 = λ o. IfSome o (λ k. k < c.args.node) in
    let N : Member → Type 0 = λ m. m.node < c.args.node in
    let below : c.member-item.result.node < c.args.node = subst N (sym c.member-item.is) (c.members-member-items.ensures.below c.loop-member.member-index c.member-item.result c.loop-member-test.true) in
    record {
      value = λ ms h.
          let P : Option ℕ → Type 0 = λ o. FoundBefore c.args.self.now (drop (c.loop-member.member-index + 1) xs) ms c.args.name.now o in
          subst P (found_is c) (found_more _ _ _ c.member-item.result ms _ _ c.loop-member-test.true c.member-item.is (c.loop-member.invariant.value ms h));
      below = subst Q (found_is c) (below_cond _ _ c.args.node c.loop-member.found below c.loop-member.invariant.below);
    }

pub returns-clause-value : goal.returns-clause-value
returns-clause-value c = λ ms h. found_last _ _ ms _ _ (drop_of_length-le c.members-member-items.result.now c.loop-member-test.false) (c.loop-member.invariant.value ms h)

pub returns-clause-is : goal.returns-clause-is
returns-clause-is c = member_node c.args.self.now _ _ (found_last _ _ c.requires.0 _ _ (drop_of_length-le c.members-member-items.result.now c.loop-member-test.false) (c.loop-member.invariant.value c.requires.0 c.requires.1))
