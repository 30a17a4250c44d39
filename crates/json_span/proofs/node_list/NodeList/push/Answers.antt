use Rattle.std.proofs.Common.{rules, ◌≡◌, ◌++◌, [], ◌∷◌, List, Result, OnOk, sym, ap, ◌∙◌, subst}
use Rattle.gate_io.specs.declared.outside.Want.{Want}
use Rattle.json_span.specs.NodeList.{AreKept, nodes_in}
use Rattle.json_span.specs.declared.small.Small.{Small}
use Rattle.json_span.proofs.NodeListLemmas.{kept_grown, kept_pushed, node_pushed}
use Rattle.json_span.proofs.node_list.NodeList.push.Goals.{in-Ok-push, in-Err-push}
use Rattle.json_span.proofs.node_list.NodeList.push.Goals as goal

pub invariant_of-self : goal.invariant_of-self
invariant_of-self c = kept_grown c.self.inside.beside c.keep.new.self c.self.inside.nodes.items c.keep.ensures.grows c.self.invariant

pub invariant_of-self-2 : goal.invariant_of-self-2
invariant_of-self-2 c =
    let b = c.self.inside.beside in
    let ss = c.self.inside.nodes.items in
    let s : Small = record { start = c.in-Ok.start; end = c.in-Ok-try_from.end; kept = c.in-Ok-keep.kept } in
    let P : List Small → Type 0 = λ x. AreKept c.keep.new.self x in
    elim c.match-push.branch as (λ w. AreKept c.keep.new.self c.push.new.self.items) [
      | in-Ok-push w ↦ kept_pushed b c.keep.new.self ss c.push.new.self.items s c.keep.ensures.grows c.self.invariant c.in-Ok-keep.ensures.kept w.in-Ok-push.ensures.items
      | in-Err-push w ↦ subst P (sym w.in-Err-push.ensures.items) (kept_grown b c.keep.new.self ss c.keep.ensures.grows c.self.invariant)
    ]

pub returns : goal.returns
returns c =
    let b = c.self.inside.beside in
    let ss = c.self.inside.nodes.items in
    let s : Small = record { start = c.in-Ok.start; end = c.in-Ok-try_from.end; kept = c.in-Ok-keep.kept } in
    let P : Result Unit Want → Type 0 = λ r. OnOk r (nodes_in c.keep.new.self c.push.new.self.items ≡ c.args.self.now ++ c.args.node ∷ []) in
    let start : c.in-Ok.start ≡ c.args.node.start = search rules in
    let end : c.in-Ok-try_from.end ≡ c.args.node.end = search rules in
    elim c.match-push.branch as (λ w. P c.match-push.result) [
      | in-Ok-push w ↦ subst P (sym w.result-is)
          (node_pushed b c.keep.new.self ss c.push.new.self.items s c.args.node c.keep.ensures.grows c.self.invariant w.in-Ok-push.ensures.items start end c.in-Ok-keep.ensures.form
          ∙ ap (λ ns. ns ++ c.args.node ∷ []) c.self.view_is)
      | in-Err-push w ↦ subst P (sym w.result-is) tt
    ]
