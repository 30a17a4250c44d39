use Rattle.std.proofs.Common.{[], sym, ap, ◌∙◌, subst, arith}
use Rattle.json_span.specs.NodeList.{IsKept, form_in}
use Rattle.json_span.specs.Tree.{items_of}
use Rattle.json_span.specs.declared.small.Kept.{Kept}
use Rattle.json_span.proofs.NodeListLemmas.{kept_part, no_items, some_is}
use Rattle.json_span.proofs.beside.Beside.items.Goals as goal

pub index-requires : goal.index-requires
index-requires c = let P : Kept → Type 0 = λ k. IsKept c.args.self.now k in let inside = subst P c.in-Array.is c.requires in omega (arith, inside)

pub returns-in-Array : goal.returns-in-Array
returns-in-Array c = λ ks e.
    let inside = let P : Kept → Type 0 = λ k. IsKept c.args.self.now k in subst P c.in-Array.is c.requires in
    c.as_slice.ensures ∙ (sym (kept_part _ _ _ [] inside c.index.ensures) ∙ some_is _ _ (sym (ap (λ k. items_of (form_in c.args.self.now k)) c.in-Array.is) ∙ e))

pub returns-in_default : goal.returns-in_default
returns-in_default c = λ ks e. sym (no_items c.args.self.now c.args.kept c.in_default.not-Array ks e)
