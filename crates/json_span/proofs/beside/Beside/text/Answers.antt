use Rattle.std.proofs.Common.{[], sym, ap, ◌∙◌, subst, arith}
use Rattle.json_span.specs.NodeList.{IsKept, form_in}
use Rattle.json_span.specs.declared.small.Kept.{Kept}
use Rattle.json_span.specs.declared.tree.Form.TheVariants.{Escaped}
use Rattle.json_span.proofs.NodeListLemmas.{kept_part, no_text}
use Rattle.json_span.proofs.beside.Beside.text.Goals as goal

pub index-requires : goal.index-requires
index-requires c = let P : Kept → Type 0 = λ k. IsKept c.args.self.now k in let inside = subst P c.in-Escaped.is c.requires in omega (arith, inside)

pub returns-in-Escaped : goal.returns-in-Escaped
returns-in-Escaped c =
    let inside = let P : Kept → Type 0 = λ k. IsKept c.args.self.now k in subst P c.in-Escaped.is c.requires in
    ap (form_in c.args.self.now) c.in-Escaped.is ∙ ap (λ x. Escaped x) (kept_part _ _ _ [] inside c.index.ensures ∙ sym c.as_str.ensures)

pub returns-in_default : goal.returns-in_default
returns-in_default c = no_text c.args.self.now c.args.kept c.in_default.not-Escaped
