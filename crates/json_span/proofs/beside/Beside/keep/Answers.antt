use Rattle.std.proofs.Common.{[], refl, sym, ap, ◌∙◌, arith}
use Rattle.json_span.specs.declared.tree.Form.TheVariants.{Escaped}
use Rattle.json_span.proofs.NodeListLemmas.{as_it_was, grows_by, stays, put_behind, longer, last_of}
use Rattle.json_span.proofs.beside.Beside.keep.Goals as goal

pub returns-in-Null-clause-grows : goal.returns-in-Null-clause-grows
returns-in-Null-clause-grows c = as_it_was _

pub returns-in-Bool-clause-grows : goal.returns-in-Bool-clause-grows
returns-in-Bool-clause-grows c = as_it_was _

pub returns-in-Number-clause-grows : goal.returns-in-Number-clause-grows
returns-in-Number-clause-grows c = as_it_was _

pub returns-in-Plain-clause-grows : goal.returns-in-Plain-clause-grows
returns-in-Plain-clause-grows c = as_it_was _

pub returns-in-Ok-clause-grows : goal.returns-in-Ok-clause-grows
returns-in-Ok-clause-grows c = grows_by _ _ (put_behind _ _ _ [] c.in-Ok.ensures.put) (stays _ _ [] refl) (stays _ _ [] refl)

pub returns-in-Ok-clause-kept : goal.returns-in-Ok-clause-kept
returns-in-Ok-clause-kept c = let n = longer _ _ _ c.in-Ok.ensures.put in let p = c.in-Ok.ensures.place in omega arith

pub returns-in-Ok-clause-form : goal.returns-in-Ok-clause-form
returns-in-Ok-clause-form c = ap (λ x. Escaped x) (last_of _ _ _ [] _ c.in-Ok.ensures.put c.in-Ok.ensures.place) ∙ sym c.in-Escaped.is

pub returns-in-Err-clause-grows : goal.returns-in-Err-clause-grows
returns-in-Err-clause-grows c = grows_by _ _ (stays _ _ [] c.in-Err.ensures.stays) (stays _ _ [] refl) (stays _ _ [] refl)
