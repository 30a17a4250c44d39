use Rattle.std.proofs.Common.{[], refl, ap, arith}
use Rattle.json_span.specs.declared.tree.Form.TheVariants.{Array}
use Rattle.json_span.proofs.NodeListLemmas.{as_it_was, grows_by, stays, put_behind, longer, last_of}
use Rattle.json_span.proofs.beside.Beside.keep_items.Goals as goal

pub returns-then-is_empty-clause-grows : goal.returns-then-is_empty-clause-grows
returns-then-is_empty-clause-grows c = as_it_was _

pub returns-in-Ok-clause-grows : goal.returns-in-Ok-clause-grows
returns-in-Ok-clause-grows c = grows_by _ _ (stays _ _ [] refl) (put_behind _ _ _ [] c.in-Ok.ensures.put) (stays _ _ [] refl)

pub returns-in-Ok-clause-kept : goal.returns-in-Ok-clause-kept
returns-in-Ok-clause-kept c = let n = longer _ _ _ c.in-Ok.ensures.put in let p = c.in-Ok.ensures.place in omega arith

pub returns-in-Ok-clause-form : goal.returns-in-Ok-clause-form
returns-in-Ok-clause-form c = ap (λ x. Array x) (last_of _ _ _ [] _ c.in-Ok.ensures.put c.in-Ok.ensures.place)

pub returns-in-Err-clause-grows : goal.returns-in-Err-clause-grows
returns-in-Err-clause-grows c = grows_by _ _ (stays _ _ [] refl) (stays _ _ [] c.in-Err.ensures.stays) (stays _ _ [] refl)
