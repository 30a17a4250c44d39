use Rattle.std.proofs.Common.{None, sym, ap, subst, ◌∙◌}
use Rattle.schema_table.specs.Index.{Changes, IsIndex, texts_of}
use Rattle.schema_table.proofs.IndexLemmas.{index_pop, same_front, texts_more}
use Rattle.schema_table.proofs.schemas.Schemas.pop.Goals as goal

pub invariant_of-self-2 : goal.invariant_of-self-2
invariant_of-self-2 c =
    index_pop c.self.inside.places c.drop_place.new.places c.pop.new.self c.in-Some.last (subst (λ ks. IsIndex ks c.self.inside.places) c.in-Some.ensures c.self.invariant)
    (subst (λ t. Changes t c.self.inside.places c.drop_place.new.places None) c.as_str.ensures c.drop_place.ensures)

pub returns : goal.returns
returns c texts text h =
    same_front (texts_of c.pop.new.self) texts c.in-Some.last.text text (sym (texts_more c.pop.new.self c.in-Some.last) ∙ sym (ap texts_of c.in-Some.ensures) ∙ c.self.view_is ∙ h)
