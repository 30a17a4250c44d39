use Rattle.std.proofs.Common.{ap, ◌∙◌, ◌++◌, ◌∷◌, []}
use Rattle.json_span.proofs.Turns as turns
use Rattle.json_span.specs.declared.state.Open.TheVariants.{InArray}
use Rattle.json_span.proofs.array.empty_array.Goals as goal

pub returns-in-Ok-clause-ok : goal.returns-in-Ok-clause-ok
returns-in-Ok-clause-ok c = let p = c.in-Some-InArray in
    turns.array_ends _ _ _ _ _ _ _ c.args.opens.now.items c.pop.new.self.items p.start (InArray p.start p.items) p.items.items _ c.requires.at c.requires.inside c.requires.bracket
    (p.ensures.items ∙ ap (λ x. c.pop.new.self.items ++ (x ∷ [])) p.field-0-is) (λ at h. h) c.in-Ok.ensures.source c.in-Ok.ensures.ok.1 c.in-Ok.ensures.ok.0 c.array_of.ensures
