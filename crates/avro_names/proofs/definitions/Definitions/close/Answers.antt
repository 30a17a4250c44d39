use Rattle.std.proofs.Common.{◌≡◌, ◌<◌, List, length, sym, ap, ◌∙◌, subst}
use Rattle.std.specs.Prelude.{slice_set}
use Rattle.avro_names.specs.Definitions.{defined_at, names_in}
use Rattle.avro_names.specs.declared.definitions.Definition.{Definition}
use Rattle.avro_names.proofs.DefinitionLemmas.{set_defined}
use Rattle.avro_names.proofs.DefinitionLemmas.{names_in-defined_at}
use Rattle.avro_names.proofs.definitions.Definitions.close.Goals as goal

pub invariant_of-self : goal.invariant_of-self
invariant_of-self c =
    let set = set_defined c.self.inside.list.items c.args.definition c.args.node _ (subst (λ (xs : List Definition). c.args.definition < length xs) (sym c.self.view_is) c.requires) c.index_mut.ensures.value in
    c.self.invariant ∙ sym (ap names_in set ∙ names_in-defined_at c.self.inside.list.items c.args.definition c.args.node)

pub returns : goal.returns
returns c =
    let set = set_defined c.self.inside.list.items c.args.definition c.args.node _ (subst (λ (xs : List Definition). c.args.definition < length xs) (sym c.self.view_is) c.requires) c.index_mut.ensures.value in
    set ∙ ap (λ xs. defined_at xs c.args.definition c.args.node) c.self.view_is
