use Rattle.std.proofs.Common.{rules, ◌≡◌, ◌++◌, [], ◌∷◌, List, length, sym, ap, ◌∙◌}
use Rattle.avro_names.specs.Definitions.{names_in}
use Rattle.avro_names.specs.declared.definitions.Definition.{Definition}
use Rattle.std.specs.Vec.{vec_len}
use Rattle.avro_names.proofs.DefinitionLemmas.{popped}
use Rattle.avro_names.proofs.DefinitionLemmas.{names_in-append}
use Rattle.avro_names.proofs.definitions.Definitions.add.Goals as goal

pub invariant_of-self-in-Ok : goal.invariant_of-self-in-Ok
invariant_of-self-in-Ok c =
    let xs = c.self.inside.list.items in
    let one : Definition = record { name = c.in_ok-from_str.field-0; node = 0 } in
    c.in-Ok.ensures.items ∙ ap (λ ns. ns ++ c.args.name.now ∷ []) c.self.invariant ∙ ap (λ n. names_in xs ++ n ∷ []) (sym c.in_ok-from_str.ensures)
    ∙ sym (ap names_in c.in_ok-push.ensures.items ∙ names_in-append xs (one ∷ []))

pub invariant_of-self-in-Err : goal.invariant_of-self-in-Err
invariant_of-self-in-Err c =
    let xs = c.self.inside.list.items in
    let size : vec_len c.push.new.self ≡ length c.push.new.self.items = search rules in
    let back = popped xs c.push.new.self.items c.pop-last.new.self.items _ _ c.in_ok-push.ensures.items size c.pop-last.ensures.rest in
    c.in-Err.ensures.stays ∙ c.self.invariant ∙ ap names_in (sym back)
