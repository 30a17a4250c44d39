use Rattle.std.proofs.Common.{◌≡◌, [], ℕ, false, ap, sym, ◌∙◌, subst}
use Rattle.json_span.specs.Nodes.{Stands}
use Rattle.avro_schema.specs.Reading.{reader}
use Rattle.avro_names.specs.Definitions.{names_in}
use Rattle.avro_schema.specs.Building.{names_of}
use Rattle.avro_schema.specs.declared.parts.Parts.{Parts}
use Rattle.avro_schema.proofs.Finished.{finished}
use Rattle.avro_schema.proofs.ReadBack.{form_reads}
use Rattle.avro_schema.proofs.Answered.{value_ok, value_err}
use Rattle.avro_schema.proofs.read.read_value.Goals as goal

pub finish-requires : goal.finish-requires
finish-requires c =
    let p : Parts = record { nodes = c.new.result; definitions = c.new-2.result; root = 0; room = 16777216 } in
    let P : ℕ → Type 0 = λ k. Stands c.args.tree.now k c.requires.0 in
    let m = c.in-Ok.ensures c.requires.0 (subst P (sym c.root.ensures) c.requires.1) in
    let none : names_of p ≡ [] = ap names_in c.new-2.ensures in
    let is = ap (λ ns. reader c.args.canonical 64 false ns [] c.requires.0) (sym none) ∙ m.is in (
      m.t,
      finished _ p c.read_type.new.parts c.in-Ok.root c.new.ensures.items c.new-2.ensures m,
      λ short. form_reads c.args.canonical c.requires.0 (record { value = m.t; names = names_of c.read_type.new.parts }) m.t c.requires.2 is short,
    )

pub returns-in-Ok : goal.returns-in-Ok
returns-in-Ok c = λ j h.
    let p : Parts = record { nodes = c.new.result; definitions = c.new-2.result; root = 0; room = 16777216 } in
    let P : ℕ → Type 0 = λ k. Stands c.args.tree.now k j in
    let m = c.in-Ok.ensures j (subst P (sym c.root.ensures) h) in
    value_ok c.args.canonical j p c.read_type.new.parts c.in-Ok.root c.finish.result (ap names_in c.new-2.ensures) m
    (c.finish.ensures m.t (finished _ p c.read_type.new.parts c.in-Ok.root c.new.ensures.items c.new-2.ensures m))

pub returns-in-Err : goal.returns-in-Err
returns-in-Err c = λ j h.
    let p : Parts = record { nodes = c.new.result; definitions = c.new-2.result; root = 0; room = 16777216 } in
    let P : ℕ → Type 0 = λ k. Stands c.args.tree.now k j in
    value_err c.args.canonical j p c.in-Err.e (ap names_in c.new-2.ensures) (c.in-Err.ensures j (subst P (sym c.root.ensures) h))
