use Rattle.std.proofs.Common.{List, ℕ, subst, sym}
use Rattle.avro_names.specs.Definitions.{FirstNamed}
use Rattle.avro_schema.proofs.NamedLemmas.{reference_tells}
use Rattle.avro_schema.proofs.named.reference.Goals as goal

pub returns : goal.returns
returns c =
    let P : List ℕ → Type 0 = λ n. FirstNamed c.args.parts.now.definitions n c.in-Some.found in
    let Q : ℕ → Type 0 = λ d. FirstNamed c.args.parts.now.definitions c.args.name d in
    let first = subst Q (sym c.in-Ok.ensures.1) (subst P c.as_str.ensures c.in-Some.ensures) in
    reference_tells _ _ _ _ _ c.requires first c.add.ensures.ok c.add.ensures.want c.add.ensures.definitions
