use Rattle.std.proofs.Common.{[], refl}
use Rattle.std.specs.Prelude.{codes}
use Rattle.avro_schema.specs.Types.{enum_}
use Rattle.json_span.specs.Parts.{last_member}
use Rattle.avro_schema.specs.declared.parts.Form.TheVariants.{Enum}
use Rattle.avro_schema.proofs.Growth.{grows_refl}
use Rattle.avro_schema.proofs.Closing.{named_built, named_names, named_inside, closed_tells}
use Rattle.avro_schema.proofs.DefinedLemmas.{enum_is}
use Rattle.avro_schema.proofs.named.read_enum.Goals as goal

pub symbols_of-requires : goal.symbols_of-requires
symbols_of-requires c = (last_member (codes "symbols") c.requires.node.0, c.member.ensures.value c.requires.node.0 c.requires.node.1)

pub finish-requires : goal.finish-requires
finish-requires c =
    let n = c.in-Ok.ensures.ok c.requires.node.0 c.requires.node.1 in
    let q = c.define.new.parts in
    named_inside _ c.args.parts.now q q c.in-Ok.name c.in-Ok.definition [] n (grows_refl q (named_built _ c.args.parts.now q c.in-Ok.name c.in-Ok.definition c.requires.built n))

pub returns-in-Ok-symbols_of : goal.returns-in-Ok-symbols_of
returns-in-Ok-symbols_of c = λ ms h.
    let n = c.in-Ok.ensures.ok ms h in
    let q = c.define.new.parts in
    let built = named_built _ c.args.parts.now q c.in-Ok.name c.in-Ok.definition c.requires.built n in
    let names = named_names _ c.args.parts.now q c.in-Ok.name c.in-Ok.definition n in
    let is = enum_is c.args.canonical c.args.parts.now c.args.namespace.now ms c.in-Ok.name c.in-Ok-symbols_of.symbols _ n.is (c.in-Ok-symbols_of.ensures.ok (last_member (codes "symbols") ms) (c.member.ensures.value ms h)) names in
    closed_tells _ _ c.args.parts.now q q c.finish.new.self c.in-Ok.name c.in-Ok.definition [] (Enum c.in-Ok.name c.in-Ok-symbols_of.symbols) (enum_ c.in-Ok.name c.in-Ok-symbols_of.symbols) c.finish.result n (grows_refl q built) c.finish.ensures.ok c.finish.ensures.want tt tt (λ m e x. cc) refl refl is
