use Rattle.std.proofs.Common.{[], refl}
use Rattle.std.specs.Prelude.{codes}
use Rattle.avro_schema.specs.Types.{fixed}
use Rattle.json_span.specs.Parts.{last_member}
use Rattle.avro_schema.specs.declared.parts.Form.TheVariants.{Fixed}
use Rattle.avro_schema.proofs.Growth.{grows_refl}
use Rattle.avro_schema.proofs.Closing.{named_built, named_names, named_inside, closed_tells}
use Rattle.avro_schema.proofs.DefinedLemmas.{fixed_is}
use Rattle.avro_schema.proofs.named.read_fixed.Goals as goal

pub size_of-requires : goal.size_of-requires
size_of-requires c = (last_member (codes "size") c.requires.node.0, c.member.ensures.value c.requires.node.0 c.requires.node.1)

pub finish-requires : goal.finish-requires
finish-requires c =
    let n = c.in-Ok.ensures.ok c.requires.node.0 c.requires.node.1 in
    let q = c.define.new.parts in
    named_inside _ c.args.parts.now q q c.in-Ok.name c.in-Ok.definition [] n (grows_refl q (named_built _ c.args.parts.now q c.in-Ok.name c.in-Ok.definition c.requires.built n))

pub returns-in-Ok-size_of : goal.returns-in-Ok-size_of
returns-in-Ok-size_of c = λ ms h.
    let n = c.in-Ok.ensures.ok ms h in
    let q = c.define.new.parts in
    let built = named_built _ c.args.parts.now q c.in-Ok.name c.in-Ok.definition c.requires.built n in
    let names = named_names _ c.args.parts.now q c.in-Ok.name c.in-Ok.definition n in
    let is = fixed_is c.args.canonical c.args.parts.now c.args.namespace.now ms c.in-Ok.name c.in-Ok-size_of.size _ n.is (c.in-Ok-size_of.ensures (last_member (codes "size") ms) (c.member.ensures.value ms h)) names in
    closed_tells _ _ c.args.parts.now q q c.finish.new.self c.in-Ok.name c.in-Ok.definition [] (Fixed c.in-Ok.name c.in-Ok-size_of.size) (fixed c.in-Ok.name c.in-Ok-size_of.size) c.finish.result n (grows_refl q built) c.finish.ensures.ok c.finish.ensures.want tt tt (λ m e x. cc) refl refl is
