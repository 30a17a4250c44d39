use Rattle.std.proofs.Common.{ap, length, nat_lt, sym, ◌∙◌}
use Rattle.avro_schema.specs.Types.{enum_}
use Rattle.avro_value.specs.Judging as judging
use Rattle.avro_value.proofs.PickLemmas.{resolves_is}
use Rattle.avro_value.proofs.pick.has_symbol.Goals as goal

pub returns-in-Enum : goal.returns-in-Enum
returns-in-Enum c t stands =
    let e = c.in-Enum.ensures.is in
    ap (λ symbols. nat_lt c.args.place (length symbols)) (c.symbols.ensures e.0 e.1 e.2) ∙ ap (λ u. judging.has_symbol u c.args.place) (sym (resolves_is c.args.schema.now c.args.node t (enum_ e.0 e.1) stands e.2))
