use Rattle.std.proofs.Common.{List, ℕ, slice_get, Some, sym, ap, ◌∙◌}
use Rattle.avro_schema.specs.Types.{enum_}
use Rattle.avro_datum.specs.Shown as shown
use Rattle.avro_value.proofs.PickLemmas.{resolves_is}
use Rattle.avro_datum.proofs.text_leaf.symbol_in.Goals as goal

pub returns-in-Some : goal.returns-in-Some
returns-in-Some c t stands =
    let e = c.in-Enum.ensures.is in
    ap (λ (s : List ℕ). Some s) c.as_str.ensures ∙ (c.in-Some.ensures ∙ (ap (λ (symbols : List (List ℕ)). slice_get symbols c.args.place) (c.symbols.ensures e.0 e.1 e.2)
    ∙ ap (λ u. shown.symbol_in u c.args.place) (sym (resolves_is c.args.schema.now c.args.node t (enum_ e.0 e.1) stands e.2))))

pub returns-in-None : goal.returns-in-None
returns-in-None c t stands =
    let e = c.in-Enum.ensures.is in
    c.in-None.ensures ∙ (ap (λ (symbols : List (List ℕ)). slice_get symbols c.args.place) (c.symbols.ensures e.0 e.1 e.2)
    ∙ ap (λ u. shown.symbol_in u c.args.place) (sym (resolves_is c.args.schema.now c.args.node t (enum_ e.0 e.1) stands e.2)))
