use Rattle.std.proofs.Common.{rules, ◌≡◌, ◌++◌, ◌<◌, [], ◌∷◌, length, Some, sym, ap, subst, arith}
use Rattle.std.specs.String.{string_bytes}
use Rattle.schema_table.specs.declared.known.Known.{Known}
use Rattle.schema_table.specs.Table.{Lacks}
use Rattle.schema_table.specs.Index.{Changes, IsIndex}
use Rattle.schema_table.proofs.IndexLemmas.{index_push, length-texts}
use Rattle.schema_table.proofs.schemas.Schemas.push.Goals as goal

pub invariant_of-self-in-Ok-put_place : goal.invariant_of-self-in-Ok-put_place
invariant_of-self-in-Ok-put_place c =
    let known = c.self.inside.known in
    let places = c.self.inside.places in
    let new = c.put_place.new.places in
    let one : Known = record { text = c.args.text; schema = c.args.schema } in
    let pushed : c.push.new.self ≡ known ++ one ∷ [] = search rules in
    let count : c.len-place.result ≡ length known = search rules in
    let name : string_bytes c.in-Ok.key ≡ c.args.text = search rules in
    let changes = subst (λ t. Changes t places new (Some (length known))) name (subst (λ p. Changes (string_bytes c.in-Ok.key) places new (Some p)) count c.in-Ok-put_place.ensures.ok) in
    let few : length known < 4294967295 = omega (arith, length-texts known, ap length c.self.view_is, c.requires.few) in
    subst (λ ks. IsIndex ks new) (sym pushed)
    (index_push places new known one c.self.invariant few (subst (λ l. Lacks l c.args.text) (sym c.self.view_is) c.requires.lacks) c.requires.form changes)
