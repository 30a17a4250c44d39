-- From a datum's parts to those of its value.
use Rattle.std.proofs.Common.{◌≡◌, ℕ, suc, List, [], ◌∷◌, length, map, refl, sym, ap, ◌∙◌}
use Rattle.avro_datum.specs.declared.datum.Datum.{Datum}
use Rattle.avro_datum.specs.declared.datum.MapItem.{MapItem}
use Rattle.avro_datum.specs.declared.datum.Datum.TheFolds.{fold_out-MapItem, fold-roll-Datum}
use Rattle.avro_datum.specs.declared.datum.Datum.TheOpen.{Datum-F}
use Rattle.avro_datum.specs.declared.datum.Datum.TheVariants as variants
use Rattle.avro_value.specs.Value as shapes
use Rattle.avro_datum.specs.Data.{level_of, entry_of, value_of, item_of}
use Rattle.avro_value.specs.Value.{Value, Entry, values_of, entries_of, size_of, count_of}

pub size_is : (xs : List Datum) → size_of (values_of (map value_of xs)) ≡ length xs
size_is [] = refl
size_is (x ∷ xs) = ap suc (size_is xs)

pub count_is : (es : List MapItem) → count_of (entries_of (map item_of es)) ≡ length es
count_is [] = refl
count_is (e ∷ es) = ap suc (count_is es)

-- ---- an entry's parts

pub key_is : (x : MapItem) → (item_of x).key ≡ x.key
key_is x = ap (λ (e : Entry). e.key) (fold_out-MapItem Value Entry level_of entry_of x)

pub value_is : (x : MapItem) → (item_of x).value ≡ value_of x.value
value_is x = ap (λ (e : Entry). e.value) (fold_out-MapItem Value Entry level_of entry_of x)

pub symbol_value : (n : ℕ) → value_of (variants.Symbol n) ≡ shapes.symbol n
symbol_value n = ap value_of (sym (variants.rolls-Symbol n)) ∙ fold-roll-Datum Value Entry level_of entry_of (Datum-F.Symbol n)

-- ---- a datum with parts

pub fields_value : (vs : List Datum) → value_of (variants.Fields vs) ≡ shapes.fields (values_of (map value_of vs))
fields_value vs = ap value_of (sym (variants.rolls-Fields vs)) ∙ fold-roll-Datum Value Entry level_of entry_of (Datum-F.Fields vs)

pub items_value : (vs : List Datum) → value_of (variants.Items vs) ≡ shapes.items (values_of (map value_of vs))
items_value vs = ap value_of (sym (variants.rolls-Items vs)) ∙ fold-roll-Datum Value Entry level_of entry_of (Datum-F.Items vs)

pub entries_value : (es : List MapItem) → value_of (variants.Entries es) ≡ shapes.entries (entries_of (map item_of es))
entries_value es = ap value_of (sym (variants.rolls-Entries es)) ∙ fold-roll-Datum Value Entry level_of entry_of (Datum-F.Entries es)
