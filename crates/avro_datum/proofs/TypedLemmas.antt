-- Where the parts that are left are as their types say, all are.
use Rattle.std.proofs.Common.{◌≡◌, ℕ, ◌+◌, ◌<◌, ◌≤◌, List, length, map, drop, get_or, true, ap, sym, ◌∙◌, subst}
use Rattle.std.specs.Str.{is_utf8, IsUtf8}
use Rattle.std.proofs.lemmas.Str.{is_utf8-from_IsUtf8}
use Rattle.avro_datum.specs.declared.datum.Datum.{Datum}
use Rattle.avro_datum.specs.declared.datum.MapItem.{MapItem}
use Rattle.avro_datum.specs.Data.{value_of, item_of}
use Rattle.avro_value.specs.Value.{values_of, entries_of, IsTyped, AreTyped, EntriesTyped}
use Rattle.avro_datum.proofs.DatumLemmas.{key_is, value_is}
use Rattle.avro_value.proofs.NodeLemmas.{rest_is, none_left}

pub record ValuesSoFar (rest all : List Datum) : Type 0 where
  pub typed : AreTyped (values_of (map value_of rest)) → AreTyped (values_of (map value_of all))

pub record EntriesSoFar (rest all : List MapItem) : Type 0 where
  pub typed : EntriesTyped (entries_of (map item_of rest)) → EntriesTyped (entries_of (map item_of all))

pub values_first : (all : List Datum) → ValuesSoFar (drop 0 all) all
values_first all = record { typed = λ h. h }

pub value_more : (xs : List Datum) (i : ℕ) (x : Datum) → i < length xs → x ≡ get_or xs i x → IsTyped (value_of x) → ValuesSoFar (drop i xs) xs → ValuesSoFar (drop (i + 1) xs) xs
value_more xs i x inside is here so_far =
    record { typed = λ h. let P : List Datum → Type 0 = λ ys. AreTyped (values_of (map value_of ys)) in so_far.typed (subst P (sym (rest_is xs i x inside is)) (here, h)) }

pub values_end : (xs : List Datum) (i : ℕ) → length xs ≤ i → ValuesSoFar (drop i xs) xs → AreTyped (values_of (map value_of xs))
values_end xs i past so_far = let P : List Datum → Type 0 = λ ys. AreTyped (values_of (map value_of ys)) in so_far.typed (subst P (sym (none_left xs i past)) tt)

pub entries_first : (all : List MapItem) → EntriesSoFar (drop 0 all) all
entries_first all = record { typed = λ h. h }

-- a key is UTF-8, as the text that it is
pub text_is : (text key : List ℕ) → text ≡ key → IsUtf8 text → is_utf8 key ≡ true
text_is text key is utf8 = ap is_utf8 (sym is) ∙ is_utf8-from_IsUtf8 text utf8

pub entry_more : (xs : List MapItem) (i : ℕ) (x : MapItem) → i < length xs → x ≡ get_or xs i x → is_utf8 x.key ≡ true → IsTyped (value_of x.value) → EntriesSoFar (drop i xs) xs → EntriesSoFar (drop (i + 1) xs) xs
entry_more xs i x inside is text here so_far =
    record { typed = λ h. let P : List MapItem → Type 0 = λ ys. EntriesTyped (entries_of (map item_of ys)) in so_far.typed (subst P (sym (rest_is xs i x inside is)) (ap is_utf8 (key_is x) ∙ text, subst IsTyped (sym (value_is x)) here, h)) }

pub entries_end : (xs : List MapItem) (i : ℕ) → length xs ≤ i → EntriesSoFar (drop i xs) xs → EntriesTyped (entries_of (map item_of xs))
entries_end xs i past so_far = let P : List MapItem → Type 0 = λ ys. EntriesTyped (entries_of (map item_of ys)) in so_far.typed (subst P (sym (none_left xs i past)) tt)
