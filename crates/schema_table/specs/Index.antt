-- Schemas with their texts, and a map from each text to its place.
use Rattle.std.specs.Prelude.{◌≡◌, ℕ, ◌≤◌, List, map, length, slice_get, Option, Some, String, cond, bytes_eq}
use Rattle.std.specs.List.{AllByRecursion}
use Rattle.std.specs.BTreeMap.{BTreeMap, get_by_text}
use Rattle.avro_schema.specs.Nodes.{tree_of}
use Rattle.schema_table.specs.declared.known.Known.{Known}
use Rattle.schema_table.specs.Table.{IsForm}

-- the texts, in order
abbrev pub texts_of : List Known → List (List ℕ)
texts_of ks = map (λ k. k.text) ks

-- the entry at a text is another one, or gone, and those at others are as they were
abbrev pub Changes : {Y : Type 0} → List ℕ → BTreeMap (String Y) ℕ → BTreeMap (String Y) ℕ → Option ℕ → Type 0
Changes text old new entry = (q : List ℕ) → get_by_text new q ≡ cond (bytes_eq text q) entry (get_by_text old q)

-- each text is that of its schema, and the map leads from the texts to their places, and from no other
pub record IsIndex {Y : Type 0} (known : List Known) (places : BTreeMap (String Y) ℕ) : Type 0 where
  pub few : length known ≤ 4294967295
  pub forms : AllByRecursion (λ k. IsForm k.text (tree_of k.schema)) known
  pub placed : (place : ℕ) (text : List ℕ) → slice_get (texts_of known) place ≡ Some text → get_by_text places text ≡ Some place
  pub found : (place : ℕ) (text : List ℕ) → get_by_text places text ≡ Some place → slice_get (texts_of known) place ≡ Some text
