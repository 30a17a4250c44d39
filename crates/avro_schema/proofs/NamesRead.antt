-- From what was read to the names that differ in it.
use Rattle.std.proofs.Common.{◌≡◌, ℕ, ◌<◌, List, [], ◌∷◌, ◌++◌, Bool, true, false, ◌||◌, refl, ap, ◌∙◌, subst, arith}
use Rattle.std.specs.Str.{bytes_eq, is_utf8, IsAscii}
use Rattle.std.proofs.lemmas.Slice.Eq.{bytes_eq-Decides}
use Rattle.std.proofs.lemmas.Str.{IsUtf8-from_ascii, is_utf8-from_IsUtf8}
use Rattle.std.proofs.lemmas.Str.Ascii.{IsAscii-nil, IsAscii-cons}
use Rattle.std.proofs.lemmas.Bool.Decides.{nat_tests}
use Rattle.avro_schema.specs.Types.{AvroType, Branches, Fields, null, boolean, int, long, bytes, string, array, map, union, fixed, enum_, record_, named, no_branches, branch, no_fields, field, branch_name}
use Rattle.avro_schema.specs.Canonical.{canonical_form}
use Rattle.avro_names.specs.NameList.{is_among}
use Rattle.avro_schema.specs.Reading.{ReadsAs}
use Rattle.avro_schema.specs.Forms.{type_at, types_of, IsSchema}
use Rattle.avro_schema.specs.Nodes.{SchemaValue, tree_of}
use Rattle.avro_schema.specs.declared.parts.Form.{Form}
use Rattle.avro_names.specs.declared.definitions.Definition.{Definition}
use Rattle.avro_schema.specs.Distinct.{AreDistinct, HasNames, BranchesHaveNames, FieldsHaveNames, branch_names, field_names}
use Rattle.avro_names.proofs.NameLemmas.{and_first, and_second}
use Rattle.avro_schema.proofs.PlainNames.{is_plain_byte, is_plain_text, part_plain, definable_plain, same_bytes}
use Rattle.avro_schema.proofs.Again.{Good, GoodSymbols, GoodBranches, GoodFields}
use Rattle.avro_schema.proofs.GoodReading.{reader_good}
use Rattle.avro_schema.proofs.ReadBack.{whole, short_is}

-- ---- each name isn't among those before it

abbrev Fresh : List (List ℕ) → List (List ℕ) → Type 0
Fresh seen [] = Unit {0}
Fresh seen (n ∷ ns) = (is_plain_text n ≡ true) × (is_among n seen ≡ false) × Fresh (seen ++ (n ∷ [])) ns

byte_small : (b : ℕ) → is_plain_byte b ≡ true → b < 128
byte_small b h = grind (arith, nat_tests)

plain_ascii : (s : List ℕ) → is_plain_text s ≡ true → IsAscii s
plain_ascii [] h = IsAscii-nil
plain_ascii (b ∷ bs) h = IsAscii-cons b bs (byte_small b (and_first _ _ h)) (plain_ascii bs (and_second _ _ h))

plain_utf8 : (s : List ℕ) → is_plain_text s ≡ true → is_utf8 s ≡ true
plain_utf8 s h = is_utf8-from_IsUtf8 s (IsUtf8-from_ascii s (plain_ascii s h))

or_with : (a b : Bool) → b ≡ true → (a || b) ≡ true
or_with true b h = refl
or_with false b h = h

among_last : (n : List ℕ) (seen : List (List ℕ)) → is_among n (seen ++ (n ∷ [])) ≡ true
among_last n [] = ap (λ t. t || false) ((bytes_eq-Decides n n).1 refl)
among_last n (x ∷ seen) = or_with (bytes_eq x n) (is_among n (seen ++ (n ∷ []))) (among_last n seen)

among_by : (first rest more : Bool) → (first || rest) ≡ true → (rest ≡ true → more ≡ true) → (first || more) ≡ true
among_by true rest more h f = refl
among_by false rest more h f = f h

among_more : (x n : List ℕ) (seen : List (List ℕ)) → is_among x seen ≡ true → is_among x (seen ++ (n ∷ [])) ≡ true
among_more x n [] h = absurd cc
among_more x n (y ∷ seen) h = among_by (bytes_eq y x) (is_among x seen) (is_among x (seen ++ (n ∷ []))) h (λ i. among_more x n seen i)

apart : (x n : List ℕ) (seen : List (List ℕ)) (test : Bool) → bytes_eq n x ≡ test → is_among x seen ≡ true → is_among n seen ≡ false → test ≡ false
apart x n seen false e h k = refl
apart x n seen true e h k = let again : is_among n seen ≡ true = ap (λ y. is_among y seen) (same_bytes n x e) ∙ h in absurd cc

-- a name from before isn't among what is fresh
not_fresh : (x : List ℕ) (seen ns : List (List ℕ)) → is_among x seen ≡ true → Fresh seen ns → is_among x ns ≡ false
not_fresh x seen [] h f = refl
not_fresh x seen (n ∷ ns) h f = ap (λ t. t || is_among x ns) (apart x n seen (bytes_eq n x) refl h f.1) ∙ not_fresh x (seen ++ (n ∷ [])) ns (among_more x n seen h) f.2

fresh_distinct : (seen ns : List (List ℕ)) → Fresh seen ns → AreDistinct ns
fresh_distinct seen [] f = tt
fresh_distinct seen (n ∷ ns) f = (plain_utf8 n f.0, not_fresh n (seen ++ (n ∷ [])) ns (among_last n seen) f.2, fresh_distinct (seen ++ (n ∷ [])) ns f.2)

-- ---- the names of what reads

symbols_fresh : (seen ss : List (List ℕ)) → GoodSymbols seen ss → Fresh seen ss
symbols_fresh seen [] g = tt
symbols_fresh seen (s ∷ ss) g = (part_plain s g.0, g.1, symbols_fresh (seen ++ (s ∷ [])) ss g.2)

branch_plain : (n : ℕ) (u : Bool) (names : List (List ℕ)) (t : AvroType) (now : List (List ℕ)) → Good n u names t now → is_plain_text (branch_name t) ≡ true
branch_plain n u names null now g = refl
branch_plain n u names boolean now g = refl
branch_plain n u names int now g = refl
branch_plain n u names long now g = refl
branch_plain n u names bytes now g = refl
branch_plain n u names string now g = refl
branch_plain n u names (array t) now g = refl
branch_plain n u names (map t) now g = refl
branch_plain n u names (union bs) now g = refl
branch_plain n u names (fixed name size) now g = definable_plain name g.2.good
branch_plain n u names (enum_ name ss) now g = definable_plain name g.2.good
branch_plain n u names (record_ name fs) now g = definable_plain name g.2.good
branch_plain n u names (named name) now g = definable_plain name g.1

branches_fresh : (m : ℕ) (names seen : List (List ℕ)) (bs : Branches) (now : List (List ℕ)) → GoodBranches m names seen bs now → Fresh seen (branch_names bs)
branches_fresh m names seen no_branches now g = tt
branches_fresh m names seen (branch t bs) now g = (branch_plain m true names t g.0 g.1, g.2, branches_fresh m g.0 (seen ++ (branch_name t ∷ [])) bs now g.3)

fields_fresh : (m : ℕ) (names seen : List (List ℕ)) (fs : Fields) (now : List (List ℕ)) → GoodFields m names seen fs now → Fresh seen (field_names fs)
fields_fresh m names seen no_fields now g = tt
fields_fresh m names seen (field name t fs) now g = (part_plain name g.1, g.2, fields_fresh m g.0 (seen ++ (name ∷ [])) fs now g.4)

mutual
  good_names : (n : ℕ) (u : Bool) (names : List (List ℕ)) (t : AvroType) (now : List (List ℕ)) → Good n u names t now → HasNames t
  good_names n u names null now g = tt
  good_names n u names boolean now g = tt
  good_names n u names int now g = tt
  good_names n u names long now g = tt
  good_names n u names bytes now g = tt
  good_names n u names string now g = tt
  good_names n u names (array t) now g = good_names g.0 false names t now g.2
  good_names n u names (map t) now g = good_names g.0 false names t now g.2
  good_names n u names (union bs) now g = (fresh_distinct [] (branch_names bs) (branches_fresh g.0 names [] bs now g.3), branches_names g.0 names [] bs now g.3)
  good_names n u names (fixed name size) now g = tt
  good_names n u names (enum_ name ss) now g = fresh_distinct [] ss (symbols_fresh [] ss g.3)
  good_names n u names (record_ name fs) now g =
      (fresh_distinct [] (field_names fs) (fields_fresh g.0 (names ++ (name ∷ [])) [] fs now g.3), fields_names g.0 (names ++ (name ∷ [])) [] fs now g.3)
  good_names n u names (named name) now g = tt

  branches_names : (m : ℕ) (names seen : List (List ℕ)) (bs : Branches) (now : List (List ℕ)) → GoodBranches m names seen bs now → BranchesHaveNames bs
  branches_names m names seen no_branches now g = tt
  branches_names m names seen (branch t bs) now g = (good_names m true names t g.0 g.1, branches_names m g.0 (seen ++ (branch_name t ∷ [])) bs now g.3)

  fields_names : (m : ℕ) (names seen : List (List ℕ)) (fs : Fields) (now : List (List ℕ)) → GoodFields m names seen fs now → FieldsHaveNames fs
  fields_names m names seen no_fields now g = tt
  fields_names m names seen (field name t fs) now g = (good_names m false names t g.0 g.3, fields_names m g.0 (seen ++ (name ∷ [])) fs now g.4)

-- a schema that was read has names that differ
pub reads_names : (canonical : Bool) (source : List ℕ) (t : AvroType) → ReadsAs canonical source t → HasNames t
reads_names canonical source t h =
    let w = whole canonical h.0 t h.2 in
    subst HasNames (short_is w.r.value t w.short) (good_names 64 false [] w.r.value w.r.names (reader_good canonical 64 false [] [] h.0 w.r tt w.is).good)

-- the same at the schema that contracts see
pub value_has_names : (s : SchemaValue) (nodes : List Form) (ds : List Definition) (root : ℕ) → ◌≡◌ {A = SchemaValue} (record { nodes = nodes; root = root }) s → IsSchema nodes ds root → HasNames (tree_of s)
value_has_names s nodes ds root seen is =
    let P : SchemaValue → Type 0 = λ x. HasNames (tree_of x) in
    let tree : AvroType = type_at (types_of nodes) root in
    subst P seen (reads_names true (canonical_form tree) tree is.again)
