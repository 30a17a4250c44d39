-- From distinct names to the place and the value that each of them has.
use Rattle.std.proofs.Common.{◌≡◌, ℕ, zero, suc, List, [], ◌∷◌, Bool, true, false, cond, ◌||◌, Some, None, refl, sym, ap, ◌∙◌, subst}
use Rattle.std.specs.Prelude.{slice_get, option_map}
use Rattle.std.specs.Str.{bytes_eq, is_utf8}
use Rattle.std.proofs.lemmas.Slice.Eq.{bytes_eq-Decides}
use Rattle.avro_schema.specs.Types as schema
use Rattle.avro_schema.specs.Types.{AvroType, Branches, Fields, branch_name}
use Rattle.avro_names.specs.NameList.{is_among}
use Rattle.avro_schema.specs.Distinct.{AreDistinct, HasNames, BranchesHaveNames, branch_names}
use Rattle.json_span.specs.Json as json
use Rattle.json_span.specs.Json.{Json, Members}
use Rattle.json_token.specs.Chars.{content}
use Rattle.avro_value.specs.Value.{Values, no_values, value}
use Rattle.avro_value.specs.Judging.{branch_at}
use Rattle.json_span.specs.Parts.{last_member, later}
use Rattle.avro_value.specs.Encoding.{place_of, names_of, AreFields}

same : (a b : List ℕ) → bytes_eq a b ≡ true → a ≡ b
same a b h = (bytes_eq-Decides a b).0 h

pub equal : (a b : List ℕ) → a ≡ b → bytes_eq a b ≡ true
equal a b h = (bytes_eq-Decides a b).1 h

or_first : (a b : Bool) → (a || b) ≡ false → a ≡ false
or_first false b h = refl
or_first true b h = h

or_second : (a b : Bool) → (a || b) ≡ false → b ≡ false
or_second false b h = h
or_second true b h = absurd cc

-- a name among others differs from each of them
differs : (name : List ℕ) (names : List (List ℕ)) (n : ℕ) (s : List ℕ) → is_among name names ≡ false → slice_get names n ≡ Some s → bytes_eq s name ≡ false
differs name [] n s h e = absurd cc
differs name (x ∷ names) zero s h e = let here : x ≡ s = cc in sym (ap (λ y. bytes_eq y name) here) ∙ or_first _ _ h
differs name (x ∷ names) (suc n) s h e = differs name names n s (or_second _ _ h) e

turned : (a b : List ℕ) (test : Bool) → bytes_eq a b ≡ test → bytes_eq b a ≡ false → test ≡ false
turned a b false e h = refl
turned a b true e h = let again : bytes_eq b a ≡ true = equal b a (sym (same a b e)) in absurd cc

-- the place of a name is where it stands
pub place_is : (names : List (List ℕ)) (n : ℕ) (s : List ℕ) → AreDistinct names → slice_get names n ≡ Some s → place_of s names ≡ Some n
place_is [] n s d e = absurd cc
place_is (x ∷ names) zero s d e = let here : x ≡ s = cc in ap (λ t. cond t (Some 0) (option_map suc (place_of s names))) (equal x s here)
place_is (x ∷ names) (suc n) s d e =
    let not_here : bytes_eq x s ≡ false = turned x s (bytes_eq x s) refl (differs x names n s d.1 e) in
    ap (λ t. cond t (Some 0) (option_map suc (place_of s names))) not_here ∙ ap (option_map suc) (place_is names n s d.2 e)

pub name_utf8 : (names : List (List ℕ)) (n : ℕ) (s : List ℕ) → AreDistinct names → slice_get names n ≡ Some s → is_utf8 s ≡ true
name_utf8 [] n s d e = absurd cc
name_utf8 (x ∷ names) zero s d e = let here : x ≡ s = cc in sym (ap is_utf8 here) ∙ d.0
name_utf8 (x ∷ names) (suc n) s d e = name_utf8 names n s d.2 e

-- ---- branches

pub branch_name_at : (ts : Branches) (n : ℕ) (u : AvroType) → branch_at ts n ≡ Some u → slice_get (branch_names ts) n ≡ Some (branch_name u)
branch_name_at schema.no_branches n u e = absurd cc
branch_name_at (schema.branch t ts) zero u e = let here : t ≡ u = cc in ap (λ y. Some (branch_name y)) here
branch_name_at (schema.branch t ts) (suc n) u e = branch_name_at ts n u e

pub branch_has_names : (ts : Branches) (n : ℕ) (u : AvroType) → BranchesHaveNames ts → branch_at ts n ≡ Some u → HasNames u
branch_has_names schema.no_branches n u h e = absurd cc
branch_has_names (schema.branch t ts) zero u h e = let here : t ≡ u = cc in subst HasNames here h.0
branch_has_names (schema.branch t ts) (suc n) u h e = branch_has_names ts n u h.1 e

-- ---- members

pub not_named : (name : List ℕ) (ms : Members) → is_among name (names_of ms) ≡ false → last_member name ms ≡ None
not_named name json.no_members h = refl
not_named name (json.member s j ms) h =
    ap (λ o. later o (cond (bytes_eq (content s) name) (Some j) None)) (not_named name ms (or_second _ _ h)) ∙ ap (λ t. cond t (Some j) None) (or_first _ _ h)

-- the first member, where no other has its name
pub first_named : (name s : List ℕ) (j : Json) (ms : Members) → content s ≡ name → is_among name (names_of ms) ≡ false → last_member name (json.member s j ms) ≡ Some j
first_named name s j ms e h =
    ap (λ o. later o (cond (bytes_eq (content s) name) (Some j) None)) (not_named name ms h) ∙ ap (λ t. cond t (Some j) None) (equal (content s) name e)

-- a field's member is the last of its name behind another too
pub fields_behind : (whole : AvroType) (ts : Fields) (vs : Values) (s : List ℕ) (j : Json) (ms : Members) → AreFields whole ts vs ms → AreFields whole ts vs (json.member s j ms)
fields_behind whole ts no_values s j ms a = a
fields_behind whole ts (value v vs) s j ms a =
    let found : last_member a.0 (json.member s j ms) ≡ Some a.4 = ap (λ o. later o (cond (bytes_eq (content s) a.0) (Some j) None)) a.5 in
    (a.0, a.1, a.2, a.3, a.4, found, a.6, fields_behind whole a.2 vs s j ms a.7)
