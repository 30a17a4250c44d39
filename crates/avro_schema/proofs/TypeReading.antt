-- From what a value is to how it is read.
use Rattle.std.proofs.Common.{◌≡◌, ℕ, zero, suc, ◌-◌, ◌<◌, List, [], ◌∷◌, ◌++◌, length, Bool, true, false, cond, Option, Some, None, Result, Err, IfOk, IfErr, inl, refl, sym, ap, ◌∙◌, subst, arith}
use Rattle.std.specs.Prelude.{codes}
use Rattle.std.specs.Str.{bytes_eq}
use Rattle.std.proofs.lemmas.Option.{slice_get_within, get_or_from_slice_get}
use Rattle.json_span.specs.Json.{Json, Items, Members, null, boolean, number, text, array, object}
use Rattle.json_token.specs.Chars.{content}
use Rattle.json_span.specs.Nodes.{Stands, kind_of}
use Rattle.json_span.specs.declared.tree.Tree.{Tree}
use Rattle.json_span.specs.declared.tree.Kind.TheVariants as kinds
use Rattle.avro_schema.specs.Types as types
use Rattle.avro_schema.specs.Types.{AvroType, Branches, Fields, definitions, branch_definitions, field_definitions}
use Rattle.avro_schema.specs.Forms.{type_at, types_of}
use Rattle.avro_schema.specs.Reading.{Outcome, Reader, reader, reads, no_level, one_level, type_by_name, union_read, object_read, object_by_word, record_read, enum_read, fixed_read, array_read, map_read, part_type}
use Rattle.json_span.specs.Parts.{last_member, IsMember}
use Rattle.avro_schema.specs.Building.{names_of, Makes, Tells}
use Rattle.avro_names.specs.Outcomes.{Why}
use Rattle.avro_schema.specs.declared.parts.Form.TheVariants.{Array, Map}
use Rattle.avro_schema.specs.declared.parts.Parts.{Parts}
use Rattle.avro_names.specs.declared.error.SchemaNo.{SchemaNo}
use Rattle.avro_names.specs.declared.error.SchemaNo.TheVariants.{BadType, TooDeep, Want}
use Rattle.avro_names.proofs.Outcomes.{next_ok, why_first}
use Rattle.avro_schema.proofs.Grown.{length-types_of}
use Rattle.avro_schema.proofs.Growth.{tells_push}
use Rattle.avro_schema.proofs.NamedLemmas.{tells_along}

-- ---- a member that was found

pub record There (tree : Tree) (o : Option Json) (k : ℕ) : Type 0 where
  pub j : Json
  pub is : o ≡ Some j
  pub stands : Stands tree k j

pub there : (tree : Tree) (o : Option Json) (k : ℕ) → IsMember tree o (Some k) → There tree o k
there tree None k h = absurd h
there tree (Some j) k h = record { j = j; is = refl; stands = h }

pub object_there : (tree : Tree) (node : ℕ) (j : Json) → Stands tree node j → ((ms : Members) × (j ≡ object ms)) → (ms : Members) × Stands tree node (object ms)
object_there tree node j h o = let P : Json → Type 0 = λ x. Stands tree node x in (o.0, subst P o.1 h)

-- ---- by the kind of a value

at_text : (canonical : Bool) (levels : ℕ) (in_union : Bool) (names : List (List ℕ)) (namespace s : List ℕ) → reader canonical levels in_union names namespace (text s) ≡ type_by_name canonical names namespace (content s)
unfolding reader
at_text canonical zero in_union names namespace s = refl
at_text canonical (suc levels) in_union names namespace s = refl

at_no_level : (canonical : Bool) (levels : ℕ) (in_union : Bool) (names : List (List ℕ)) (namespace : List ℕ) (j : Json) → levels ≡ 0 → reader canonical levels in_union names namespace j ≡ no_level canonical in_union names namespace j
unfolding reader
at_no_level canonical zero in_union names namespace j h = refl
at_no_level canonical (suc levels) in_union names namespace j h = absurd (omega arith)

at_level : (canonical : Bool) (levels : ℕ) (in_union : Bool) (names : List (List ℕ)) (namespace : List ℕ) (j : Json) → 0 < levels → reader canonical levels in_union names namespace j ≡ one_level canonical (reader canonical (levels - 1)) in_union names namespace j
unfolding reader
at_level canonical zero in_union names namespace j h = absurd (omega arith)
at_level canonical (suc levels) in_union names namespace j h =
    let same : suc levels - 1 ≡ levels = omega arith in
    ap (λ n. one_level canonical (reader canonical n) in_union names namespace j) (sym same)

in_union_array : (canonical : Bool) (levels : ℕ) (names : List (List ℕ)) (namespace : List ℕ) (js : Items) → reader canonical levels true names namespace (array js) ≡ Err BadType
unfolding reader
in_union_array canonical zero names namespace js = refl
in_union_array canonical (suc levels) names namespace js = refl

pub text_type : (tree : Tree) (node : ℕ) (canonical : Bool) (levels : ℕ) (in_union : Bool) (namespace name : List ℕ) (p q : Parts) (res : Result ℕ SchemaNo) (j : Json) → Stands tree node j → kinds.Text ≡ kind_of j → ((s : List ℕ) → Stands tree node (text s) → name ≡ content s)
    → Tells (type_by_name canonical (names_of p) namespace name) p q res → Tells (reader canonical levels in_union (names_of p) namespace j) p q res
text_type tree node canonical levels in_union namespace name p q res (text s) h k named t =
    tells_along _ _ p q res (at_text canonical levels in_union (names_of p) namespace s ∙ ap (λ n. type_by_name canonical (names_of p) namespace n) (sym (named s h))) t
text_type tree node canonical levels in_union namespace name p q res null h k named t = absurd cc
text_type tree node canonical levels in_union namespace name p q res (boolean b) h k named t = absurd cc
text_type tree node canonical levels in_union namespace name p q res (number s) h k named t = absurd cc
text_type tree node canonical levels in_union namespace name p q res (array js) h k named t = absurd cc
text_type tree node canonical levels in_union namespace name p q res (object ms) h k named t = absurd cc

pub array_type : (tree : Tree) (node : ℕ) (canonical : Bool) (levels : ℕ) (in_union : Bool) (namespace : List ℕ) (p q : Parts) (res : Result ℕ SchemaNo) (j : Json) → Stands tree node j → kinds.Array ≡ kind_of j → in_union ≡ false → 0 < levels
    → ((js : Items) → Stands tree node (array js) → Tells (union_read (reader canonical (levels - 1)) (names_of p) namespace js) p q res) → Tells (reader canonical levels in_union (names_of p) namespace j) p q res
array_type tree node canonical levels in_union namespace p q res (array js) h k outside some t =
    tells_along _ _ p q res (at_level canonical levels in_union (names_of p) namespace (array js) some ∙ ap (λ b. cond b (Err BadType) (union_read (reader canonical (levels - 1)) (names_of p) namespace js)) outside) (t js h)
array_type tree node canonical levels in_union namespace p q res null h k outside some t = absurd cc
array_type tree node canonical levels in_union namespace p q res (boolean b) h k outside some t = absurd cc
array_type tree node canonical levels in_union namespace p q res (number s) h k outside some t = absurd cc
array_type tree node canonical levels in_union namespace p q res (text s) h k outside some t = absurd cc
array_type tree node canonical levels in_union namespace p q res (object ms) h k outside some t = absurd cc

pub object_type : (tree : Tree) (node : ℕ) (canonical : Bool) (levels : ℕ) (in_union : Bool) (namespace : List ℕ) (p q : Parts) (res : Result ℕ SchemaNo) (j : Json) → Stands tree node j → kinds.Object ≡ kind_of j → 0 < levels
    → ((ms : Members) → Stands tree node (object ms) → Tells (object_read canonical (reader canonical (levels - 1)) in_union (names_of p) namespace ms (last_member (codes "type") ms)) p q res) → Tells (reader canonical levels in_union (names_of p) namespace j) p q res
object_type tree node canonical levels in_union namespace p q res (object ms) h k some t = tells_along _ _ p q res (at_level canonical levels in_union (names_of p) namespace (object ms) some) (t ms h)
object_type tree node canonical levels in_union namespace p q res null h k some t = absurd cc
object_type tree node canonical levels in_union namespace p q res (boolean b) h k some t = absurd cc
object_type tree node canonical levels in_union namespace p q res (number s) h k some t = absurd cc
object_type tree node canonical levels in_union namespace p q res (text s) h k some t = absurd cc
object_type tree node canonical levels in_union namespace p q res (array js) h k some t = absurd cc

at_null : (canonical : Bool) (levels : ℕ) (in_union : Bool) (names : List (List ℕ)) (namespace : List ℕ) → reader canonical levels in_union names namespace null ≡ Err BadType
unfolding reader
at_null canonical zero in_union names namespace = refl
at_null canonical (suc levels) in_union names namespace = refl

at_boolean : (canonical : Bool) (levels : ℕ) (in_union : Bool) (names : List (List ℕ)) (namespace : List ℕ) (b : Bool) → reader canonical levels in_union names namespace (boolean b) ≡ Err BadType
unfolding reader
at_boolean canonical zero in_union names namespace b = refl
at_boolean canonical (suc levels) in_union names namespace b = refl

at_number : (canonical : Bool) (levels : ℕ) (in_union : Bool) (names : List (List ℕ)) (namespace s : List ℕ) → reader canonical levels in_union names namespace (number s) ≡ Err BadType
unfolding reader
at_number canonical zero in_union names namespace s = refl
at_number canonical (suc levels) in_union names namespace s = refl

module _ (canonical : Bool) (levels : ℕ) (in_union : Bool) (names : List (List ℕ)) (namespace : List ℕ) where
  pub union_in_union : (j : Json) → kinds.Array ≡ kind_of j → in_union ≡ true → Why (reader canonical levels in_union names namespace j) BadType
  union_in_union (array js) k inside = inl (ap (λ b. reader canonical levels b names namespace (array js)) inside ∙ in_union_array canonical levels names namespace js)
  union_in_union null k inside = absurd cc
  union_in_union (boolean b) k inside = absurd cc
  union_in_union (number s) k inside = absurd cc
  union_in_union (text s) k inside = absurd cc
  union_in_union (object ms) k inside = absurd cc

  pub array_too_deep : (j : Json) → kinds.Array ≡ kind_of j → in_union ≡ false → levels ≡ 0 → Why (reader canonical levels in_union names namespace j) TooDeep
  array_too_deep (array js) k outside none = inl (at_no_level canonical levels in_union names namespace (array js) none ∙ ap (λ b. Err (cond b BadType TooDeep)) outside)
  array_too_deep null k outside none = absurd cc
  array_too_deep (boolean b) k outside none = absurd cc
  array_too_deep (number s) k outside none = absurd cc
  array_too_deep (text s) k outside none = absurd cc
  array_too_deep (object ms) k outside none = absurd cc

  pub object_too_deep : (j : Json) → kinds.Object ≡ kind_of j → levels ≡ 0 → Why (reader canonical levels in_union names namespace j) TooDeep
  object_too_deep (object ms) k none = inl (at_no_level canonical levels in_union names namespace (object ms) none)
  object_too_deep null k none = absurd cc
  object_too_deep (boolean b) k none = absurd cc
  object_too_deep (number s) k none = absurd cc
  object_too_deep (text s) k none = absurd cc
  object_too_deep (array js) k none = absurd cc

  -- neither a text nor an array nor an object
  pub other_type : (j : Json) → (kind_of j ≡ kinds.Text → ⊥) → (kind_of j ≡ kinds.Array → ⊥) → (kind_of j ≡ kinds.Object → ⊥) → Why (reader canonical levels in_union names namespace j) BadType
  other_type null a b c = inl (at_null canonical levels in_union names namespace)
  other_type (boolean t) a b c = inl (at_boolean canonical levels in_union names namespace t)
  other_type (number s) a b c = inl (at_number canonical levels in_union names namespace s)
  other_type (text s) a b c = absurd (a refl)
  other_type (array js) a b c = absurd (b refl)
  other_type (object ms) a b c = absurd (c refl)

-- ---- objects

pub object_word : (canonical : Bool) (below : Reader) (in_union : Bool) (namespace : List ℕ) (ms : Members) (o : Option Json) (j : Json) (s word : List ℕ) (p q : Parts) (res : Result ℕ SchemaNo) → o ≡ Some j → j ≡ text s → word ≡ content s
    → Tells (object_by_word canonical below (names_of p) namespace ms word) p q res → Tells (object_read canonical below in_union (names_of p) namespace ms o) p q res
object_word canonical below in_union namespace ms o j s word p q res is is_text named t =
    tells_along _ _ p q res (ap (λ x. object_read canonical below in_union (names_of p) namespace ms x) (is ∙ ap (λ y. Some y) is_text) ∙ ap (λ w. object_by_word canonical below (names_of p) namespace ms w) (sym named)) t

wrapped : (canonical : Bool) (below : Reader) (in_union : Bool) (names : List (List ℕ)) (namespace : List ℕ) (ms : Members) (j : Json) → ((s : List ℕ) → j ≡ text s → ⊥) → object_read canonical below in_union names namespace ms (Some j) ≡ below in_union names namespace j
wrapped canonical below in_union names namespace ms null h = refl
wrapped canonical below in_union names namespace ms (boolean b) h = refl
wrapped canonical below in_union names namespace ms (number s) h = refl
wrapped canonical below in_union names namespace ms (text s) h = absurd (h s refl)
wrapped canonical below in_union names namespace ms (array js) h = refl
wrapped canonical below in_union names namespace ms (object xs) h = refl

pub object_wrapped : (canonical : Bool) (below : Reader) (in_union : Bool) (namespace : List ℕ) (ms : Members) (o : Option Json) (j : Json) (p q : Parts) (res : Result ℕ SchemaNo) → o ≡ Some j → ((s : List ℕ) → j ≡ text s → ⊥)
    → Tells (below in_union (names_of p) namespace j) p q res → Tells (object_read canonical below in_union (names_of p) namespace ms o) p q res
object_wrapped canonical below in_union namespace ms o j p q res is other t =
    tells_along _ _ p q res (ap (λ x. object_read canonical below in_union (names_of p) namespace ms x) is ∙ wrapped canonical below in_union (names_of p) namespace ms j other) t

-- ---- by the word

abbrev by : {T : Type 0} → Bool → Bool → Bool → Bool → Bool → T → T → T → T → T → T → T
by a b c d e u v w x y z = cond a u (cond b v (cond c w (cond d x (cond e y z))))

module _ (canonical : Bool) (below : Reader) (names : List (List ℕ)) (namespace : List ℕ) (ms : Members) (word : List ℕ) where
  pub is_record : bytes_eq word (codes "record") ≡ true → object_by_word canonical below names namespace ms word ≡ record_read canonical below names namespace ms
  unfolding object_by_word
  is_record a = ap (λ t. by t (bytes_eq word (codes "enum")) (bytes_eq word (codes "array")) (bytes_eq word (codes "map")) (bytes_eq word (codes "fixed")) (record_read canonical below names namespace ms)
      (enum_read canonical names namespace ms) (array_read below names namespace ms) (map_read below names namespace ms) (fixed_read canonical names namespace ms) (type_by_name canonical names namespace word)) a

  pub is_enum : bytes_eq word (codes "record") ≡ false → bytes_eq word (codes "enum") ≡ true → object_by_word canonical below names namespace ms word ≡ enum_read canonical names namespace ms
  unfolding object_by_word
  is_enum a b = rw (a, b) refl

  pub is_array : bytes_eq word (codes "record") ≡ false → bytes_eq word (codes "enum") ≡ false → bytes_eq word (codes "array") ≡ true → object_by_word canonical below names namespace ms word ≡ array_read below names namespace ms
  unfolding object_by_word
  is_array a b c = rw (a, b, c) refl

  pub is_map : bytes_eq word (codes "record") ≡ false → bytes_eq word (codes "enum") ≡ false → bytes_eq word (codes "array") ≡ false → bytes_eq word (codes "map") ≡ true → object_by_word canonical below names namespace ms word ≡ map_read below names namespace ms
  unfolding object_by_word
  is_map a b c d = rw (a, b, c, d) refl

  pub is_fixed : bytes_eq word (codes "record") ≡ false → bytes_eq word (codes "enum") ≡ false → bytes_eq word (codes "array") ≡ false → bytes_eq word (codes "map") ≡ false → bytes_eq word (codes "fixed") ≡ true
      → object_by_word canonical below names namespace ms word ≡ fixed_read canonical names namespace ms
  unfolding object_by_word
  is_fixed a b c d e = rw (a, b, c, d, e) refl

  pub is_name : bytes_eq word (codes "record") ≡ false → bytes_eq word (codes "enum") ≡ false → bytes_eq word (codes "array") ≡ false → bytes_eq word (codes "map") ≡ false → bytes_eq word (codes "fixed") ≡ false
      → object_by_word canonical below names namespace ms word ≡ type_by_name canonical names namespace word
  unfolding object_by_word
  is_name a b c d e = rw (a, b, c, d, e) refl

-- ---- arrays and maps

made_place : (o : Outcome AvroType) (p q : Parts) (k : ℕ) → (m : Makes o p q k) → type_at (types_of q.nodes.items) k ≡ m.t
made_place o p q k m = get_or_from_slice_get (types_of q.nodes.items) k m.t types.null m.stands

pub array_tells : (below : Reader) (namespace : List ℕ) (ms : Members) (p q r : Parts) (k : ℕ) (res : Result ℕ SchemaNo) → Makes (part_type below (names_of p) namespace (last_member (codes "items") ms)) p q k
    → IfOk res (λ n. (n ≡ length q.nodes.items) × (r.nodes.items ≡ q.nodes.items ++ (Array k ∷ []))) → IfErr res (λ e. e ≡ Want) → r.definitions ≡ q.definitions → Tells (array_read below (names_of p) namespace ms) p r res
array_tells below namespace ms p q r k res m ok want d =
    let far = slice_get_within (types_of q.nodes.items) k m.t m.stands in
    let size = length-types_of q.nodes.items in
    tells_push _ p q r (Array k) (types.array m.t) res (definitions m.t) m.grows
    (next_ok (part_type below (names_of p) namespace (last_member (codes "items") ms)) (record { value = m.t; names = names_of q }) (λ t. reads (types.array t.value) t.names) m.is)
    ok want d (omega arith) tt (λ name e x. absurd cc) (ap (λ t. types.array t) (made_place _ p q k m)) refl

pub map_tells : (below : Reader) (namespace : List ℕ) (ms : Members) (p q r : Parts) (k : ℕ) (res : Result ℕ SchemaNo) → Makes (part_type below (names_of p) namespace (last_member (codes "values") ms)) p q k
    → IfOk res (λ n. (n ≡ length q.nodes.items) × (r.nodes.items ≡ q.nodes.items ++ (Map k ∷ []))) → IfErr res (λ e. e ≡ Want) → r.definitions ≡ q.definitions → Tells (map_read below (names_of p) namespace ms) p r res
map_tells below namespace ms p q r k res m ok want d =
    let far = slice_get_within (types_of q.nodes.items) k m.t m.stands in
    let size = length-types_of q.nodes.items in
    tells_push _ p q r (Map k) (types.map m.t) res (definitions m.t) m.grows
    (next_ok (part_type below (names_of p) namespace (last_member (codes "values") ms)) (record { value = m.t; names = names_of q }) (λ t. reads (types.map t.value) t.names) m.is)
    ok want d (omega arith) tt (λ name e x. absurd cc) (ap (λ t. types.map t) (made_place _ p q k m)) refl

pub array_why : (below : Reader) (names : List (List ℕ)) (namespace : List ℕ) (ms : Members) (e : SchemaNo) → Why (part_type below names namespace (last_member (codes "items") ms)) e → Why (array_read below names namespace ms) e
array_why below names namespace ms e w = why_first _ (λ t. reads (types.array t.value) t.names) e w

pub map_why : (below : Reader) (names : List (List ℕ)) (namespace : List ℕ) (ms : Members) (e : SchemaNo) → Why (part_type below names namespace (last_member (codes "values") ms)) e → Why (map_read below names namespace ms) e
map_why below names namespace ms e w = why_first _ (λ t. reads (types.map t.value) t.names) e w
