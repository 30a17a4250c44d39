-- From a name to the type that it stands for.
use Rattle.std.proofs.Common.{◌≡◌, ℕ, List, [], ◌∷◌, ◌++◌, length, Bool, true, false, cond, Option, Some, None, Result, Ok, Err, IfOk, IfErr, inl, refl, sym, ap, ◌∙◌, subst}
use Rattle.std.specs.Str.{bytes_eq}
use Rattle.std.specs.Prelude.{codes}
use Rattle.avro_schema.specs.Types as types
use Rattle.avro_schema.specs.Types.{AvroType, definitions}
use Rattle.avro_names.specs.Names.{is_float}
use Rattle.avro_schema.specs.Forms.{type_of, types_of, AreBefore, IsNamed}
use Rattle.avro_schema.specs.Reading.{Outcome, reads, known, type_by_name}
use Rattle.avro_names.specs.MemberNames.{full_name}
use Rattle.avro_schema.specs.Building.{names_of, IsBuilt, Tells, primitive_form}
use Rattle.avro_names.specs.Definitions.{FirstNamed, FindsName}
use Rattle.avro_names.specs.Outcomes.{Why}
use Rattle.avro_schema.specs.declared.parts.Form.{Form}
use Rattle.avro_schema.specs.declared.parts.Form.TheVariants.{Null, Boolean, Int, Long, Bytes, Text, Named}
use Rattle.avro_schema.specs.declared.parts.Parts.{Parts}
use Rattle.avro_names.specs.declared.error.SchemaNo.{SchemaNo}
use Rattle.avro_names.specs.declared.error.SchemaNo.TheVariants.{UnknownName, Float, Want}
use Rattle.avro_schema.proofs.Growth.{grows_refl, tells_push}
use Rattle.avro_names.proofs.DefinitionLemmas.{first_among}

-- a form that stands alone
abbrev pub IsLeaf : Form → Type 0
IsLeaf f = ((n : ℕ) → AreBefore n f) × ((name : List ℕ) (d : ℕ) → f ≡ Named name d → ⊥) × ((ts : List AvroType) → definitions (type_of ts f) ≡ []) × ((ts : List AvroType) → IsNamed ts f)

-- what the tests of a name choose
abbrev chosen : {T : Type 0} → Bool → Bool → Bool → Bool → Bool → Bool → T → T → T → T → T → T → T → T
chosen a b c d e f u v w x y z other = cond a u (cond b v (cond c w (cond d x (cond e y (cond f z other)))))

leaf_chosen : (names : List (List ℕ)) (other : Outcome AvroType) (a b c d e f : Bool) (form : Form)
    → chosen a b c d e f (Some Null) (Some Boolean) (Some Int) (Some Long) (Some Bytes) (Some Text) None ≡ Some form
    → IsLeaf form × ((ts : List AvroType) → chosen a b c d e f (reads types.null names) (reads types.boolean names) (reads types.int names) (reads types.long names) (reads types.bytes names) (reads types.string names) other ≡ reads (type_of ts form) names)
leaf_chosen names other true b c d e f form h = let P : Form → Type 0 = λ g. IsLeaf g × ((ts : List AvroType) → reads types.null names ≡ reads (type_of ts g) names) in let same : Null ≡ form = cc in subst P same ((λ n. tt, λ name i q. cc, λ ts. refl, λ ts. tt), λ ts. refl)
leaf_chosen names other false true c d e f form h = let P : Form → Type 0 = λ g. IsLeaf g × ((ts : List AvroType) → reads types.boolean names ≡ reads (type_of ts g) names) in let same : Boolean ≡ form = cc in subst P same ((λ n. tt, λ name i q. cc, λ ts. refl, λ ts. tt), λ ts. refl)
leaf_chosen names other false false true d e f form h = let P : Form → Type 0 = λ g. IsLeaf g × ((ts : List AvroType) → reads types.int names ≡ reads (type_of ts g) names) in let same : Int ≡ form = cc in subst P same ((λ n. tt, λ name i q. cc, λ ts. refl, λ ts. tt), λ ts. refl)
leaf_chosen names other false false false true e f form h = let P : Form → Type 0 = λ g. IsLeaf g × ((ts : List AvroType) → reads types.long names ≡ reads (type_of ts g) names) in let same : Long ≡ form = cc in subst P same ((λ n. tt, λ name i q. cc, λ ts. refl, λ ts. tt), λ ts. refl)
leaf_chosen names other false false false false true f form h = let P : Form → Type 0 = λ g. IsLeaf g × ((ts : List AvroType) → reads types.bytes names ≡ reads (type_of ts g) names) in let same : Bytes ≡ form = cc in subst P same ((λ n. tt, λ name i q. cc, λ ts. refl, λ ts. tt), λ ts. refl)
leaf_chosen names other false false false false false true form h = let P : Form → Type 0 = λ g. IsLeaf g × ((ts : List AvroType) → reads types.string names ≡ reads (type_of ts g) names) in let same : Text ≡ form = cc in subst P same ((λ n. tt, λ name i q. cc, λ ts. refl, λ ts. tt), λ ts. refl)
leaf_chosen names other false false false false false false form h = absurd cc

other_chosen : (names : List (List ℕ)) (other : Outcome AvroType) (a b c d e f : Bool) → ◌≡◌ {A = Option Form} (chosen a b c d e f (Some Null) (Some Boolean) (Some Int) (Some Long) (Some Bytes) (Some Text) None) None
    → chosen a b c d e f (reads types.null names) (reads types.boolean names) (reads types.int names) (reads types.long names) (reads types.bytes names) (reads types.string names) other ≡ other
other_chosen names other true b c d e f h = absurd cc
other_chosen names other false true c d e f h = absurd cc
other_chosen names other false false true d e f h = absurd cc
other_chosen names other false false false true e f h = absurd cc
other_chosen names other false false false false true f h = absurd cc
other_chosen names other false false false false false true h = absurd cc
other_chosen names other false false false false false false h = refl

by_primitive : (canonical : Bool) (names : List (List ℕ)) (namespace name : List ℕ) (form : Form) → primitive_form name ≡ Some form
    → IsLeaf form × ((ts : List AvroType) → type_by_name canonical names namespace name ≡ reads (type_of ts form) names)
unfolding type_by_name primitive_form
by_primitive canonical names namespace name form h =
    leaf_chosen names _ (bytes_eq name (codes "null")) (bytes_eq name (codes "boolean")) (bytes_eq name (codes "int")) (bytes_eq name (codes "long")) (bytes_eq name (codes "bytes")) (bytes_eq name (codes "string")) form h

by_other : (canonical : Bool) (names : List (List ℕ)) (namespace name : List ℕ) → primitive_form name ≡ None
    → type_by_name canonical names namespace name ≡ cond (is_float name) (Err Float) (known names (full_name canonical namespace name))
unfolding type_by_name primitive_form
by_other canonical names namespace name h =
    other_chosen names _ (bytes_eq name (codes "null")) (bytes_eq name (codes "boolean")) (bytes_eq name (codes "int")) (bytes_eq name (codes "long")) (bytes_eq name (codes "bytes")) (bytes_eq name (codes "string")) h

pub primitive_tells : (p q : Parts) (canonical : Bool) (namespace name : List ℕ) (form : Form) (res : Result ℕ SchemaNo) → IsBuilt p → primitive_form name ≡ Some form
    → IfOk res (λ k. (k ≡ length p.nodes.items) × (q.nodes.items ≡ p.nodes.items ++ (form ∷ []))) → IfErr res (λ e. e ≡ Want) → q.definitions ≡ p.definitions → Tells (type_by_name canonical (names_of p) namespace name) p q res
primitive_tells p q canonical namespace name form res b h ok want d =
    let by = by_primitive canonical (names_of p) namespace name form h in
    tells_push _ p p q form (type_of (types_of p.nodes.items) form) res [] (grows_refl p b) (by.1 (types_of p.nodes.items)) ok want d (by.0.0 (length p.nodes.items)) (by.0.3 (types_of p.nodes.items)) (λ n i e. absurd (by.0.1 n i e)) refl (by.0.2 (types_of p.nodes.items))

pub float_why : (canonical : Bool) (names : List (List ℕ)) (namespace name : List ℕ) → primitive_form name ≡ None → is_float name ≡ true → Why (type_by_name canonical names namespace name) Float
float_why canonical names namespace name h f = inl (by_other canonical names namespace name h ∙ ap (λ t. cond t (Err Float) (known names (full_name canonical namespace name))) f)

pub known_is : (canonical : Bool) (names : List (List ℕ)) (namespace name : List ℕ) → primitive_form name ≡ None → is_float name ≡ false → type_by_name canonical names namespace name ≡ known names (full_name canonical namespace name)
known_is canonical names namespace name h f = by_other canonical names namespace name h ∙ ap (λ t. cond t (Err Float) (known names (full_name canonical namespace name))) f

pub tells_along : (o u : Outcome AvroType) (p q : Parts) (res : Result ℕ SchemaNo) → o ≡ u → Tells u p q res → Tells o p q res
tells_along o u p q res e h = let P : Outcome AvroType → Type 0 = λ x. Tells x p q res in subst P (sym e) h

pub reference_tells : (p q : Parts) (name : List ℕ) (d : ℕ) (res : Result ℕ SchemaNo) → IsBuilt p → FirstNamed p.definitions name d
    → IfOk res (λ k. (k ≡ length p.nodes.items) × (q.nodes.items ≡ p.nodes.items ++ (Named name d ∷ []))) → IfErr res (λ e. e ≡ Want) → q.definitions ≡ p.definitions → Tells (known (names_of p) name) p q res
reference_tells p q name d res b first ok want same =
    let is : known (names_of p) name ≡ Ok (record { value = types.named name; names = names_of p }) =
    ap (λ t. cond t (reads (types.named name) (names_of p)) (Err UnknownName)) (first_among p.definitions name d first) in
    let named : (n : List ℕ) (i : ℕ) → Named name d ≡ Named n i → FirstNamed p.definitions n i = λ n i e.
    let P : List ℕ → Type 0 = λ x. FirstNamed p.definitions x d in
    let Q : ℕ → Type 0 = λ x. FirstNamed p.definitions n x in
    let names : name ≡ n = cc in
    let numbers : d ≡ i = cc in
    subst Q numbers (subst P names first) in
    tells_push _ p p q (Named name d) (types.named name) res [] (grows_refl p b) is ok want same tt tt named refl refl

pub unknown_why : (p : Parts) (name : List ℕ) → FindsName p.definitions name None → Why (known (names_of p) name) UnknownName
unknown_why p name h = inl (ap (λ t. cond t (reads (types.named name) (names_of p)) (Err UnknownName)) h)
