-- What is read of a JSON value reads again in its canonical form, which nests no deeper.
use Rattle.std.proofs.Common.{◌≡◌, ℕ, zero, suc, ◌≤◌, List, [], ◌∷◌, ◌++◌, Bool, true, false, cond, ◌||◌, Option, Some, None, Result, Ok, Err, refl, sym, ap, ◌∙◌, subst}
use Rattle.std.specs.Prelude.{codes}
use Rattle.std.specs.Str.{bytes_eq}
use Rattle.json_span.specs.Json.{Json, Items, Members, null, boolean, number, text, array, object, no_items, item, no_members, member, IsWithin, ItemsWithin, MembersWithin}
use Rattle.json_token.specs.Chars.{content}
use Rattle.avro_schema.specs.Types as types
use Rattle.avro_schema.specs.Types.{AvroType, Branches, Fields, no_branches, branch, no_fields, field, branch_name}
use Rattle.avro_names.specs.Names.{is_part, is_float, is_definable, namespace_of}
use Rattle.avro_schema.specs.Reading.{Read, Outcome, Reader, FieldType, reads, known, type_by_name, size_of, part_type, field_read, fields_read, fields_of, branch_read, branches_read, union_read, array_read, map_read, record_read, enum_read, fixed_read, object_by_word, object_read, one_level, no_level, reader}
use Rattle.avro_names.specs.Outcomes.{next}
use Rattle.avro_names.specs.NameList.{is_among}
use Rattle.avro_names.specs.MemberNames.{full_name, given_name, new_name, defined_name, part_name, symbols_read, symbols_of}
use Rattle.json_span.specs.Parts.{later, last_member}
use Rattle.avro_names.specs.declared.error.SchemaNo.{SchemaNo}
use Rattle.avro_names.specs.declared.error.SchemaNo.TheVariants.{BadType, UnknownName, Redefined, BadName, Float}
use Rattle.avro_schema.proofs.PlainNames.{same_bytes}
use Rattle.avro_schema.proofs.Numerals.{size_bound}
use Rattle.avro_schema.proofs.Again.{json_of, branches_json, fields_json, symbols_json, named_text, IsNew, Good, GoodSymbols, GoodBranches, GoodFields}

-- ---- from a success of the whole to that of its parts

record Inverted {S T : Type 0} (r : Result S SchemaNo) (f : S → Result T SchemaNo) (y : T) : Type 0 where
  x : S
  is : r ≡ Ok x
  then_ : f x ≡ Ok y

invert : {S T : Type 0} (r : Result S SchemaNo) (f : S → Result T SchemaNo) (y : T) → next r f ≡ Ok y → Inverted r f y
invert (Ok x) f y h = record { x = x; is = refl; then_ = h }
invert (Err e) f y h = absurd cc

either : {T : Type 0} (P : Type 0) (t : Bool) (a b : Result T SchemaNo) (y : T) → (t ≡ true → a ≡ Ok y → P) → (t ≡ false → b ≡ Ok y → P) → cond t a b ≡ Ok y → P
either P true a b y f g h = f refl h
either P false a b y f g h = g refl h

no_ok : {T : Type 0} (P : Type 0) (e : SchemaNo) (y : T) → ◌≡◌ {A = Result T SchemaNo} (Err e) (Ok y) → P
no_ok P e y h = absurd cc

same_ok : {T : Type 0} (P : T → Type 0) (x y : T) → ◌≡◌ {A = Result T SchemaNo} (Ok x) (Ok y) → P x → P y
same_ok P x y h p = let same : x ≡ y = cc in subst P same p

-- ---- names

abbrev pub AllDefinable : List (List ℕ) → Type 0
AllDefinable [] = Unit {0}
AllDefinable (x ∷ xs) = (is_definable x ≡ true) × AllDefinable xs

definable_push : (names : List (List ℕ)) (name : List ℕ) → AllDefinable names → is_definable name ≡ true → AllDefinable (names ++ (name ∷ []))
definable_push [] name a h = (h, tt)
definable_push (x ∷ names) name a h = (a.0, definable_push names name a.1 h)

among_by : (n name : List ℕ) (t rest : Bool) → bytes_eq n name ≡ t → (t || rest) ≡ true → is_definable n ≡ true → (rest ≡ true → is_definable name ≡ true) → is_definable name ≡ true
among_by n name true rest e h d f = ap is_definable (sym (same_bytes n name e)) ∙ d
among_by n name false rest e h d f = f h

among_definable : (names : List (List ℕ)) (name : List ℕ) → AllDefinable names → is_among name names ≡ true → is_definable name ≡ true
among_definable [] name a h = absurd cc
among_definable (n ∷ names) name a h = among_by n name (bytes_eq n name) (is_among name names) refl h a.0 (λ i. among_definable names name a.1 i)

new_good : (names : List (List ℕ)) (x name : List ℕ) → new_name names x ≡ Ok name → IsNew names name
new_good names x name h =
    either (IsNew names name) (is_among x names) (Err Redefined) (cond (is_definable x) (Ok x) (Err BadName)) name (λ t i. no_ok _ Redefined name i)
    (λ new i. either (IsNew names name) (is_definable x) (Ok x) (Err BadName) name (λ good k. same_ok (λ y. IsNew names y) x name k (record { new = new; good = good })) (λ t k. no_ok _ BadName name k) i) h

defined_good : (canonical : Bool) (names : List (List ℕ)) (ns : List ℕ) (ms : Members) (name : List ℕ) → defined_name canonical names ns ms ≡ Ok name → IsNew names name
unfolding defined_name
defined_good canonical names ns ms name h = let i = invert (given_name canonical ns (last_member (codes "name") ms) (last_member (codes "namespace") ms)) (new_name names) name h in new_good names i.x name i.then_

record PartGood (seen : List (List ℕ)) (name : List ℕ) : Type 0 where
  good : is_part name ≡ true
  new : is_among name seen ≡ false

part_good : (seen : List (List ℕ)) (o : Option Json) (name : List ℕ) → part_name seen o ≡ Ok name → PartGood seen name
part_good seen None name h = absurd cc
part_good seen (Some null) name h = absurd cc
part_good seen (Some (boolean b)) name h = absurd cc
part_good seen (Some (number s)) name h = absurd cc
part_good seen (Some (text s)) name h =
    either (PartGood seen name) (is_part (content s)) (cond (is_among (content s) seen) (Err BadType) (Ok (content s))) (Err BadName) name
    (λ good i. either (PartGood seen name) (is_among (content s) seen) (Err BadType) (Ok (content s)) name (λ t k. no_ok _ BadType name k) (λ new k. same_ok (λ y. PartGood seen y) (content s) name k (record { good = good; new = new })) i)
    (λ t i. no_ok _ BadName name i) h
part_good seen (Some (array js)) name h = absurd cc
part_good seen (Some (object ms)) name h = absurd cc

symbols_good : (seen : List (List ℕ)) (js : Items) (ss : List (List ℕ)) → symbols_read seen js ≡ Ok ss → GoodSymbols seen ss
symbols_good seen no_items ss h = same_ok (λ x. GoodSymbols seen x) [] ss h tt
symbols_good seen (item j js) ss h =
    let i = invert (part_name seen (Some j)) (λ name. next (symbols_read (seen ++ (name ∷ [])) js) (λ rest. Ok (name ∷ rest))) ss h in
    let k = invert (symbols_read (seen ++ (i.x ∷ [])) js) (λ rest. Ok (i.x ∷ rest)) ss i.then_ in
    let p = part_good seen (Some j) i.x i.is in
    same_ok (λ x. GoodSymbols seen x) (i.x ∷ k.x) ss k.then_ (p.good, p.new, symbols_good (seen ++ (i.x ∷ [])) js k.x k.is)

-- ---- one level more

mutual
  good_more : (n : ℕ) (u : Bool) (names : List (List ℕ)) (t : AvroType) (now : List (List ℕ)) → Good n u names t now → Good (suc n) u names t now
  good_more n u names types.null now g = g
  good_more n u names types.boolean now g = g
  good_more n u names types.int now g = g
  good_more n u names types.long now g = g
  good_more n u names types.bytes now g = g
  good_more n u names types.string now g = g
  good_more n u names (types.array t) now g = (suc g.0, ap suc g.1, good_more g.0 false names t now g.2)
  good_more n u names (types.map t) now g = (suc g.0, ap suc g.1, good_more g.0 false names t now g.2)
  good_more n u names (types.union bs) now g = (suc g.0, ap suc g.1, g.2, branches_good_more g.0 names [] bs now g.3)
  good_more n u names (types.fixed name size) now g = (suc g.0, ap suc g.1, g.2, g.3, g.4)
  good_more n u names (types.enum_ name ss) now g = (suc g.0, ap suc g.1, g.2, g.3, g.4)
  good_more n u names (types.record_ name fs) now g = (suc g.0, ap suc g.1, g.2, fields_good_more g.0 (names ++ (name ∷ [])) [] fs now g.3)
  good_more n u names (types.named name) now g = g

  branches_good_more : (m : ℕ) (names seen : List (List ℕ)) (bs : Branches) (now : List (List ℕ)) → GoodBranches m names seen bs now → GoodBranches (suc m) names seen bs now
  branches_good_more m names seen no_branches now g = g
  branches_good_more m names seen (branch t bs) now g = (g.0, good_more m true names t g.0 g.1, g.2, branches_good_more m g.0 (seen ++ (branch_name t ∷ [])) bs now g.3)

  fields_good_more : (m : ℕ) (names seen : List (List ℕ)) (fs : Fields) (now : List (List ℕ)) → GoodFields m names seen fs now → GoodFields (suc m) names seen fs now
  fields_good_more m names seen no_fields now g = g
  fields_good_more m names seen (field name t fs) now g = (g.0, g.1, g.2, good_more m false names t g.0 g.3, fields_good_more m g.0 (seen ++ (name ∷ [])) fs now g.4)

mutual
  pub within_more : (l : ℕ) (j : Json) → IsWithin l j → IsWithin (suc l) j
  within_more l null w = tt
  within_more l (boolean b) w = tt
  within_more l (number s) w = tt
  within_more l (text s) w = tt
  within_more l (array js) w = (suc w.0, ap suc w.1, items_more w.0 js w.2)
  within_more l (object ms) w = (suc w.0, ap suc w.1, members_more w.0 ms w.2)

  items_more : (l : ℕ) (js : Items) → ItemsWithin l js → ItemsWithin (suc l) js
  items_more l no_items w = tt
  items_more l (item j js) w = (within_more l j w.0, items_more l js w.1)

  members_more : (l : ℕ) (ms : Members) → MembersWithin l ms → MembersWithin (suc l) ms
  members_more l no_members w = tt
  members_more l (member s j ms) w = (within_more l j w.0, members_more l ms w.1)

last_by : (l : ℕ) (o : Option Json) (t : Bool) (j k : Json) → later o (cond t (Some j) None) ≡ Some k → (o ≡ Some k → IsWithin l k) → IsWithin l j → IsWithin l k
last_by l (Some x) t j k h f w = f h
last_by l None true j k h f w = let same : j ≡ k = cc in let P : Json → Type 0 = λ x. IsWithin l x in subst P same w
last_by l None false j k h f w = absurd cc

last_within : (l : ℕ) (key : List ℕ) (ms : Members) (k : Json) → MembersWithin l ms → last_member key ms ≡ Some k → IsWithin l k
last_within l key no_members k w h = absurd cc
last_within l key (member s j ms) k w h = last_by l (last_member key ms) (bytes_eq (content s) key) j k h (λ e. last_within l key ms k w.1 e) w.0

-- a value nests in an object
inner_within : (l : ℕ) (key : List ℕ) (ms : Members) (k : Json) → last_member key ms ≡ Some k → (w : IsWithin l (object ms)) → IsWithin w.0 k
inner_within l key ms k h w = last_within w.0 key ms k w.2 h

symbols_within : (l : ℕ) (ss : List (List ℕ)) → ItemsWithin l (symbols_json ss)
symbols_within l [] = tt
symbols_within l (s ∷ ss) = (tt, symbols_within l ss)

-- ---- what is read

pub record GoodRead (n : ℕ) (u : Bool) (names : List (List ℕ)) (j : Json) (r : Read AvroType) : Type 0 where
  pub good : Good n u names r.value r.names
  pub definable : AllDefinable r.names
  pub within : (l : ℕ) → IsWithin l j → IsWithin l (json_of r.value)

record GoodFieldsRead (m : ℕ) (names seen : List (List ℕ)) (js : Items) (r : Read Fields) : Type 0 where
  good : GoodFields m names seen r.value r.names
  definable : AllDefinable r.names
  within : (l : ℕ) → ItemsWithin l js → ItemsWithin l (fields_json r.value)

record GoodFieldRead (m : ℕ) (names seen : List (List ℕ)) (j : Json) (r : Read FieldType) : Type 0 where
  part : PartGood seen r.value.name
  good : Good m false names r.value.type r.names
  definable : AllDefinable r.names
  within : (l : ℕ) → IsWithin l j → IsWithin l (object (named_text r.value.name (member (codes "type") (json_of r.value.type) no_members)))

record GoodBranchesRead (m : ℕ) (names seen : List (List ℕ)) (js : Items) (r : Read Branches) : Type 0 where
  good : GoodBranches m names seen r.value r.names
  definable : AllDefinable r.names
  within : (l : ℕ) → ItemsWithin l js → ItemsWithin l (branches_json r.value)

module _ (n : ℕ) (u : Bool) (names : List (List ℕ)) (j : Json) (all : AllDefinable names) where
  one_word : (t : Bool) (type : AvroType) (o : Outcome AvroType) (r : Read AvroType) → Good n u names type names → ((l : ℕ) → IsWithin l (json_of type)) → (o ≡ Ok r → GoodRead n u names j r) → cond t (reads type names) o ≡ Ok r → GoodRead n u names j r
  one_word t type o r good flat f h =
      either (GoodRead n u names j r) t (reads type names) o r
      (λ e i. same_ok (λ x. GoodRead n u names j x) (record { value = type; names = names }) r i (record { good = good; definable = all; within = λ l w. flat l })) (λ e i. f i) h

  known_good : (name : List ℕ) (r : Read AvroType) → known names name ≡ Ok r → GoodRead n u names j r
  known_good name r h =
      either (GoodRead n u names j r) (is_among name names) (reads (types.named name) names) (Err UnknownName) r
      (λ e i. same_ok (λ x. GoodRead n u names j x) (record { value = types.named name; names = names }) r i (record { good = (e, among_definable names name all e, refl); definable = all; within = λ l w. tt })) (λ e i. no_ok _ UnknownName r i) h

  name_good : (canonical : Bool) (ns name : List ℕ) (r : Read AvroType) → type_by_name canonical names ns name ≡ Ok r → GoodRead n u names j r
  unfolding type_by_name
  name_good canonical ns name r h =
      one_word (bytes_eq name (codes "null")) types.null _ r refl (λ l. tt)
      (λ h. one_word (bytes_eq name (codes "boolean")) types.boolean _ r refl (λ l. tt)
      (λ h. one_word (bytes_eq name (codes "int")) types.int _ r refl (λ l. tt)
      (λ h. one_word (bytes_eq name (codes "long")) types.long _ r refl (λ l. tt)
      (λ h. one_word (bytes_eq name (codes "bytes")) types.bytes _ r refl (λ l. tt)
      (λ h. one_word (bytes_eq name (codes "string")) types.string _ r refl (λ l. tt)
      (λ h. either (GoodRead n u names j r) (is_float name) (Err Float) (known names (full_name canonical ns name)) r (λ e i. no_ok _ Float r i) (λ e i. known_good (full_name canonical ns name) r i) h) h) h) h) h) h) h

-- each value that is read below is good
abbrev IsSound : Reader → ℕ → Type 0
IsSound below m = (u : Bool) (names : List (List ℕ)) (ns : List ℕ) (j : Json) (r : Read AvroType) → AllDefinable names → below u names ns j ≡ Ok r → GoodRead m u names j r

record Typed (m : ℕ) (names : List (List ℕ)) (o : Option Json) (r : Read AvroType) : Type 0 where
  j : Json
  there : o ≡ Some j
  read : GoodRead m false names j r

module _ (below : Reader) (m : ℕ) (sound : IsSound below m) where
  typed_good : (names : List (List ℕ)) (ns : List ℕ) (o : Option Json) (r : Read AvroType) → AllDefinable names → part_type below names ns o ≡ Ok r → Typed m names o r
  typed_good names ns None r all h = absurd cc
  typed_good names ns (Some j) r all h = record { j = j; there = refl; read = sound false names ns j r all h }

  field_good : (names : List (List ℕ)) (ns : List ℕ) (seen : List (List ℕ)) (j : Json) (r : Read FieldType) → AllDefinable names → field_read below names ns seen j ≡ Ok r → GoodFieldRead m names seen j r
  field_good names ns seen null r all h = absurd cc
  field_good names ns seen (boolean b) r all h = absurd cc
  field_good names ns seen (number s) r all h = absurd cc
  field_good names ns seen (text s) r all h = absurd cc
  field_good names ns seen (array js) r all h = absurd cc
  field_good names ns seen (object ms) r all h =
      let typed : List ℕ → Outcome FieldType = λ name. next (part_type below names ns (last_member (codes "type") ms)) (λ t. Ok (record { value = record { name = name; type = t.value }; names = t.names })) in
      let i = invert (part_name seen (last_member (codes "name") ms)) typed r h in
      let k = invert (part_type below names ns (last_member (codes "type") ms)) (λ t. Ok (record { value = record { name = i.x; type = t.value }; names = t.names })) r i.then_ in
      let g = typed_good names ns (last_member (codes "type") ms) k.x all k.is in
      same_ok (λ x. GoodFieldRead m names seen (object ms) x) (record { value = record { name = i.x; type = k.x.value }; names = k.x.names }) r k.then_
      (record { part = part_good seen (last_member (codes "name") ms) i.x i.is; good = g.read.good; definable = g.read.definable; within = λ l w. (w.0, w.1, (tt, (g.read.within w.0 (inner_within l (codes "type") ms g.j g.there w), tt))) })

  fields_good : (names : List (List ℕ)) (ns : List ℕ) (seen : List (List ℕ)) (js : Items) (r : Read Fields) → AllDefinable names → fields_read below names ns seen js ≡ Ok r → GoodFieldsRead m names seen js r
  fields_good names ns seen no_items r all h = same_ok (λ x. GoodFieldsRead m names seen no_items x) (record { value = no_fields; names = names }) r h (record { good = refl; definable = all; within = λ l w. tt })
  fields_good names ns seen (item j js) r all h =
      let rest : Read FieldType → Outcome Fields = λ f. next (fields_read below f.names ns (seen ++ (f.value.name ∷ [])) js) (λ x. Ok (record { value = field f.value.name f.value.type x.value; names = x.names })) in
      let i = invert (field_read below names ns seen j) rest r h in
      let k = invert (fields_read below i.x.names ns (seen ++ (i.x.value.name ∷ [])) js) (λ x. Ok (record { value = field i.x.value.name i.x.value.type x.value; names = x.names })) r i.then_ in
      let f = field_good names ns seen j i.x all i.is in
      let g = fields_good i.x.names ns (seen ++ (i.x.value.name ∷ [])) js k.x f.definable k.is in
      same_ok (λ x. GoodFieldsRead m names seen (item j js) x) (record { value = field i.x.value.name i.x.value.type k.x.value; names = k.x.names }) r k.then_
      (record { good = (i.x.names, f.part.good, f.part.new, f.good, g.good); definable = g.definable; within = λ l w. (f.within l w.0, g.within l w.1) })

  branches_good : (names : List (List ℕ)) (ns : List ℕ) (seen : List (List ℕ)) (js : Items) (r : Read Branches) → AllDefinable names → branches_read below names ns seen js ≡ Ok r → GoodBranchesRead m names seen js r
  branches_good names ns seen no_items r all h = same_ok (λ x. GoodBranchesRead m names seen no_items x) (record { value = no_branches; names = names }) r h (record { good = refl; definable = all; within = λ l w. tt })
  branches_good names ns seen (item j js) r all h =
      let rest : Read AvroType → Outcome Branches = λ t. next (branches_read below t.names ns (seen ++ (branch_name t.value ∷ [])) js) (λ x. Ok (record { value = branch t.value x.value; names = x.names })) in
      let judged : Read AvroType → Outcome AvroType = λ t. cond (is_among (branch_name t.value) seen) (Err BadType) (Ok t) in
      let i = invert (branch_read below names ns seen j) rest r h in
      let b = invert (below true names ns j) judged i.x i.is in
      let k = invert (branches_read below i.x.names ns (seen ++ (branch_name i.x.value ∷ [])) js) (λ x. Ok (record { value = branch i.x.value x.value; names = x.names })) r i.then_ in
      let t = sound true names ns j b.x all b.is in
      let New : Type 0 = (is_among (branch_name b.x.value) seen ≡ false) × (b.x ≡ i.x) in
      let new : New = either New (is_among (branch_name b.x.value) seen) (Err BadType) (Ok b.x) i.x (λ e q. no_ok _ BadType i.x q) (λ e q. (e, cc)) b.then_ in
      let P : Read AvroType → Type 0 = λ x. GoodRead m true names j x × (is_among (branch_name x.value) seen ≡ false) in
      let one : P i.x = subst P new.1 (t, new.0) in
      let g = branches_good i.x.names ns (seen ++ (branch_name i.x.value ∷ [])) js k.x one.0.definable k.is in
      same_ok (λ x. GoodBranchesRead m names seen (item j js) x) (record { value = branch i.x.value k.x.value; names = k.x.names }) r k.then_
      (record { good = (i.x.names, one.0.good, one.1, g.good); definable = g.definable; within = λ l w. (one.0.within l w.0, g.within l w.1) })

  module _ (canonical u : Bool) (names : List (List ℕ)) (ns : List ℕ) (ms : Members) (all : AllDefinable names) where
    array_good : (r : Read AvroType) → array_read below names ns ms ≡ Ok r → GoodRead (suc m) u names (object ms) r
    array_good r h =
        let i = invert (part_type below names ns (last_member (codes "items") ms)) (λ t. reads (types.array t.value) t.names) r h in
        let g = typed_good names ns (last_member (codes "items") ms) i.x all i.is in
        same_ok (λ x. GoodRead (suc m) u names (object ms) x) (record { value = types.array i.x.value; names = i.x.names }) r i.then_
        (record { good = (m, refl, g.read.good); definable = g.read.definable; within = λ l w. (w.0, w.1, (tt, (g.read.within w.0 (inner_within l (codes "items") ms g.j g.there w), tt))) })

    map_good : (r : Read AvroType) → map_read below names ns ms ≡ Ok r → GoodRead (suc m) u names (object ms) r
    map_good r h =
        let i = invert (part_type below names ns (last_member (codes "values") ms)) (λ t. reads (types.map t.value) t.names) r h in
        let g = typed_good names ns (last_member (codes "values") ms) i.x all i.is in
        same_ok (λ x. GoodRead (suc m) u names (object ms) x) (record { value = types.map i.x.value; names = i.x.names }) r i.then_
        (record { good = (m, refl, g.read.good); definable = g.read.definable; within = λ l w. (w.0, w.1, (tt, (g.read.within w.0 (inner_within l (codes "values") ms g.j g.there w), tt))) })

    fields_of_good : (name : List ℕ) (within : List ℕ) (o : Option Json) (fs : Read Fields) (r : Read AvroType) → IsNew names name → last_member (codes "fields") ms ≡ o → fields_of below (names ++ (name ∷ [])) within o ≡ Ok fs
        → reads (types.record_ name fs.value) fs.names ≡ Ok r → GoodRead (suc m) u names (object ms) r
    fields_of_good name within None fs r new o h e = absurd cc
    fields_of_good name within (Some null) fs r new o h e = absurd cc
    fields_of_good name within (Some (boolean b)) fs r new o h e = absurd cc
    fields_of_good name within (Some (number s)) fs r new o h e = absurd cc
    fields_of_good name within (Some (text s)) fs r new o h e = absurd cc
    fields_of_good name within (Some (object xs)) fs r new o h e = absurd cc
    fields_of_good name within (Some (array js)) fs r new o h e =
        let g = fields_good (names ++ (name ∷ [])) within [] js fs (definable_push names name all new.good) h in
        same_ok (λ x. GoodRead (suc m) u names (object ms) x) (record { value = types.record_ name fs.value; names = fs.names }) r e
        (record { good = (m, refl, new, g.good); definable = g.definable; within = λ l w. let f = inner_within l (codes "fields") ms (array js) o w in (w.0, w.1, (tt, (tt, ((f.0, f.1, g.within f.0 f.2), tt)))) })

    record_good : (r : Read AvroType) → record_read canonical below names ns ms ≡ Ok r → GoodRead (suc m) u names (object ms) r
    record_good r h =
        let rest : List ℕ → Outcome AvroType = λ name. next (fields_of below (names ++ (name ∷ [])) (namespace_of name) (last_member (codes "fields") ms)) (λ fs. reads (types.record_ name fs.value) fs.names) in
        let i = invert (defined_name canonical names ns ms) rest r h in
        let k = invert (fields_of below (names ++ (i.x ∷ [])) (namespace_of i.x) (last_member (codes "fields") ms)) (λ fs. reads (types.record_ i.x fs.value) fs.names) r i.then_ in
        fields_of_good i.x (namespace_of i.x) (last_member (codes "fields") ms) k.x r (defined_good canonical names ns ms i.x i.is) refl k.is k.then_

    symbols_of_good : (name : List ℕ) (o : Option Json) (ss : List (List ℕ)) (r : Read AvroType) → IsNew names name → last_member (codes "symbols") ms ≡ o → symbols_of o ≡ Ok ss → reads (types.enum_ name ss) (names ++ (name ∷ [])) ≡ Ok r → GoodRead (suc m) u names (object ms) r
    symbols_of_good name None ss r new o h e = absurd cc
    symbols_of_good name (Some null) ss r new o h e = absurd cc
    symbols_of_good name (Some (boolean b)) ss r new o h e = absurd cc
    symbols_of_good name (Some (number s)) ss r new o h e = absurd cc
    symbols_of_good name (Some (text s)) ss r new o h e = absurd cc
    symbols_of_good name (Some (object xs)) ss r new o h e = absurd cc
    symbols_of_good name (Some (array js)) ss r new o h e =
        same_ok (λ x. GoodRead (suc m) u names (object ms) x) (record { value = types.enum_ name ss; names = names ++ (name ∷ []) }) r e
        (record {
          good = (m, refl, new, symbols_good [] js ss h, refl);
          definable = definable_push names name all new.good;
          within = λ l w. let f = inner_within l (codes "symbols") ms (array js) o w in (w.0, w.1, (tt, (tt, ((f.0, f.1, symbols_within f.0 ss), tt))));
        })

    enum_good : (r : Read AvroType) → enum_read canonical names ns ms ≡ Ok r → GoodRead (suc m) u names (object ms) r
    enum_good r h =
        let rest : List ℕ → Outcome AvroType = λ name. next (symbols_of (last_member (codes "symbols") ms)) (λ ss. reads (types.enum_ name ss) (names ++ (name ∷ []))) in
        let i = invert (defined_name canonical names ns ms) rest r h in
        let k = invert (symbols_of (last_member (codes "symbols") ms)) (λ ss. reads (types.enum_ i.x ss) (names ++ (i.x ∷ []))) r i.then_ in
        symbols_of_good i.x (last_member (codes "symbols") ms) k.x r (defined_good canonical names ns ms i.x i.is) refl k.is k.then_

    size_good : (o : Option Json) (k : ℕ) → size_of o ≡ Ok k → k ≤ 1048576
    size_good None k h = absurd cc
    size_good (Some null) k h = absurd cc
    size_good (Some (boolean b)) k h = absurd cc
    size_good (Some (number s)) k h = size_bound s k h
    size_good (Some (text s)) k h = size_bound (content s) k h
    size_good (Some (array js)) k h = absurd cc
    size_good (Some (object xs)) k h = absurd cc

    fixed_good : (r : Read AvroType) → fixed_read canonical names ns ms ≡ Ok r → GoodRead (suc m) u names (object ms) r
    fixed_good r h =
        let rest : List ℕ → Outcome AvroType = λ name. next (size_of (last_member (codes "size") ms)) (λ s. reads (types.fixed name s) (names ++ (name ∷ []))) in
        let i = invert (defined_name canonical names ns ms) rest r h in
        let k = invert (size_of (last_member (codes "size") ms)) (λ s. reads (types.fixed i.x s) (names ++ (i.x ∷ []))) r i.then_ in
        let new = defined_good canonical names ns ms i.x i.is in
        same_ok (λ x. GoodRead (suc m) u names (object ms) x) (record { value = types.fixed i.x k.x; names = names ++ (i.x ∷ []) }) r k.then_
        (record { good = (m, refl, new, size_good (last_member (codes "size") ms) k.x k.is, refl); definable = definable_push names i.x all new.good; within = λ l w. (w.0, w.1, (tt, (tt, (tt, tt)))) })

    word_good : (word : List ℕ) (r : Read AvroType) → object_by_word canonical below names ns ms word ≡ Ok r → GoodRead (suc m) u names (object ms) r
    unfolding object_by_word
    word_good word r h =
        let G : Type 0 = GoodRead (suc m) u names (object ms) r in
        either G (bytes_eq word (codes "record")) (record_read canonical below names ns ms) _ r (λ e. record_good r)
        (λ e. either G (bytes_eq word (codes "enum")) (enum_read canonical names ns ms) _ r (λ e. enum_good r)
        (λ e. either G (bytes_eq word (codes "array")) (array_read below names ns ms) _ r (λ e. array_good r)
        (λ e. either G (bytes_eq word (codes "map")) (map_read below names ns ms) _ r (λ e. map_good r)
        (λ e. either G (bytes_eq word (codes "fixed")) (fixed_read canonical names ns ms) _ r (λ e. fixed_good r)
        (λ e. name_good (suc m) u names (object ms) all canonical ns word r))))) h

    wrapped_good : (j : Json) (r : Read AvroType) → last_member (codes "type") ms ≡ Some j → below u names ns j ≡ Ok r → GoodRead (suc m) u names (object ms) r
    wrapped_good j r o h =
        let g = sound u names ns j r all h in
        let deeper : (l : ℕ) → IsWithin l (object ms) → IsWithin l (json_of r.value) = λ l w.
        let P : ℕ → Type 0 = λ k. IsWithin k (json_of r.value) in
        subst P (sym w.1) (within_more w.0 (json_of r.value) (g.within w.0 (inner_within l (codes "type") ms j o w))) in
        record { good = good_more m u names r.value r.names g.good; definable = g.definable; within = deeper }

    object_good : (o : Option Json) (r : Read AvroType) → last_member (codes "type") ms ≡ o → object_read canonical below u names ns ms o ≡ Ok r → GoodRead (suc m) u names (object ms) r
    object_good None r o h = absurd cc
    object_good (Some null) r o h = wrapped_good null r o h
    object_good (Some (boolean b)) r o h = wrapped_good (boolean b) r o h
    object_good (Some (number s)) r o h = wrapped_good (number s) r o h
    object_good (Some (text s)) r o h = word_good (content s) r h
    object_good (Some (array js)) r o h = wrapped_good (array js) r o h
    object_good (Some (object xs)) r o h = wrapped_good (object xs) r o h

  union_good : (canonical u : Bool) (names : List (List ℕ)) (ns : List ℕ) (js : Items) (r : Read AvroType) → AllDefinable names → u ≡ false → union_read below names ns js ≡ Ok r → GoodRead (suc m) u names (array js) r
  union_good canonical u names ns js r all out h =
      let i = invert (branches_read below names ns [] js) (λ bs. reads (types.union bs.value) bs.names) r h in
      let g = branches_good names ns [] js i.x all i.is in
      same_ok (λ x. GoodRead (suc m) u names (array js) x) (record { value = types.union i.x.value; names = i.x.names }) r i.then_
      (record { good = (m, refl, out, g.good); definable = g.definable; within = λ l w. (w.0, w.1, g.within w.0 w.2) })

  level_good : (canonical u : Bool) (names : List (List ℕ)) (ns : List ℕ) (j : Json) (r : Read AvroType) → AllDefinable names → one_level canonical below u names ns j ≡ Ok r → GoodRead (suc m) u names j r
  level_good canonical u names ns null r all h = absurd cc
  level_good canonical u names ns (boolean b) r all h = absurd cc
  level_good canonical u names ns (number s) r all h = absurd cc
  level_good canonical u names ns (text s) r all h = name_good (suc m) u names (text s) all canonical ns (content s) r h
  level_good canonical u names ns (array js) r all h =
      either (GoodRead (suc m) u names (array js) r) u (Err BadType) (union_read below names ns js) r (λ e i. no_ok _ BadType r i) (λ e i. union_good canonical u names ns js r all e i) h
  level_good canonical u names ns (object ms) r all h = object_good canonical u names ns ms all (last_member (codes "type") ms) r refl h

no_level_good : (canonical u : Bool) (names : List (List ℕ)) (ns : List ℕ) (j : Json) (r : Read AvroType) → AllDefinable names → no_level canonical u names ns j ≡ Ok r → GoodRead 0 u names j r
no_level_good canonical u names ns null r all h = absurd cc
no_level_good canonical u names ns (boolean b) r all h = absurd cc
no_level_good canonical u names ns (number s) r all h = absurd cc
no_level_good canonical u names ns (text s) r all h = name_good 0 u names (text s) all canonical ns (content s) r h
no_level_good canonical u names ns (array js) r all h = absurd cc
no_level_good canonical u names ns (object ms) r all h = absurd cc

pub reader_good : (canonical : Bool) (n : ℕ) (u : Bool) (names : List (List ℕ)) (ns : List ℕ) (j : Json) (r : Read AvroType) → AllDefinable names → reader canonical n u names ns j ≡ Ok r → GoodRead n u names j r
unfolding reader
reader_good canonical zero u names ns j r all h = no_level_good canonical u names ns j r all h
reader_good canonical (suc n) u names ns j r all h = level_good (reader canonical n) n (reader_good canonical n) canonical u names ns j r all h
