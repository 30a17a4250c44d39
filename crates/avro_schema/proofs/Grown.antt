-- From the nodes' forms to the types that they stand for: a node's type is made of those of its parts.
use Rattle.std.proofs.Common.{◌≡◌, ℕ, zero, suc, ◌+◌, ◌<◌, List, [], ◌∷◌, ◌++◌, length, Some, refl, sym, ap, ◌∙◌, subst, arith, length-append}
use Rattle.std.specs.List.{slice_get, All}
use Rattle.std.proofs.lemmas.List.{get_or_append_left}
use Rattle.std.proofs.lemmas.List.Elements.{All-head, All-tail}
use Rattle.std.proofs.lemmas.Option.{slice_get_within, get_or_from_slice_get, slice_get-get_or}
use Rattle.std.proofs.Math.Seq.{get_or-append_seam}
use Rattle.avro_schema.specs.Types.{AvroType, null, array, map, union, record_, branch_name}
use Rattle.avro_schema.specs.Forms.{type_at, branches_at, fields_at, type_of, types_behind, types_of, AreBefore, EachBefore, names_of_branches, IsNamed}
use Rattle.avro_schema.specs.declared.parts.Form.{Form}
use Rattle.avro_schema.specs.declared.parts.Form.TheVariants.{Null, Boolean, Int, Long, Bytes, Text, Array, Map, Union, Fixed, Enum, Record, Named}
use Rattle.avro_schema.specs.declared.parts.Field.{Field}

-- the two lists have the same types below n
abbrev pub Agree : ℕ → List AvroType → List AvroType → Type 0
Agree n ts us = (k : ℕ) → k < n → type_at ts k ≡ type_at us k

pub branches_same : (ts us : List AvroType) (n : ℕ) (ks : List ℕ) → Agree n ts us → All (λ c. c < n) ks → branches_at ts ks ≡ branches_at us ks
branches_same ts us n [] same h = refl
branches_same ts us n (k ∷ ks) same h =
    let first = same k (All-head (λ c. c < n) k ks h) in
    let rest = branches_same ts us n ks same (All-tail (λ c. c < n) k ks h) in cc

pub names_same : (ts us : List AvroType) (n : ℕ) (ks : List ℕ) → Agree n ts us → All (λ c. c < n) ks → names_of_branches ts ks ≡ names_of_branches us ks
names_same ts us n [] same h = refl
names_same ts us n (k ∷ ks) same h =
    let first = ap branch_name (same k (All-head (λ c. c < n) k ks h)) in
    let rest = names_same ts us n ks same (All-tail (λ c. c < n) k ks h) in cc

pub fields_same : (ts us : List AvroType) (n : ℕ) (fs : List Field) → Agree n ts us → All (λ f. f.node < n) fs → fields_at ts fs ≡ fields_at us fs
fields_same ts us n [] same h = refl
fields_same ts us n (f ∷ fs) same h =
    let first = same f.node (All-head (λ (g : Field). g.node < n) f fs h) in
    let rest = fields_same ts us n fs same (All-tail (λ (g : Field). g.node < n) f fs h) in cc

pub type_of_same : (ts us : List AvroType) (n : ℕ) (f : Form) → Agree n ts us → AreBefore n f → type_of ts f ≡ type_of us f
type_of_same ts us n Null same h = refl
type_of_same ts us n Boolean same h = refl
type_of_same ts us n Int same h = refl
type_of_same ts us n Long same h = refl
type_of_same ts us n Bytes same h = refl
type_of_same ts us n Text same h = refl
type_of_same ts us n (Array k) same h = ap (λ t. array t) (same k h)
type_of_same ts us n (Map k) same h = ap (λ t. map t) (same k h)
type_of_same ts us n (Union v names) same h = ap (λ t. union t) (branches_same ts us n v.items same h)
type_of_same ts us n (Fixed name size) same h = refl
type_of_same ts us n (Enum name v) same h = refl
type_of_same ts us n (Record name v) same h = ap (λ t. record_ name t) (fields_same ts us n v.items same h)
type_of_same ts us n (Named name d) same h = refl

pub named_same : (ts us : List AvroType) (n : ℕ) (f : Form) → Agree n ts us → AreBefore n f → IsNamed ts f → IsNamed us f
named_same ts us n Null same h is = tt
named_same ts us n Boolean same h is = tt
named_same ts us n Int same h is = tt
named_same ts us n Long same h is = tt
named_same ts us n Bytes same h is = tt
named_same ts us n Text same h is = tt
named_same ts us n (Array k) same h is = tt
named_same ts us n (Map k) same h is = tt
named_same ts us n (Union v names) same h is = is ∙ names_same ts us n v.items same h
named_same ts us n (Fixed name size) same h is = tt
named_same ts us n (Enum name v) same h is = tt
named_same ts us n (Record name v) same h is = tt
named_same ts us n (Named name d) same h is = tt

pub types_behind-append : (ts : List AvroType) (fs gs : List Form) → types_behind ts (fs ++ gs) ≡ types_behind (types_behind ts fs) gs
types_behind-append ts [] gs = refl
types_behind-append ts (f ∷ fs) gs = types_behind-append (ts ++ (type_of ts f ∷ [])) fs gs

-- one node more
pub types_of-push : (fs : List Form) (f : Form) → types_of (fs ++ (f ∷ [])) ≡ types_of fs ++ (type_of (types_of fs) f ∷ [])
unfolding types_of
types_of-push fs f = types_behind-append [] fs (f ∷ [])

length-behind : (ts : List AvroType) (fs : List Form) → length (types_behind ts fs) ≡ length ts + length fs
length-behind ts [] = omega arith
length-behind ts (f ∷ fs) =
    let more = length-append ts (type_of ts f ∷ []) in
    let rest = length-behind (ts ++ (type_of ts f ∷ [])) fs in omega arith

pub length-types_of : (fs : List Form) → length (types_of fs) ≡ length fs
unfolding types_of
length-types_of fs = let h = length-behind [] fs in omega arith

pub front_stays : (ts : List AvroType) (fs : List Form) → Agree (length ts) ts (types_behind ts fs)
front_stays ts [] = λ k h. refl
front_stays ts (f ∷ fs) = λ k h.
    let more = length-append ts (type_of ts f ∷ []) in
    let inside : k < length (ts ++ (type_of ts f ∷ [])) = omega arith in
    sym (get_or_append_left ts (type_of ts f ∷ []) null k h) ∙ front_stays (ts ++ (type_of ts f ∷ [])) fs k inside

type_behind : (ts : List AvroType) (fs : List Form) (n k : ℕ) (f : Form) → n ≡ length ts → EachBefore n fs → slice_get fs k ≡ Some f
    → type_at (types_behind ts fs) (n + k) ≡ type_of (types_behind ts fs) f
type_behind ts [] n k f e b h = absurd cc
type_behind ts (g ∷ fs) n zero f e b h =
    let us = ts ++ (type_of ts g ∷ []) in
    let more = length-append ts (type_of ts g ∷ []) in
    let inside : n < length us = omega arith in
    let seam : type_at us n ≡ type_of ts g = rw e (get_or-append_seam ts (type_of ts g) [] null) in
    let whole = types_behind us fs in
    let agree : Agree n ts whole = λ i lt. let low : i < length ts = omega arith in front_stays ts (g ∷ fs) i low in
    let made = type_of_same ts whole n g agree b.0 in
    let same : g ≡ f = cc in
    let place : n + 0 ≡ n = omega arith in
    ap (λ i. type_at whole i) place ∙ sym (front_stays us fs n inside) ∙ seam ∙ made ∙ ap (λ x. type_of whole x) same
type_behind ts (g ∷ fs) n (suc k) f e b h =
    let us = ts ++ (type_of ts g ∷ []) in
    let more = length-append ts (type_of ts g ∷ []) in
    let size : suc n ≡ length us = omega arith in
    let place : n + suc k ≡ suc n + k = omega arith in
    ap (λ i. type_at (types_behind us fs) i) place ∙ type_behind us fs (suc n) k f size b.1 h

-- a node's type is made of those of its parts
pub type_is : (fs : List Form) (k : ℕ) (f : Form) → EachBefore 0 fs → slice_get fs k ≡ Some f → type_at (types_of fs) k ≡ type_of (types_of fs) f
unfolding types_of
type_is fs k f b h = let place : 0 + k ≡ k = omega arith in ap (λ i. type_at (types_behind [] fs) i) (sym place) ∙ type_behind [] fs 0 k f refl b h

-- nodes that are added leave the types of those before them
pub types_stay : (fs more : List Form) → Agree (length fs) (types_of fs) (types_of (fs ++ more))
unfolding types_of
types_stay fs more = λ k h.
    let size = length-behind [] fs in
    let inside : k < length (types_behind [] fs) = omega arith in
    front_stays (types_behind [] fs) more k inside ∙ ap (λ ts. type_at ts k) (sym (types_behind-append [] fs more))

pub stands_stay : (fs more : List Form) (k : ℕ) (t : AvroType) → slice_get (types_of fs) k ≡ Some t → slice_get (types_of (fs ++ more)) k ≡ Some t
stands_stay fs more k t h =
    let sizes = length-types_of fs in
    let sizes_more = length-types_of (fs ++ more) in
    let sum = length-append fs more in
    let inside = slice_get_within (types_of fs) k t h in
    let low : k < length fs = omega arith in
    let far : k < length (types_of (fs ++ more)) = omega arith in
    slice_get-get_or (types_of (fs ++ more)) k null far ∙ ap (λ x. Some x) (sym (types_stay fs more k low) ∙ get_or_from_slice_get (types_of fs) k t null h)

pub each_push : (n : ℕ) (fs : List Form) (f : Form) (m : ℕ) → EachBefore n fs → m ≡ n + length fs → AreBefore m f → EachBefore n (fs ++ (f ∷ []))
each_push n [] f m b e h = let at : m ≡ n = omega arith in let P : ℕ → Type 0 = λ i. AreBefore i f in (subst P at h, tt)
each_push n (g ∷ fs) f m b e h = (b.0, each_push (suc n) fs f m b.1 (omega arith) h)

pub before_is : (n k : ℕ) (fs : List Form) (f : Form) → EachBefore n fs → slice_get fs k ≡ Some f → (m : ℕ) → m ≡ n + k → AreBefore m f
before_is n k [] f b h m e = absurd cc
before_is n zero (g ∷ fs) f b h m e =
    let same : g ≡ f = cc in
    let at : n ≡ m = omega arith in
    let P : Form → Type 0 = λ x. AreBefore m x in
    let Q : ℕ → Type 0 = λ i. AreBefore i g in subst P same (subst Q at b.0)
before_is n (suc k) (g ∷ fs) f b h m e = before_is (suc n) k fs f b.1 h m (omega arith)

-- nodes that are added leave the names of those before them
pub named_stay : (fs more : List Form) (k : ℕ) (f : Form) → EachBefore 0 fs → slice_get fs k ≡ Some f → IsNamed (types_of fs) f → IsNamed (types_of (fs ++ more)) f
named_stay fs more k f b h is =
    let inside = slice_get_within fs k f h in
    named_same (types_of fs) (types_of (fs ++ more)) k f (λ i lt. types_stay fs more i (omega arith)) (before_is 0 k fs f b h k (omega arith)) is
