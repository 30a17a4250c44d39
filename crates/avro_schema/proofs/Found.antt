-- From a schema's node to what it stands for.
use Rattle.std.proofs.Common.{◌≡◌, ℕ, zero, suc, ◌+◌, ◌<◌, List, [], ◌∷◌, length, get_or, true, Some, refl, sym, ap, ◌∙◌, subst, arith}
use Rattle.std.specs.List.{slice_get, All}
use Rattle.std.proofs.lemmas.Option.{slice_get_within, get_or_from_slice_get, slice_get-get_or, slice_get_read}
use Rattle.std.proofs.lemmas.List.Elements.{All-head, All-tail}
use Rattle.avro_schema.specs.Types.{AvroType, Branches, Fields, null, union, enum_, record_, named, resolved, branch_name}
use Rattle.avro_schema.specs.Forms.{type_at, branches_at, fields_at, type_of, types_of, AreBefore, EachBefore, names_of_branches, IsNamed, is_plain, Leads, IsSchema, IsFormOf}
use Rattle.avro_schema.specs.Nodes.{SchemaValue, tree_of, Stands, Resolves, StandForBranches, StandForFields, IsKindOf, IsOfKind}
use Rattle.avro_schema.specs.Distinct.{branch_names}
use Rattle.avro_schema.specs.Picks.{kind_in, branches_in, names_in, symbols_in, fields_in, name_in}
use Rattle.avro_schema.specs.declared.parts.Form.{Form}
use Rattle.avro_schema.specs.declared.parts.Form.TheVariants.{Null, Boolean, Int, Long, Bytes, Text, Array, Map, Union, Fixed, Enum, Record, Named}
use Rattle.avro_schema.specs.declared.parts.Field.{Field}
use Rattle.avro_names.specs.declared.definitions.Definition.{Definition}
use Rattle.avro_schema.proofs.Grown.{type_is, length-types_of, before_is}

-- ---- the form that a node resolves to

same_read : {X : Type 0} (xs : List X) (k : ℕ) (x y : X) → x ≡ get_or xs k x → slice_get xs k ≡ Some y → x ≡ y
same_read xs k x y e h = e ∙ get_or_from_slice_get xs k y x h

pub read_is : {X : Type 0} (xs : List X) (k : ℕ) (x : X) → k < length xs → x ≡ get_or xs k x → slice_get xs k ≡ Some x
read_is xs k x lt e = slice_get_read xs (length xs) k x refl lt e

pub reference : (nodes : List Form) (ds : List Definition) (root k : ℕ) (f : Form) (name : List ℕ) (d : ℕ) → IsSchema nodes ds root → k < length nodes → f ≡ get_or nodes k f → f ≡ Named name d
    → Leads nodes ds root name d
reference nodes ds root k f name d s lt e is = s.leads k name d (read_is nodes k f lt e ∙ ap (λ x. Some x) is)

pub reference_inside : (nodes : List Form) (ds : List Definition) (root : ℕ) (name : List ℕ) (d : ℕ) → Leads nodes ds root name d → d < length ds
reference_inside nodes ds root name d l = slice_get_within ds d l.x l.is

pub definition_inside : (nodes : List Form) (ds : List Definition) (root : ℕ) (name : List ℕ) (d : ℕ) (x : Definition) → Leads nodes ds root name d → x ≡ get_or ds d x → x.node < length nodes
definition_inside nodes ds root name d x l e =
    let P : Definition → Type 0 = λ y. y.node < length nodes in
    subst P (sym (same_read ds d x l.x e l.is)) (slice_get_within nodes l.x.node l.f l.at)

pub resolved_plain : (whole : AvroType) (ts : List AvroType) (f : Form) → is_plain f ≡ true → resolved whole (type_of ts f) ≡ type_of ts f
resolved_plain whole ts Null h = refl
resolved_plain whole ts Boolean h = refl
resolved_plain whole ts Int h = refl
resolved_plain whole ts Long h = refl
resolved_plain whole ts Bytes h = refl
resolved_plain whole ts Text h = refl
resolved_plain whole ts (Array k) h = refl
resolved_plain whole ts (Map k) h = refl
resolved_plain whole ts (Union v names) h = refl
resolved_plain whole ts (Fixed name size) h = refl
resolved_plain whole ts (Enum name v) h = refl
resolved_plain whole ts (Record name v) h = refl
resolved_plain whole ts (Named name d) h = absurd cc

not_named : (f : Form) → ((name : List ℕ) (d : ℕ) → f ≡ Named name d → ⊥) → is_plain f ≡ true
not_named Null h = refl
not_named Boolean h = refl
not_named Int h = refl
not_named Long h = refl
not_named Bytes h = refl
not_named Text h = refl
not_named (Array k) h = refl
not_named (Map k) h = refl
not_named (Union v names) h = refl
not_named (Fixed name size) h = refl
not_named (Enum name v) h = refl
not_named (Record name v) h = refl
not_named (Named name d) h = absurd (h name d refl)

pub plain_found : (nodes : List Form) (ds : List Definition) (root k : ℕ) (f : Form) → IsSchema nodes ds root → k < length nodes → f ≡ get_or nodes k f
    → ((name : List ℕ) (d : ℕ) → f ≡ Named name d → ⊥) → IsFormOf nodes root k f
plain_found nodes ds root k f s lt e h =
    let plain = not_named f h in
    let is = read_is nodes k f lt e in
    record {
      plain = plain;
      at = k;
      is = is;
      type = ap (λ t. resolved (type_at (types_of nodes) root) t) (type_is nodes k f s.before is) ∙ resolved_plain (type_at (types_of nodes) root) (types_of nodes) f plain;
    }

pub reference_found : (nodes : List Form) (ds : List Definition) (root k : ℕ) (f : Form) (name : List ℕ) (d : ℕ) (x : Definition) (g : Form) → IsSchema nodes ds root → k < length nodes → f ≡ get_or nodes k f → f ≡ Named name d
    → x ≡ get_or ds d x → g ≡ get_or nodes x.node g → IsFormOf nodes root k g
reference_found nodes ds root k f name d x g s lt e is xe ge =
    let l = reference nodes ds root k f name d s lt e is in
    let xs : x ≡ l.x = same_read ds d x l.x xe l.is in
    let at : slice_get nodes x.node ≡ Some l.f = ap (λ (y : Definition). slice_get nodes y.node) xs ∙ l.at in
    let gs : g ≡ l.f = same_read nodes x.node g l.f ge at in
    let here : type_at (types_of nodes) k ≡ named name = type_is nodes k f s.before (read_is nodes k f lt e) ∙ ap (λ y. type_of (types_of nodes) y) is in
    record {
      plain = ap is_plain gs ∙ l.plain;
      at = x.node;
      is = at ∙ ap (λ y. Some y) (sym gs);
      type = ap (λ t. resolved (type_at (types_of nodes) root) t) here ∙ l.type ∙ ap (λ y. type_of (types_of nodes) y) (sym gs);
    }

-- ---- what it stands for

pub node_inside : (nodes : List Form) (k : ℕ) (t : AvroType) → slice_get (types_of nodes) k ≡ Some t → k < length nodes
node_inside nodes k t h = let inside = slice_get_within (types_of nodes) k t h in let size = length-types_of nodes in omega arith

pub inside_stands : (nodes : List Form) (k : ℕ) → k < length nodes → slice_get (types_of nodes) k ≡ Some (type_at (types_of nodes) k)
inside_stands nodes k h = let size = length-types_of nodes in let lt : k < length (types_of nodes) = omega arith in slice_get-get_or (types_of nodes) k null lt

branches_stand : (nodes : List Form) (root n : ℕ) (ks : List ℕ) → n < suc (length nodes) → All (λ c. c < n) ks → StandForBranches (record { nodes = nodes; root = root }) ks (branches_at (types_of nodes) ks)
branches_stand nodes root n [] lt h = tt
branches_stand nodes root n (k ∷ ks) lt h =
    let first = All-head (λ c. c < n) k ks h in
    let inside : k < length nodes = omega arith in
    (inside_stands nodes k inside, branches_stand nodes root n ks lt (All-tail (λ c. c < n) k ks h))

fields_stand : (nodes : List Form) (root n : ℕ) (fs : List Field) → n < suc (length nodes) → All (λ f. f.node < n) fs → StandForFields (record { nodes = nodes; root = root }) fs (fields_at (types_of nodes) fs)
fields_stand nodes root n [] lt h = tt
fields_stand nodes root n (f ∷ fs) lt h =
    let first = All-head (λ (g : Field). g.node < n) f fs h in
    let inside : f.node < length nodes = omega arith in
    (refl, inside_stands nodes f.node inside, fields_stand nodes root n fs lt (All-tail (λ (g : Field). g.node < n) f fs h))

fits : (nodes : List Form) (root k : ℕ) (f : Form) → k < length nodes → AreBefore k f → is_plain f ≡ true → IsKindOf (record { nodes = nodes; root = root }) (type_of (types_of nodes) f) (kind_in f)
fits nodes root k Null lt b p = refl
fits nodes root k Boolean lt b p = refl
fits nodes root k Int lt b p = refl
fits nodes root k Long lt b p = refl
fits nodes root k Bytes lt b p = refl
fits nodes root k Text lt b p = refl
fits nodes root k (Array c) lt b p = (c, refl, inside_stands nodes c (omega arith))
fits nodes root k (Map c) lt b p = (c, refl, inside_stands nodes c (omega arith))
fits nodes root k (Union v names) lt b p = refl
fits nodes root k (Fixed name size) lt b p = refl
fits nodes root k (Enum name v) lt b p = refl
fits nodes root k (Record name v) lt b p = refl
fits nodes root k (Named name d) lt b p = absurd cc

-- the type that the node resolves to is that of the form
resolves_to : (nodes : List Form) (root k : ℕ) (f : Form) (u : AvroType) → IsFormOf nodes root k f → Resolves (record { nodes = nodes; root = root }) k u → type_of (types_of nodes) f ≡ u
resolves_to nodes root k f u i r =
    let here : type_at (types_of nodes) k ≡ r.0 = get_or_from_slice_get (types_of nodes) k r.0 null r.1 in
    sym i.type ∙ ap (λ t. resolved (type_at (types_of nodes) root) t) here ∙ r.2

kind_value : (nodes : List Form) (ds : List Definition) (root k : ℕ) (f : Form) → IsSchema nodes ds root → IsFormOf nodes root k f
    → (u : AvroType) → Resolves (record { nodes = nodes; root = root }) k u → IsKindOf (record { nodes = nodes; root = root }) u (kind_in f)
kind_value nodes ds root k f s i u r =
    let P : AvroType → Type 0 = λ t. IsKindOf (record { nodes = nodes; root = root }) t (kind_in f) in
    let before = before_is 0 i.at nodes f s.before i.is i.at (omega arith) in
    subst P (resolves_to nodes root k f u i r) (fits nodes root i.at f (slice_get_within nodes i.at f i.is) before i.plain)

resolves_found : (nodes : List Form) (root k : ℕ) (f : Form) (t : AvroType) → IsFormOf nodes root k f → slice_get (types_of nodes) k ≡ Some t → Resolves (record { nodes = nodes; root = root }) k (type_of (types_of nodes) f)
resolves_found nodes root k f t i h =
    let here : type_at (types_of nodes) k ≡ t = get_or_from_slice_get (types_of nodes) k t null h in
    (t, h, ap (λ u. resolved (type_at (types_of nodes) root) u) (sym here) ∙ i.type)

of_kind : (nodes : List Form) (root k at : ℕ) (f : Form) → at < length nodes → AreBefore at f → is_plain f ≡ true → Resolves (record { nodes = nodes; root = root }) k (type_of (types_of nodes) f)
    → IsOfKind (record { nodes = nodes; root = root }) k (kind_in f)
of_kind nodes root k at Null lt b p r = r
of_kind nodes root k at Boolean lt b p r = r
of_kind nodes root k at Int lt b p r = r
of_kind nodes root k at Long lt b p r = r
of_kind nodes root k at Bytes lt b p r = r
of_kind nodes root k at Text lt b p r = r
of_kind nodes root k at (Array c) lt b p r = (type_at (types_of nodes) c, r, inside_stands nodes c (omega arith))
of_kind nodes root k at (Map c) lt b p r = (type_at (types_of nodes) c, r, inside_stands nodes c (omega arith))
of_kind nodes root k at (Union v names) lt b p r = (branches_at (types_of nodes) v.items, r)
of_kind nodes root k at (Fixed name size) lt b p r = (name, r)
of_kind nodes root k at (Enum name v) lt b p r = (name, v, r)
of_kind nodes root k at (Record name v) lt b p r = (name, fields_at (types_of nodes) v.items, r)
of_kind nodes root k at (Named name d) lt b p r = absurd cc

union_inside : (nodes : List Form) (root at : ℕ) (f : Form) (bs : Branches) → at < length nodes → AreBefore at f → type_of (types_of nodes) f ≡ union bs → StandForBranches (record { nodes = nodes; root = root }) (branches_in f) bs
union_inside nodes root at (Union v names) bs lt b e =
    let P : Branches → Type 0 = λ x. StandForBranches (record { nodes = nodes; root = root }) v.items x in
    let same : branches_at (types_of nodes) v.items ≡ bs = cc in
    subst P same (branches_stand nodes root at v.items (omega arith) b)
union_inside nodes root at Null bs lt b e = absurd cc
union_inside nodes root at Boolean bs lt b e = absurd cc
union_inside nodes root at Int bs lt b e = absurd cc
union_inside nodes root at Long bs lt b e = absurd cc
union_inside nodes root at Bytes bs lt b e = absurd cc
union_inside nodes root at Text bs lt b e = absurd cc
union_inside nodes root at (Array c) bs lt b e = absurd cc
union_inside nodes root at (Map c) bs lt b e = absurd cc
union_inside nodes root at (Fixed name size) bs lt b e = absurd cc
union_inside nodes root at (Enum name v) bs lt b e = absurd cc
union_inside nodes root at (Record name v) bs lt b e = absurd cc
union_inside nodes root at (Named name d) bs lt b e = absurd cc

names_by_nodes : (ts : List AvroType) (ks : List ℕ) → names_of_branches ts ks ≡ branch_names (branches_at ts ks)
names_by_nodes ts [] = refl
names_by_nodes ts (k ∷ ks) = ap (λ ns. branch_name (type_at ts k) ∷ ns) (names_by_nodes ts ks)

names_inside : (ts : List AvroType) (f : Form) (bs : Branches) → IsNamed ts f → type_of ts f ≡ union bs → names_in f ≡ branch_names bs
names_inside ts (Union v names) bs is e =
    let same : branches_at ts v.items ≡ bs = cc in is ∙ names_by_nodes ts v.items ∙ ap branch_names same
names_inside ts Null bs is e = absurd cc
names_inside ts Boolean bs is e = absurd cc
names_inside ts Int bs is e = absurd cc
names_inside ts Long bs is e = absurd cc
names_inside ts Bytes bs is e = absurd cc
names_inside ts Text bs is e = absurd cc
names_inside ts (Array c) bs is e = absurd cc
names_inside ts (Map c) bs is e = absurd cc
names_inside ts (Fixed name size) bs is e = absurd cc
names_inside ts (Enum name v) bs is e = absurd cc
names_inside ts (Record name v) bs is e = absurd cc
names_inside ts (Named name d) bs is e = absurd cc

enum_inside : (ts : List AvroType) (f : Form) (n : List ℕ) (ss : List (List ℕ)) → type_of ts f ≡ enum_ n ss → symbols_in f ≡ ss
enum_inside ts (Enum name v) n ss e = cc
enum_inside ts (Union v names) n ss e = absurd cc
enum_inside ts Null n ss e = absurd cc
enum_inside ts Boolean n ss e = absurd cc
enum_inside ts Int n ss e = absurd cc
enum_inside ts Long n ss e = absurd cc
enum_inside ts Bytes n ss e = absurd cc
enum_inside ts Text n ss e = absurd cc
enum_inside ts (Array c) n ss e = absurd cc
enum_inside ts (Map c) n ss e = absurd cc
enum_inside ts (Fixed name size) n ss e = absurd cc
enum_inside ts (Record name v) n ss e = absurd cc
enum_inside ts (Named name d) n ss e = absurd cc

record_inside : (nodes : List Form) (root at : ℕ) (f : Form) (n : List ℕ) (fs : Fields) → at < length nodes → AreBefore at f → type_of (types_of nodes) f ≡ record_ n fs → StandForFields (record { nodes = nodes; root = root }) (fields_in f) fs
record_inside nodes root at (Record name v) n fs lt b e =
    let P : Fields → Type 0 = λ x. StandForFields (record { nodes = nodes; root = root }) v.items x in
    let same : fields_at (types_of nodes) v.items ≡ fs = cc in
    subst P same (fields_stand nodes root at v.items (omega arith) b)
record_inside nodes root at Null n fs lt b e = absurd cc
record_inside nodes root at Boolean n fs lt b e = absurd cc
record_inside nodes root at Int n fs lt b e = absurd cc
record_inside nodes root at Long n fs lt b e = absurd cc
record_inside nodes root at Bytes n fs lt b e = absurd cc
record_inside nodes root at Text n fs lt b e = absurd cc
record_inside nodes root at (Array c) n fs lt b e = absurd cc
record_inside nodes root at (Map c) n fs lt b e = absurd cc
record_inside nodes root at (Union v names) n fs lt b e = absurd cc
record_inside nodes root at (Fixed name size) n fs lt b e = absurd cc
record_inside nodes root at (Enum name v) n fs lt b e = absurd cc
record_inside nodes root at (Named name d) n fs lt b e = absurd cc

pub name_inside : (ts : List AvroType) (f : Form) → branch_name (type_of ts f) ≡ name_in f
name_inside ts Null = refl
name_inside ts Boolean = refl
name_inside ts Int = refl
name_inside ts Long = refl
name_inside ts Bytes = refl
name_inside ts Text = refl
name_inside ts (Array c) = refl
name_inside ts (Map c) = refl
name_inside ts (Union v names) = refl
name_inside ts (Fixed name size) = refl
name_inside ts (Enum name v) = refl
name_inside ts (Record name v) = refl
name_inside ts (Named name d) = refl

-- ---- the same at the schema that contracts see

module _ (s : SchemaValue) (nodes : List Form) (ds : List Definition) (root : ℕ) (seen : ◌≡◌ {A = SchemaValue} (record { nodes = nodes; root = root }) s) (is : IsSchema nodes ds root) where
  pub root_stands : Stands s root (tree_of s)
  root_stands = let P : SchemaValue → Type 0 = λ x. Stands x root (tree_of x) in subst P seen (inside_stands nodes root is.inside)

  pub has_node : (k : ℕ) (t : AvroType) → Stands s k t → k < length nodes
  has_node k t h =
      let P : SchemaValue → Type 0 = λ x. Stands x k t in node_inside nodes k t (subst P (sym seen) h)

  pub kind_is : (k : ℕ) (f : Form) → IsFormOf nodes root k f → (u : AvroType) → Resolves s k u → IsKindOf s u (kind_in f)
  kind_is k f i =
      let P : SchemaValue → Type 0 = λ x. (u : AvroType) → Resolves x k u → IsKindOf x u (kind_in f) in subst P seen (kind_value nodes ds root k f is i)

  pub is_kind : (k : ℕ) (f : Form) (t : AvroType) → IsFormOf nodes root k f → Stands s k t → IsOfKind s k (kind_in f)
  is_kind k f t i =
      let P : SchemaValue → Type 0 = λ x. Stands x k t → IsOfKind x k (kind_in f) in
      let before = before_is 0 i.at nodes f is.before i.is i.at (omega arith) in
      subst P seen (λ h. of_kind nodes root k i.at f (slice_get_within nodes i.at f i.is) before i.plain (resolves_found nodes root k f t i h))

  pub branches_are : (k : ℕ) (f : Form) → IsFormOf nodes root k f → (bs : Branches) → Resolves s k (union bs) → StandForBranches s (branches_in f) bs
  branches_are k f i =
      let P : SchemaValue → Type 0 = λ x. (bs : Branches) → Resolves x k (union bs) → StandForBranches x (branches_in f) bs in
      let before = before_is 0 i.at nodes f is.before i.is i.at (omega arith) in
      subst P seen (λ bs r. union_inside nodes root i.at f bs (slice_get_within nodes i.at f i.is) before (resolves_to nodes root k f (union bs) i r))

  pub names_are : (k : ℕ) (f : Form) → IsFormOf nodes root k f → (bs : Branches) → Resolves s k (union bs) → names_in f ≡ branch_names bs
  names_are k f i =
      let P : SchemaValue → Type 0 = λ x. (bs : Branches) → Resolves x k (union bs) → names_in f ≡ branch_names bs in
      subst P seen (λ bs r. names_inside (types_of nodes) f bs (is.named i.at f i.is) (resolves_to nodes root k f (union bs) i r))

  pub symbols_are : (k : ℕ) (f : Form) → IsFormOf nodes root k f → (n : List ℕ) (ss : List (List ℕ)) → Resolves s k (enum_ n ss) → symbols_in f ≡ ss
  symbols_are k f i =
      let P : SchemaValue → Type 0 = λ x. (n : List ℕ) (ss : List (List ℕ)) → Resolves x k (enum_ n ss) → symbols_in f ≡ ss in
      subst P seen (λ n ss r. enum_inside (types_of nodes) f n ss (resolves_to nodes root k f (enum_ n ss) i r))

  pub fields_are : (k : ℕ) (f : Form) → IsFormOf nodes root k f → (n : List ℕ) (fs : Fields) → Resolves s k (record_ n fs) → StandForFields s (fields_in f) fs
  fields_are k f i =
      let P : SchemaValue → Type 0 = λ x. (n : List ℕ) (fs : Fields) → Resolves x k (record_ n fs) → StandForFields x (fields_in f) fs in
      let before = before_is 0 i.at nodes f is.before i.is i.at (omega arith) in
      subst P seen (λ n fs r. record_inside nodes root i.at f n fs (slice_get_within nodes i.at f i.is) before (resolves_to nodes root k f (record_ n fs) i r))

  pub name_is : (k : ℕ) (f : Form) → f ≡ get_or nodes k f → (t : AvroType) → Stands s k t → name_in f ≡ branch_name t
  name_is k f e =
      let P : SchemaValue → Type 0 = λ x. (t : AvroType) → Stands x k t → name_in f ≡ branch_name t in
      subst P seen (λ t h.
      let made = type_is nodes k f is.before (read_is nodes k f (node_inside nodes k t h) e) in
      sym (name_inside (types_of nodes) f) ∙ ap branch_name (sym made ∙ get_or_from_slice_get (types_of nodes) k t null h))

-- the name of the type at a node
pub form_name : (nodes : List Form) (k : ℕ) (f : Form) → EachBefore 0 nodes → k < length nodes → f ≡ get_or nodes k f → name_in f ≡ branch_name (type_at (types_of nodes) k)
form_name nodes k f b lt e = sym (name_inside (types_of nodes) f) ∙ ap branch_name (sym (type_is nodes k f b (read_is nodes k f lt e)))
