-- From what was read from nothing to a whole schema, in which each reference leads to the type that its name was given to.
use Rattle.std.proofs.Common.{◌≡◌, ℕ, zero, suc, ◌<◌, List, [], ◌∷◌, ◌++◌, length, Bool, true, false, cond, Some, refl, sym, ap, ◌∙◌, subst, arith}
use Rattle.std.specs.List.{slice_get, All}
use Rattle.std.specs.Str.{bytes_eq}
use Rattle.std.proofs.lemmas.List.Elements.{All-nil, All-cons, All-append, All-head, All-tail}
use Rattle.std.proofs.lemmas.Option.{slice_get_within, get_or_from_slice_get}
use Rattle.avro_schema.specs.Types.{AvroType, Branches, Fields, Defined, null, boolean, int, long, bytes, string, array, map, union, fixed, enum_, record_, named, no_branches, branch, no_fields, field, definitions, branch_definitions, field_definitions, definition_or, resolved}
use Rattle.avro_schema.specs.Forms.{type_at, type_of, types_of, is_plain, EachBefore, IsNamed, EachNamed, Leads, IsSchema}
use Rattle.avro_schema.specs.Reading.{Outcome, ReadsAs}
use Rattle.avro_schema.specs.Canonical.{canonical_form}
use Rattle.avro_names.specs.Definitions.{FirstNamed}
use Rattle.avro_schema.specs.Building.{IsBuilt, DefinesIn, Makes, Finished}
use Rattle.avro_schema.specs.declared.parts.Form.{Form}
use Rattle.avro_schema.specs.declared.parts.Form.TheVariants.{Null, Boolean, Int, Long, Bytes, Text, Array, Map, Union, Fixed, Enum, Record, Named}
use Rattle.avro_names.specs.declared.definitions.Definition.{Definition}
use Rattle.avro_schema.specs.declared.parts.Parts.{Parts}
use Rattle.avro_schema.proofs.Grown.{type_is, length-types_of}

abbrev is_own : AvroType → Bool
is_own (named name) = false
is_own t = true

abbrev IsOwn : Defined → Type 0
IsOwn d = is_own d.type ≡ true

mutual
  own_types : (t : AvroType) → All IsOwn (definitions t)
  own_types null = All-nil IsOwn
  own_types boolean = All-nil IsOwn
  own_types int = All-nil IsOwn
  own_types long = All-nil IsOwn
  own_types bytes = All-nil IsOwn
  own_types string = All-nil IsOwn
  own_types (array t) = own_types t
  own_types (map t) = own_types t
  own_types (union bs) = own_branches bs
  own_types (fixed name size) = All-cons IsOwn (record { name = name; type = fixed name size }) [] refl (All-nil IsOwn)
  own_types (enum_ name symbols) = All-cons IsOwn (record { name = name; type = enum_ name symbols }) [] refl (All-nil IsOwn)
  own_types (record_ name fs) = All-cons IsOwn (record { name = name; type = record_ name fs }) (field_definitions fs) refl (own_fields fs)
  own_types (named name) = All-nil IsOwn

  own_branches : (bs : Branches) → All IsOwn (branch_definitions bs)
  own_branches no_branches = All-nil IsOwn
  own_branches (branch t bs) = All-append IsOwn (definitions t) (branch_definitions bs) (own_types t) (own_branches bs)

  own_fields : (fs : Fields) → All IsOwn (field_definitions fs)
  own_fields no_fields = All-nil IsOwn
  own_fields (field name t fs) = All-append IsOwn (definitions t) (field_definitions fs) (own_types t) (own_fields fs)

-- the definition that a number leads to
record Led (ts : List AvroType) (xs : List Definition) (ds : List Defined) (other : AvroType) (name : List ℕ) (d : ℕ) : Type 0 where
  x : Definition
  is : slice_get xs d ≡ Some x
  type : slice_get ts x.node ≡ Some (definition_or other name ds)
  own : is_own (definition_or other name ds) ≡ true

led : (ts : List AvroType) (xs : List Definition) (ds : List Defined) (other : AvroType) (name : List ℕ) (d : ℕ) → DefinesIn ts xs ds → All IsOwn ds → FirstNamed xs name d → Led ts xs ds other name d
led ts [] ds other name d h o f = absurd f
led ts (x ∷ xs) [] other name d h o f = absurd h
led ts (x ∷ xs) (e ∷ ds) other name zero h o f =
    let test : bytes_eq e.name name ≡ true = ap (λ n. bytes_eq n name) (sym h.0) ∙ f in
    let first : definition_or other name (e ∷ ds) ≡ e.type = ap (λ t. cond t e.type (definition_or other name ds)) test in
    record { x = x; is = refl; type = h.1 ∙ ap (λ t. Some t) (sym first); own = ap is_own first ∙ All-head IsOwn e ds o }
led ts (x ∷ xs) (e ∷ ds) other name (suc d) h o f =
    let test : bytes_eq e.name name ≡ false = ap (λ n. bytes_eq n name) (sym h.0) ∙ f.0 in
    let rest : definition_or other name (e ∷ ds) ≡ definition_or other name ds = ap (λ t. cond t e.type (definition_or other name ds)) test in
    let l = led ts xs ds other name d h.2 (All-tail IsOwn e ds o) f.1 in
    record { x = l.x; is = l.is; type = l.type ∙ ap (λ t. Some t) (sym rest); own = ap is_own rest ∙ l.own }

plain_form : (ts : List AvroType) (f : Form) → is_own (type_of ts f) ≡ true → is_plain f ≡ true
plain_form ts Null h = refl
plain_form ts Boolean h = refl
plain_form ts Int h = refl
plain_form ts Long h = refl
plain_form ts Bytes h = refl
plain_form ts Text h = refl
plain_form ts (Array k) h = refl
plain_form ts (Map k) h = refl
plain_form ts (Union v names) h = refl
plain_form ts (Fixed name size) h = refl
plain_form ts (Enum name v) h = refl
plain_form ts (Record name v) h = refl
plain_form ts (Named name d) h = h

some_form : (nodes : List Form) (k : ℕ) → k < length nodes → (f : Form) × (slice_get nodes k ≡ Some f)
some_form [] k h = absurd (omega arith)
some_form (f ∷ nodes) zero h = (f, refl)
some_form (f ∷ nodes) (suc k) h = some_form nodes k (omega arith)

leads_of : (p : Parts) (root : ℕ) (t : AvroType) (name : List ℕ) (d : ℕ) → Finished p root t → FirstNamed p.definitions name d → Leads p.nodes.items p.definitions root name d
leads_of p root t name d f first =
    let ts = types_of p.nodes.items in
    let whole : type_at ts root ≡ t = get_or_from_slice_get ts root t null f.stands in
    let l = led ts p.definitions (definitions t) (named name) name d f.define (own_types t) first in
    let far = slice_get_within ts l.x.node (definition_or (named name) name (definitions t)) l.type in
    let size = length-types_of p.nodes.items in
    let g = some_form p.nodes.items l.x.node (omega arith) in
    let made : type_of ts g.0 ≡ definition_or (named name) name (definitions t) =
    sym (type_is p.nodes.items l.x.node g.0 f.built.before g.1) ∙ get_or_from_slice_get ts l.x.node (definition_or (named name) name (definitions t)) null l.type in
    record {
      x = l.x;
      is = l.is;
      f = g.0;
      at = g.1;
      plain = plain_form ts g.0 (ap is_own made ∙ l.own);
      type = ap (λ u. resolved u (named name)) whole ∙ sym made;
    }

pub schema_of_parts : (p : Parts) (root : ℕ) (t : AvroType) → Finished p root t → ReadsAs true (canonical_form t) t → IsSchema p.nodes.items p.definitions root
schema_of_parts p root t f reads =
    let P : AvroType → Type 0 = λ u. ReadsAs true (canonical_form u) u in
    let far = slice_get_within (types_of p.nodes.items) root t f.stands in
    let size = length-types_of p.nodes.items in
    record { inside = omega arith; before = f.built.before; named = f.built.named; leads = λ k name d h. leads_of p root t name d f (f.built.leads k name d h); again = subst P (sym (get_or_from_slice_get (types_of p.nodes.items) root t null f.stands)) reads }

pub root_inside : (p : Parts) (root : ℕ) (t : AvroType) → Finished p root t → root < length p.nodes.items
root_inside p root t f = let far = slice_get_within (types_of p.nodes.items) root t f.stands in let size = length-types_of p.nodes.items in omega arith

pub whole_is : (p : Parts) (root : ℕ) (t : AvroType) → Finished p root t → type_at (types_of p.nodes.items) root ≡ t
whole_is p root t f = get_or_from_slice_get (types_of p.nodes.items) root t null f.stands

-- ---- from nothing

no_node : (k : ℕ) (name : List ℕ) (e : ℕ) → slice_get {X = Form} [] k ≡ Some (Named name e) → ⊥
no_node k name e h = cc

none_named : EachNamed []
none_named k f h = absurd cc

pub empty_built : (p : Parts) → p.nodes.items ≡ [] → p.definitions ≡ [] → IsBuilt p
empty_built p n d =
    let P : List Form → Type 0 = λ fs. EachBefore 0 fs in
    record { before = subst P (sym n) tt; named = subst EachNamed (sym n) none_named; leads = λ k name e h. absurd (no_node k name e (ap (λ fs. slice_get fs k) (sym n) ∙ h)) }

pub finished : (o : Outcome AvroType) (p q : Parts) (k : ℕ) → p.nodes.items ≡ [] → p.definitions ≡ [] → (m : Makes o p q k) → Finished q k m.t
finished o p q k n d m =
    let P : List Definition → Type 0 = λ xs. DefinesIn (types_of q.nodes.items) xs (definitions m.t) in
    let all : q.definitions ≡ m.grows.made = m.grows.definitions_are ∙ ap (λ xs. xs ++ m.grows.made) d in
    record { built = m.grows.built; stands = m.stands; define = subst P (sym all) m.grows.define }
