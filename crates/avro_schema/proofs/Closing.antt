-- From a definition whose node is to come, over what was read inside it, to the type that it defines.
use Rattle.std.proofs.Common.{◌≡◌, ℕ, ◌<◌, List, [], ◌∷◌, ◌++◌, length, Result, Ok, Err, IfOk, IfErr, inr, Some, refl, sym, ap, ◌∙◌, subst, append_assoc, arith, length-append}
use Rattle.std.specs.List.{slice_get}
use Rattle.avro_schema.specs.Types.{AvroType, Defined, definitions}
use Rattle.avro_schema.specs.Forms.{type_of, types_of, AreBefore, EachBefore, IsNamed, EachNamed}
use Rattle.avro_schema.specs.Reading.{Outcome}
use Rattle.avro_names.specs.Definitions.{names_in, FirstNamed, defined_at}
use Rattle.avro_schema.specs.Building.{names_of, IsBuilt, DefinesIn, Grows, Tells, Finishes, NamesNew}
use Rattle.avro_schema.specs.declared.parts.Form.{Form}
use Rattle.avro_schema.specs.declared.parts.Form.TheVariants.{Named}
use Rattle.avro_names.specs.declared.definitions.Definition.{Definition}
use Rattle.avro_schema.specs.declared.parts.Parts.{Parts}
use Rattle.avro_names.specs.declared.error.SchemaNo.{SchemaNo}
use Rattle.avro_names.specs.declared.error.SchemaNo.TheVariants.{Want}
use Rattle.avro_names.proofs.DefinitionLemmas.{names_in-append, names_in-defined_at}
use Rattle.avro_schema.proofs.Growth.{defines_stay, built_push, push_stands}
use Rattle.avro_names.proofs.DefinitionLemmas.{first_stays, first_defined_at, defined_at-behind}

pub named_built : (o : Result (List ℕ) SchemaNo) (p q : Parts) (name : List ℕ) (d : ℕ) → IsBuilt p → NamesNew o p q name d → IsBuilt q
named_built o p q name d b n =
    let P : List Form → Type 0 = λ fs. EachBefore 0 fs in
    let Q : List Definition → Type 0 = λ xs. (k : ℕ) (m : List ℕ) (e : ℕ) → slice_get q.nodes.items k ≡ Some (Named m e) → FirstNamed xs m e in
    record {
      before = subst P (sym n.nodes) b.before;
      named = subst EachNamed (sym n.nodes) b.named;
      leads = subst Q (sym n.definitions) (λ k m e h. first_stays p.definitions ((record { name = name; node = 0 }) ∷ []) m e (b.leads k m e (ap (λ fs. slice_get fs k) (sym n.nodes) ∙ h)));
    }

pub named_names : (o : Result (List ℕ) SchemaNo) (p q : Parts) (name : List ℕ) (d : ℕ) → NamesNew o p q name d → names_of q ≡ names_of p ++ (name ∷ [])
named_names o p q name d n = ap names_in n.definitions ∙ names_in-append p.definitions ((record { name = name; node = 0 }) ∷ [])

pub named_inside : (o : Result (List ℕ) SchemaNo) (p q r : Parts) (name : List ℕ) (d : ℕ) (ds : List Defined) → NamesNew o p q name d → Grows q r ds → d < length r.definitions
named_inside o p q r name d ds n g =
    let a = ap length n.definitions in
    let b = length-append p.definitions ((record { name = name; node = 0 }) ∷ []) in
    let c = ap length g.definitions_are in
    let e = length-append q.definitions g.made in
    let place = n.place in omega arith

-- what is known of the type whose node was made
pub record Closed (p s : Parts) (k : ℕ) (t : AvroType) (names : List (List ℕ)) : Type 0 where
  pub stands : slice_get (types_of s.nodes.items) k ≡ Some t
  pub grows : Grows p s (definitions t)
  pub names_are : names_of s ≡ names

pub closed : (o : Result (List ℕ) SchemaNo) (p q r s : Parts) (name : List ℕ) (d : ℕ) (ds : List Defined) (f : Form) (t : AvroType) (k : ℕ) → NamesNew o p q name d → Grows q r ds → Finishes r s d f k → AreBefore (length r.nodes.items) f → IsNamed (types_of r.nodes.items) f
    → ((m : List ℕ) (e : ℕ) → f ≡ Named m e → ⊥) → type_of (types_of r.nodes.items) f ≡ t → definitions t ≡ (record { name = name; type = t }) ∷ ds → Closed p s k t (names_of r)
closed o p q r s name d ds f t k n g fin before kept plain type defines =
    let stood = push_stands r s f fin.nodes ∙ ap (λ x. Some x) type in
    let P : ℕ → Type 0 = λ i. slice_get (types_of s.nodes.items) i ≡ Some t in
    let stands = subst P (sym fin.place) stood in
    let before_close : r.definitions ≡ (p.definitions ++ ((record { name = name; node = 0 }) ∷ [])) ++ g.made = g.definitions_are ∙ ap (λ xs. xs ++ g.made) n.definitions in
    let defined : s.definitions ≡ p.definitions ++ ((record { name = name; node = k }) ∷ g.made) =
    fin.definitions ∙ ap (λ xs. defined_at xs d k) before_close ∙ ap (λ i. defined_at ((p.definitions ++ ((record { name = name; node = 0 }) ∷ [])) ++ g.made) i k) n.place ∙ defined_at-behind p.definitions g.made name 0 k in
    let Q : List Form → Type 0 = λ fs. DefinesIn (types_of fs) g.made ds in
    let R : List Defined → Type 0 = λ xs. DefinesIn (types_of s.nodes.items) ((record { name = name; node = k }) ∷ g.made) xs in
    let inner : DefinesIn (types_of s.nodes.items) g.made ds = subst Q (sym fin.nodes) (defines_stay r.nodes.items (f ∷ []) g.made ds g.define) in
    let B : List Form → Type 0 = λ fs. EachBefore 0 fs in
    let mid : Parts = record r { nodes = s.nodes } in
    let pushed = built_push r mid f g.built fin.nodes refl before kept (λ m e is. absurd (plain m e is)) in
    let L : List Definition → Type 0 = λ xs. (i : ℕ) (m : List ℕ) (e : ℕ) → slice_get s.nodes.items i ≡ Some (Named m e) → FirstNamed xs m e in
    record {
      stands = stands;
      names_are = ap names_in fin.definitions ∙ names_in-defined_at r.definitions d k;
      grows = record {
        more = g.more ++ (f ∷ []);
        nodes_are = fin.nodes ∙ ap (λ xs. xs ++ (f ∷ [])) g.nodes_are ∙ append_assoc q.nodes.items g.more (f ∷ []) ∙ ap (λ xs. xs ++ (g.more ++ (f ∷ []))) n.nodes;
        made = (record { name = name; node = k }) ∷ g.made;
        definitions_are = defined;
        define = subst R (sym defines) (refl, stands, inner);
        built = record { before = pushed.before; named = pushed.named; leads = subst L (sym fin.definitions) (λ i m e h. first_defined_at r.definitions d k m e (pushed.leads i m e h)) };
      };
    }

pub closed_tells : (o : Outcome AvroType) (u : Result (List ℕ) SchemaNo) (p q r s : Parts) (name : List ℕ) (d : ℕ) (ds : List Defined) (f : Form) (t : AvroType) (res : Result ℕ SchemaNo) → NamesNew u p q name d → Grows q r ds
    → IfOk res (Finishes r s d f) → IfErr res (λ e. e ≡ Want) → AreBefore (length r.nodes.items) f → IsNamed (types_of r.nodes.items) f → ((m : List ℕ) (e : ℕ) → f ≡ Named m e → ⊥) → type_of (types_of r.nodes.items) f ≡ t → definitions t ≡ (record { name = name; type = t }) ∷ ds
    → o ≡ Ok (record { value = t; names = names_of r }) → Tells o p s res
closed_tells o u p q r s name d ds f t (Ok k) n g fin want before kept plain type defines is =
    let c = closed u p q r s name d ds f t k n g fin before kept plain type defines in
    record { t = t; is = is ∙ ap (λ names. Ok (record { value = t; names = names })) (sym c.names_are); stands = c.stands; grows = c.grows }
closed_tells o u p q r s name d ds f t (Err e) n g fin want before kept plain type defines is = inr want
