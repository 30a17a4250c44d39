-- From what was added to nodes and definitions to what they stand for.
use Rattle.std.proofs.Common.{◌≡◌, ℕ, zero, suc, List, [], ◌∷◌, ◌++◌, length, true, ◌||◌, Some, Result, Ok, Err, IfOk, IfErr, ◌⊎◌, inl, inr, refl, sym, ap, ◌∙◌, subst, append_assoc, arith}
use Rattle.std.specs.List.{slice_get}
use Rattle.std.proofs.lemmas.List.{append-nil}
use Rattle.avro_schema.specs.Types.{AvroType, Defined, definitions}
use Rattle.avro_schema.specs.Forms.{type_of, types_of, AreBefore, EachBefore, IsNamed, EachNamed}
use Rattle.avro_schema.specs.Reading.{Outcome}
use Rattle.avro_names.specs.Definitions.{names_in, FirstNamed}
use Rattle.avro_schema.specs.Building.{names_of, IsBuilt, DefinesIn, Grows, Makes, Tells}
use Rattle.avro_schema.specs.declared.parts.Form.{Form}
use Rattle.avro_schema.specs.declared.parts.Form.TheVariants.{Named}
use Rattle.avro_names.specs.declared.definitions.Definition.{Definition}
use Rattle.avro_schema.specs.declared.parts.Parts.{Parts}
use Rattle.avro_names.specs.declared.error.SchemaNo.{SchemaNo}
use Rattle.avro_names.specs.declared.error.SchemaNo.TheVariants.{Want}
use Rattle.avro_schema.proofs.Grown.{stands_stay, each_push, length-types_of, types_of-push, types_stay, named_same, named_stay}

-- ---- lists

pub get_front : {X : Type 0} (xs ys : List X) (k : ℕ) (x : X) → slice_get xs k ≡ Some x → slice_get (xs ++ ys) k ≡ Some x
get_front [] ys k x h = absurd cc
get_front (y ∷ xs) ys zero x h = h
get_front (y ∷ xs) ys (suc k) x h = get_front xs ys k x h

pub get_last : {X : Type 0} (xs : List X) (x : X) → slice_get (xs ++ (x ∷ [])) (length xs) ≡ Some x
get_last [] x = refl
get_last (y ∷ xs) x = get_last xs x

pub get_push : {X : Type 0} (xs : List X) (y : X) (k : ℕ) (x : X) → slice_get (xs ++ (y ∷ [])) k ≡ Some x → (slice_get xs k ≡ Some x) ⊎ (y ≡ x)
get_push [] y zero x h = inr cc
get_push [] y (suc k) x h = absurd cc
get_push (z ∷ xs) y zero x h = inl h
get_push (z ∷ xs) y (suc k) x h = get_push xs y k x h

-- ---- definitions

pub defines_stay : (fs more : List Form) (xs : List Definition) (ds : List Defined) → DefinesIn (types_of fs) xs ds → DefinesIn (types_of (fs ++ more)) xs ds
defines_stay fs more [] [] h = tt
defines_stay fs more [] (d ∷ ds) h = absurd h
defines_stay fs more (x ∷ xs) [] h = absurd h
defines_stay fs more (x ∷ xs) (d ∷ ds) h = (h.0, stands_stay fs more x.node d.type h.1, defines_stay fs more xs ds h.2)

pub defines_both : (ts : List AvroType) (xs ys : List Definition) (ds es : List Defined) → DefinesIn ts xs ds → DefinesIn ts ys es → DefinesIn ts (xs ++ ys) (ds ++ es)
defines_both ts [] ys [] es h i = i
defines_both ts [] ys (d ∷ ds) es h i = absurd h
defines_both ts (x ∷ xs) ys [] es h i = absurd h
defines_both ts (x ∷ xs) ys (d ∷ ds) es h i = (h.0, h.1, defines_both ts xs ys ds es h.2 i)

-- ---- parts

-- p has the nodes and definitions of q
pub record Same (p q : Parts) : Type 0 where
  pub nodes : p.nodes.items ≡ q.nodes.items
  pub definitions : p.definitions ≡ q.definitions

pub built_same : (p q : Parts) → p.nodes.items ≡ q.nodes.items → p.definitions ≡ q.definitions → IsBuilt p → IsBuilt q
built_same p q n d b =
    let P : List Form → Type 0 = λ fs. EachBefore 0 fs in
    let Q : List Definition → Type 0 = λ xs. (k : ℕ) (name : List ℕ) (e : ℕ) → slice_get q.nodes.items k ≡ Some (Named name e) → FirstNamed xs name e in
    record { before = subst P n b.before; named = subst EachNamed n b.named; leads = subst Q d (λ k name e h. b.leads k name e (ap (λ fs. slice_get fs k) n ∙ h)) }

pub grows_refl : (p : Parts) → IsBuilt p → Grows p p []
grows_refl p b = record { more = []; nodes_are = sym (append-nil p.nodes.items); made = []; definitions_are = sym (append-nil p.definitions); define = tt; built = b }

pub grows_trans : (p q r : Parts) (ds es : List Defined) → Grows p q ds → Grows q r es → Grows p r (ds ++ es)
grows_trans p q r ds es g h =
    let P : List Form → Type 0 = λ fs. DefinesIn (types_of fs) g.made ds in
    record {
      more = g.more ++ h.more;
      nodes_are = h.nodes_are ∙ ap (λ fs. fs ++ h.more) g.nodes_are ∙ append_assoc p.nodes.items g.more h.more;
      made = g.made ++ h.made;
      definitions_are = h.definitions_are ∙ ap (λ xs. xs ++ h.made) g.definitions_are ∙ append_assoc p.definitions g.made h.made;
      define = defines_both (types_of r.nodes.items) g.made h.made ds es (subst P (sym h.nodes_are) (defines_stay q.nodes.items h.more g.made ds g.define)) h.define;
      built = h.built;
    }

pub grows_along : (p q : Parts) (ds es : List Defined) → ds ≡ es → Grows p q ds → Grows p q es
grows_along p q ds es e g = let P : List Defined → Type 0 = λ xs. Grows p q xs in subst P e g

-- what stands in the old nodes stands in the new
pub stands_later : (p q : Parts) (ds : List Defined) (k : ℕ) (t : AvroType) → Grows p q ds → slice_get (types_of p.nodes.items) k ≡ Some t → slice_get (types_of q.nodes.items) k ≡ Some t
stands_later p q ds k t g h = let P : List Form → Type 0 = λ fs. slice_get (types_of fs) k ≡ Some t in subst P (sym g.nodes_are) (stands_stay p.nodes.items g.more k t h)

named_push : (fs : List Form) (f : Form) → EachBefore 0 fs → EachNamed fs → AreBefore (length fs) f → IsNamed (types_of fs) f → EachNamed (fs ++ (f ∷ []))
named_push fs f b old before kept k g h =
    let G : (slice_get fs k ≡ Some g) ⊎ (f ≡ g) → Type 0 = λ s. IsNamed (types_of (fs ++ (f ∷ []))) g in
    let P : Form → Type 0 = λ x. IsNamed (types_of (fs ++ (f ∷ []))) x in
    elim (get_push fs f k g h) as G [
      | inl at ↦ named_stay fs (f ∷ []) k g b at (old k g at)
      | inr same ↦ subst P same (named_same (types_of fs) (types_of (fs ++ (f ∷ []))) (length fs) f (types_stay fs (f ∷ [])) before kept)
    ]

-- one node more
pub built_push : (p q : Parts) (f : Form) → IsBuilt p → q.nodes.items ≡ p.nodes.items ++ (f ∷ []) → q.definitions ≡ p.definitions → AreBefore (length p.nodes.items) f → IsNamed (types_of p.nodes.items) f
    → ((name : List ℕ) (d : ℕ) → f ≡ Named name d → FirstNamed p.definitions name d) → IsBuilt q
built_push p q f b n d before kept named =
    let P : List Form → Type 0 = λ fs. EachBefore 0 fs in
    let Q : List Definition → Type 0 = λ xs. (k : ℕ) (name : List ℕ) (e : ℕ) → slice_get q.nodes.items k ≡ Some (Named name e) → FirstNamed xs name e in
    let leads = λ (k : ℕ) (name : List ℕ) (e : ℕ) (h : slice_get q.nodes.items k ≡ Some (Named name e)).
    let G : (slice_get p.nodes.items k ≡ Some (Named name e)) ⊎ (f ≡ Named name e) → Type 0 = λ s. FirstNamed p.definitions name e in
    elim (get_push p.nodes.items f k (Named name e) (ap (λ fs. slice_get fs k) (sym n) ∙ h)) as G [ inl old ↦ b.leads k name e old | inr new ↦ named name e new ] in
    record { before = subst P (sym n) (each_push 0 p.nodes.items f (length p.nodes.items) b.before (omega arith) before); named = subst EachNamed (sym n) (named_push p.nodes.items f b.before b.named before kept); leads = subst Q (sym d) leads }

pub pushed : (p q : Parts) (f : Form) → IsBuilt p → q.nodes.items ≡ p.nodes.items ++ (f ∷ []) → q.definitions ≡ p.definitions → AreBefore (length p.nodes.items) f → IsNamed (types_of p.nodes.items) f
    → ((name : List ℕ) (d : ℕ) → f ≡ Named name d → FirstNamed p.definitions name d) → Grows p q []
pushed p q f b n d before kept named =
    record { more = f ∷ []; nodes_are = n; made = []; definitions_are = d ∙ sym (append-nil p.definitions); define = tt; built = built_push p q f b n d before kept named }

pub push_stands : (p q : Parts) (f : Form) → q.nodes.items ≡ p.nodes.items ++ (f ∷ []) → slice_get (types_of q.nodes.items) (length p.nodes.items) ≡ Some (type_of (types_of p.nodes.items) f)
push_stands p q f n =
    let P : List AvroType → Type 0 = λ ts. slice_get ts (length p.nodes.items) ≡ Some (type_of (types_of p.nodes.items) f) in
    let Q : ℕ → Type 0 = λ i. slice_get (types_of p.nodes.items ++ (type_of (types_of p.nodes.items) f ∷ [])) i ≡ Some (type_of (types_of p.nodes.items) f) in
    subst P (sym (ap types_of n ∙ types_of-push p.nodes.items f)) (subst Q (length-types_of p.nodes.items) (get_last (types_of p.nodes.items) (type_of (types_of p.nodes.items) f)))

-- a node that is added behind what was read
pub made_push : (o : Outcome AvroType) (p q r : Parts) (f : Form) (t : AvroType) (k : ℕ) (ds : List Defined) → Grows p q ds → o ≡ Ok (record { value = t; names = names_of q }) → k ≡ length q.nodes.items → r.nodes.items ≡ q.nodes.items ++ (f ∷ [])
    → r.definitions ≡ q.definitions → AreBefore (length q.nodes.items) f → IsNamed (types_of q.nodes.items) f → ((name : List ℕ) (d : ℕ) → f ≡ Named name d → FirstNamed q.definitions name d) → type_of (types_of q.nodes.items) f ≡ t → definitions t ≡ ds
    → Makes o p r k
made_push o p q r f t k ds g is place n d before kept named type defines =
    let P : ℕ → Type 0 = λ i. slice_get (types_of r.nodes.items) i ≡ Some t in
    record {
      t = t;
      is = is ∙ ap (λ xs. Ok (record { value = t; names = names_in xs })) (sym d);
      stands = subst P (sym place) (push_stands q r f n ∙ ap (λ x. Some x) type);
      grows = grows_along p r (ds ++ []) (definitions t) (append-nil ds ∙ sym defines) (grows_trans p q r ds [] g (pushed q r f g.built n d before kept named));
    }

pub tells_push : (o : Outcome AvroType) (p q r : Parts) (f : Form) (t : AvroType) (res : Result ℕ SchemaNo) (ds : List Defined) → Grows p q ds → o ≡ Ok (record { value = t; names = names_of q })
    → IfOk res (λ k. (k ≡ length q.nodes.items) × (r.nodes.items ≡ q.nodes.items ++ (f ∷ []))) → IfErr res (λ e. e ≡ Want) → r.definitions ≡ q.definitions → AreBefore (length q.nodes.items) f → IsNamed (types_of q.nodes.items) f
    → ((name : List ℕ) (d : ℕ) → f ≡ Named name d → FirstNamed q.definitions name d) → type_of (types_of q.nodes.items) f ≡ t → definitions t ≡ ds → Tells o p r res
tells_push o p q r f t (Ok k) ds g is ok want d before kept named type defines = made_push o p q r f t k ds g is ok.0 ok.1 d before kept named type defines
tells_push o p q r f t (Err e) ds g is ok want d before kept named type defines = inr want
