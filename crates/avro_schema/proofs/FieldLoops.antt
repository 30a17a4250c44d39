-- From fields so far to one more, and to all of them.
use Rattle.std.proofs.Common.{◌≡◌, ℕ, ◌+◌, ◌<◌, ◌≤◌, List, [], ◌∷◌, ◌++◌, length, get_or, drop, Option, Some, None, Ok, Err, inl, inr, refl, sym, ap, ◌∙◌, subst, append_assoc, arith, length-append}
use Rattle.std.specs.List.{All}
use Rattle.std.proofs.lemmas.List.{append-nil}
use Rattle.std.proofs.lemmas.List.Elements.{All-nil, All-push, All-weaker}
use Rattle.std.proofs.lemmas.Option.{slice_get_within, get_or_from_slice_get}
use Rattle.json_span.specs.Json.{Json, Items, array}
use Rattle.json_span.specs.Nodes.{Stands, StandForItems}
use Rattle.json_span.specs.declared.tree.Tree.{Tree}
use Rattle.avro_schema.specs.Types.{AvroType, Fields, Defined, null, no_fields, field, definitions, field_definitions}
use Rattle.avro_schema.specs.Forms.{type_at, fields_at, types_of}
use Rattle.avro_schema.specs.Reading.{Read, Outcome, Reader, FieldType, field_read, fields_read, fields_of}
use Rattle.avro_names.specs.Outcomes.{next}
use Rattle.avro_schema.specs.Building.{names_of, IsBuilt, Grows, MakesField, MakesFields, FieldsSoFar, behind_fields, in_front, names_of_fields}
use Rattle.avro_names.specs.Outcomes.{Why}
use Rattle.json_span.specs.Parts.{IsMember}
use Rattle.avro_schema.specs.declared.parts.Form.{Form}
use Rattle.avro_schema.specs.declared.parts.Field.{Field}
use Rattle.avro_schema.specs.declared.parts.Parts.{Parts}
use Rattle.avro_names.specs.declared.error.SchemaNo.{SchemaNo}
use Rattle.avro_schema.proofs.Grown.{Agree, fields_same, types_stay, length-types_of}
use Rattle.avro_schema.proofs.Growth.{grows_refl, grows_trans, grows_along}
use Rattle.avro_names.proofs.ListLemmas.{NextItem, no_item}

in_front_nothing : (o : Outcome Fields) → o ≡ in_front (behind_fields no_fields) o
in_front_nothing (Ok r) = refl
in_front_nothing (Err e) = refl

behind_one : (fs : Fields) (name : List ℕ) (t : AvroType) (rest : Fields) → behind_fields fs (field name t rest) ≡ behind_fields (behind_fields fs (field name t no_fields)) rest
behind_one no_fields name t rest = refl
behind_one (field n u fs) name t rest = ap (λ x. field n u x) (behind_one fs name t rest)

behind_none : (fs : Fields) → behind_fields fs no_fields ≡ fs
behind_none no_fields = refl
behind_none (field n u fs) = ap (λ x. field n u x) (behind_none fs)

in_front_more : (fs : Fields) (f : FieldType) (o : Outcome Fields)
    → in_front (behind_fields fs) (next o (λ rest. Ok (record { value = field f.name f.type rest.value; names = rest.names }))) ≡ in_front (behind_fields (behind_fields fs (field f.name f.type no_fields))) o
in_front_more fs f (Ok r) = ap (λ x. Ok (record { value = x; names = r.names })) (behind_one fs f.name f.type r.value)
in_front_more fs f (Err e) = refl

definitions-behind : (fs gs : Fields) → field_definitions (behind_fields fs gs) ≡ field_definitions fs ++ field_definitions gs
definitions-behind no_fields gs = refl
definitions-behind (field n u fs) gs = ap (λ ds. definitions u ++ ds) (definitions-behind fs gs) ∙ sym (append_assoc (definitions u) (field_definitions fs) (field_definitions gs))

fields_at-push : (ts : List AvroType) (vs : List Field) (v : Field) → fields_at ts (vs ++ (v ∷ [])) ≡ behind_fields (fields_at ts vs) (field v.name (type_at ts v.node) no_fields)
fields_at-push ts [] v = refl
fields_at-push ts (w ∷ vs) v = ap (λ x. field w.name (type_at ts w.node) x) (fields_at-push ts vs v)

pub names-push : (vs : List Field) (v : Field) → names_of_fields (vs ++ (v ∷ [])) ≡ names_of_fields vs ++ (v.name ∷ [])
names-push [] v = refl
names-push (w ∷ vs) v = ap (λ x. w.name ∷ x) (names-push vs v)

pub agree_later : (p q : Parts) (ds : List Defined) → Grows p q ds → Agree (length p.nodes.items) (types_of p.nodes.items) (types_of q.nodes.items)
agree_later p q ds g = let P : List Form → Type 0 = λ fs. Agree (length p.nodes.items) (types_of p.nodes.items) (types_of fs) in subst P (sym g.nodes_are) (types_stay p.nodes.items g.more)

pub more_nodes : (p q : Parts) (ds : List Defined) → Grows p q ds → length p.nodes.items ≤ length q.nodes.items
more_nodes p q ds g = let a = ap length g.nodes_are in let b = length-append p.nodes.items g.more in omega arith

pub fields_first : (tree : Tree) (below : Reader) (namespace : List ℕ) (js : Items) (p : Parts) (ks : List ℕ) → StandForItems tree ks js → IsBuilt p → FieldsSoFar tree below namespace js p p ks []
fields_first tree below namespace js p ks h b =
    record { left = js; stand = h; is = in_front_nothing (fields_read below (names_of p) namespace [] js); inside = All-nil (λ (v : Field). v.node < length p.nodes.items); grows = grows_refl p b }

module _ (tree : Tree) (below : Reader) (namespace : List ℕ) (js : Items) (p q : Parts) (xs : List ℕ) (i : ℕ) (vs : List Field) where
  pub fields_refused : (e : SchemaNo) → (s : FieldsSoFar tree below namespace js p q (drop i xs) vs) → (n : NextItem tree (get_or xs i 0) (drop (i + 1) xs) s.left)
      → Why (field_read below (names_of q) namespace (names_of_fields vs) n.j) e → Why (fields_read below (names_of p) namespace [] js) e
  fields_refused e s n w =
      let rest : Read FieldType → Outcome Fields = λ f. next (fields_read below f.names namespace (names_of_fields vs ++ (f.value.name ∷ [])) n.js) (λ r. Ok (record { value = field f.value.name f.value.type r.value; names = r.names })) in
      let F : Fields → Fields = behind_fields (fields_at (types_of q.nodes.items) vs) in
      let left = ap (λ l. in_front F (fields_read below (names_of q) namespace (names_of_fields vs) l)) n.is in
      elim w as (λ x. Why (fields_read below (names_of p) namespace [] js) e) [ inl is ↦ inl (s.is ∙ left ∙ ap (λ o. in_front F (next o rest)) is) | inr want ↦ inr want ]

  pub fields_more : (r : Parts) (vs_now : List Field) → (s : FieldsSoFar tree below namespace js p q (drop i xs) vs) → (n : NextItem tree (get_or xs i 0) (drop (i + 1) xs) s.left)
      → MakesField (field_read below (names_of q) namespace (names_of_fields vs) n.j) q r vs vs_now → FieldsSoFar tree below namespace js p r (drop (i + 1) xs) vs_now
  fields_more r vs_now s n m =
      let v : Field = record { name = m.f.name; node = m.node } in
      let F = fields_at (types_of q.nodes.items) vs in
      let same : F ≡ fields_at (types_of r.nodes.items) vs = fields_same (types_of q.nodes.items) (types_of r.nodes.items) (length q.nodes.items) vs (agree_later q r (definitions m.f.type) m.grows) s.inside in
      let here : type_at (types_of r.nodes.items) m.node ≡ m.f.type = get_or_from_slice_get (types_of r.nodes.items) m.node m.f.type null m.stands in
      let now : fields_at (types_of r.nodes.items) vs_now ≡ behind_fields F (field m.f.name m.f.type no_fields) =
      ap (λ x. fields_at (types_of r.nodes.items) x) m.more ∙ fields_at-push (types_of r.nodes.items) vs v
      ∙ ap (λ t. behind_fields (fields_at (types_of r.nodes.items) vs) (field m.f.name t no_fields)) here ∙ ap (λ x. behind_fields x (field m.f.name m.f.type no_fields)) (sym same) in
      let seen : names_of_fields vs ++ (m.f.name ∷ []) ≡ names_of_fields vs_now = sym (ap names_of_fields m.more ∙ names-push vs v) in
      let R = fields_read below (names_of r) namespace (names_of_fields vs_now) n.js in
      let rest : Read FieldType → Outcome Fields = λ f. next (fields_read below f.names namespace (names_of_fields vs ++ (f.value.name ∷ [])) n.js) (λ x. Ok (record { value = field f.value.name f.value.type x.value; names = x.names })) in
      let step : fields_read below (names_of q) namespace (names_of_fields vs) s.left ≡ next R (λ x. Ok (record { value = field m.f.name m.f.type x.value; names = x.names })) =
      ap (λ l. fields_read below (names_of q) namespace (names_of_fields vs) l) n.is ∙ ap (λ o. next o rest) m.is
      ∙ ap (λ ns. next (fields_read below (names_of r) namespace ns n.js) (λ x. Ok (record { value = field m.f.name m.f.type x.value; names = x.names }))) seen in
      let grew = more_nodes q r (definitions m.f.type) m.grows in
      let old = All-weaker (λ (w : Field). w.node < length q.nodes.items) (λ (w : Field). w.node < length r.nodes.items) (λ w h. omega arith) vs s.inside in
      let far = slice_get_within (types_of r.nodes.items) m.node m.f.type m.stands in
      let size = length-types_of r.nodes.items in
      let P : List Field → Type 0 = λ ws. All (λ w. w.node < length r.nodes.items) ws in
      record {
        left = n.js;
        stand = n.others;
        is = s.is ∙ ap (λ o. in_front (behind_fields F) o) step ∙ in_front_more F m.f R ∙ ap (λ G. in_front (behind_fields G) R) (sym now);
        inside = subst P (sym m.more) (All-push (λ (w : Field). w.node < length r.nodes.items) vs v old (omega arith));
        grows = grows_along p r (field_definitions F ++ definitions m.f.type) (field_definitions (fields_at (types_of r.nodes.items) vs_now))
            (sym (ap field_definitions now ∙ definitions-behind F (field m.f.name m.f.type no_fields) ∙ ap (λ ds. field_definitions F ++ ds) (append-nil (definitions m.f.type))))
            (grows_trans p q r (field_definitions F) (definitions m.f.type) s.grows m.grows);
      }

pub fields_done : (tree : Tree) (below : Reader) (namespace : List ℕ) (js : Items) (p q : Parts) (ks : List ℕ) (vs : List Field) → ks ≡ [] → FieldsSoFar tree below namespace js p q ks vs
    → MakesFields (fields_read below (names_of p) namespace [] js) p q vs
fields_done tree below namespace js p q ks vs e s =
    let F = fields_at (types_of q.nodes.items) vs in
    record {
      is = s.is ∙ ap (λ l. in_front (behind_fields F) (fields_read below (names_of q) namespace (names_of_fields vs) l)) (no_item tree ks s.left e s.stand) ∙ ap (λ x. Ok (record { value = x; names = names_of q })) (behind_none F);
      inside = s.inside;
      grows = s.grows;
    }

-- ---- the member that lists the fields

pub record ListThere (tree : Tree) (o : Option Json) (k : ℕ) : Type 0 where
  pub j : Json
  pub is : o ≡ Some j
  pub stands : Stands tree k j

pub list_there : (tree : Tree) (o : Option Json) (node : Option ℕ) (k : ℕ) → node ≡ Some k → IsMember tree o node → ListThere tree o k
list_there tree None None k e h = absurd cc
list_there tree None (Some n) k e h = absurd h
list_there tree (Some j) None k e h = absurd h
list_there tree (Some j) (Some n) k e h = let same : n ≡ k = cc in let P : ℕ → Type 0 = λ i. Stands tree i j in record { j = j; is = refl; stands = subst P same h }

pub fields_of_list : (below : Reader) (names : List (List ℕ)) (namespace : List ℕ) (o : Option Json) (j : Json) (js : Items) → o ≡ Some j → j ≡ array js → fields_of below names namespace o ≡ fields_read below names namespace [] js
fields_of_list below names namespace o j js is list = ap (λ x. fields_of below names namespace x) (is ∙ ap (λ y. Some y) list)

pub fields_along : (o u : Outcome Fields) (p q : Parts) (vs : List Field) → o ≡ u → MakesFields u p q vs → MakesFields o p q vs
fields_along o u p q vs e m = record { is = e ∙ m.is; inside = m.inside; grows = m.grows }
