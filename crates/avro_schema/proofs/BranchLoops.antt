-- From branches so far to one more, and to all of them.
use Rattle.std.proofs.Common.{◌≡◌, ℕ, ◌+◌, ◌<◌, List, [], ◌∷◌, ◌++◌, length, get_or, drop, Bool, true, false, cond, Ok, Err, inl, inr, refl, sym, ap, ◌∙◌, subst, append_assoc, arith}
use Rattle.std.specs.List.{All}
use Rattle.std.proofs.lemmas.List.{append-nil}
use Rattle.std.proofs.lemmas.List.Elements.{All-nil, All-push, All-weaker}
use Rattle.std.proofs.lemmas.Option.{slice_get_within, get_or_from_slice_get}
use Rattle.json_span.specs.Json.{Json, Items}
use Rattle.json_span.specs.Nodes.{StandForItems}
use Rattle.json_span.specs.declared.tree.Tree.{Tree}
use Rattle.avro_schema.specs.Types.{AvroType, Branches, Defined, null, no_branches, branch, branch_name, definitions, branch_definitions}
use Rattle.avro_schema.specs.Forms.{type_at, branches_at, types_of, names_of_branches}
use Rattle.avro_schema.specs.Reading.{Read, Outcome, Reader, branch_read, branches_read}
use Rattle.avro_names.specs.Outcomes.{next}
use Rattle.avro_names.specs.NameList.{is_among}
use Rattle.avro_schema.specs.Building.{names_of, IsBuilt, Grows, Makes, MakesBranch, BranchesSoFar, behind_branches, in_front}
use Rattle.avro_names.specs.Outcomes.{Why}
use Rattle.avro_schema.specs.declared.parts.Parts.{Parts}
use Rattle.avro_names.specs.declared.error.SchemaNo.{SchemaNo}
use Rattle.avro_names.specs.declared.error.SchemaNo.TheVariants.{BadType}
use Rattle.avro_schema.proofs.Grown.{branches_same, names_same, length-types_of}
use Rattle.avro_schema.proofs.Growth.{grows_refl, grows_trans, grows_along}
use Rattle.avro_names.proofs.ListLemmas.{NextItem, no_item}
use Rattle.avro_names.proofs.Outcomes.{next_ok}
use Rattle.avro_schema.proofs.FieldLoops.{agree_later, more_nodes}

in_front_nothing : (o : Outcome Branches) → o ≡ in_front (behind_branches no_branches) o
in_front_nothing (Ok r) = refl
in_front_nothing (Err e) = refl

behind_one : (bs : Branches) (t : AvroType) (rest : Branches) → behind_branches bs (branch t rest) ≡ behind_branches (behind_branches bs (branch t no_branches)) rest
behind_one no_branches t rest = refl
behind_one (branch u bs) t rest = ap (λ x. branch u x) (behind_one bs t rest)

behind_none : (bs : Branches) → behind_branches bs no_branches ≡ bs
behind_none no_branches = refl
behind_none (branch u bs) = ap (λ x. branch u x) (behind_none bs)

in_front_more : (bs : Branches) (t : AvroType) (o : Outcome Branches)
    → in_front (behind_branches bs) (next o (λ rest. Ok (record { value = branch t rest.value; names = rest.names }))) ≡ in_front (behind_branches (behind_branches bs (branch t no_branches))) o
in_front_more bs t (Ok r) = ap (λ x. Ok (record { value = x; names = r.names })) (behind_one bs t r.value)
in_front_more bs t (Err e) = refl

definitions-behind : (bs cs : Branches) → branch_definitions (behind_branches bs cs) ≡ branch_definitions bs ++ branch_definitions cs
definitions-behind no_branches cs = refl
definitions-behind (branch u bs) cs = ap (λ ds. definitions u ++ ds) (definitions-behind bs cs) ∙ sym (append_assoc (definitions u) (branch_definitions bs) (branch_definitions cs))

branches_at-push : (ts : List AvroType) (ks : List ℕ) (k : ℕ) → branches_at ts (ks ++ (k ∷ [])) ≡ behind_branches (branches_at ts ks) (branch (type_at ts k) no_branches)
branches_at-push ts [] k = refl
branches_at-push ts (c ∷ ks) k = ap (λ x. branch (type_at ts c) x) (branches_at-push ts ks k)

names-push : (ts : List AvroType) (ks : List ℕ) (k : ℕ) → names_of_branches ts (ks ++ (k ∷ [])) ≡ names_of_branches ts ks ++ (branch_name (type_at ts k) ∷ [])
names-push ts [] k = refl
names-push ts (c ∷ ks) k = ap (λ x. branch_name (type_at ts c) ∷ x) (names-push ts ks k)

pub names_later : (p q : Parts) (ds : List Defined) (ks : List ℕ) → Grows p q ds → All (λ k. k < length p.nodes.items) ks → names_of_branches (types_of p.nodes.items) ks ≡ names_of_branches (types_of q.nodes.items) ks
names_later p q ds ks g h = names_same (types_of p.nodes.items) (types_of q.nodes.items) (length p.nodes.items) ks (agree_later p q ds g) h

pub branches_first : (tree : Tree) (below : Reader) (namespace : List ℕ) (js : Items) (p : Parts) (ks : List ℕ) → StandForItems tree ks js → IsBuilt p → BranchesSoFar tree below namespace js p p ks []
branches_first tree below namespace js p ks h b =
    record { left = js; stand = h; is = in_front_nothing (branches_read below (names_of p) namespace [] js); inside = All-nil (λ k. k < length p.nodes.items); grows = grows_refl p b }

module _ (tree : Tree) (below : Reader) (namespace : List ℕ) (js : Items) (p q : Parts) (xs : List ℕ) (i : ℕ) (ks : List ℕ) where
  pub branches_refused : (e : SchemaNo) → (s : BranchesSoFar tree below namespace js p q (drop i xs) ks) → (n : NextItem tree (get_or xs i 0) (drop (i + 1) xs) s.left)
      → Why (branch_read below (names_of q) namespace (names_of_branches (types_of q.nodes.items) ks) n.j) e → Why (branches_read below (names_of p) namespace [] js) e
  branches_refused e s n w =
      let seen = names_of_branches (types_of q.nodes.items) ks in
      let rest : Read AvroType → Outcome Branches = λ t. next (branches_read below t.names namespace (seen ++ (branch_name t.value ∷ [])) n.js) (λ r. Ok (record { value = branch t.value r.value; names = r.names })) in
      let F : Branches → Branches = behind_branches (branches_at (types_of q.nodes.items) ks) in
      let left = ap (λ l. in_front F (branches_read below (names_of q) namespace seen l)) n.is in
      elim w as (λ x. Why (branches_read below (names_of p) namespace [] js) e) [ inl is ↦ inl (s.is ∙ left ∙ ap (λ o. in_front F (next o rest)) is) | inr want ↦ inr want ]

  pub branches_more : (r : Parts) (ks_now : List ℕ) → (s : BranchesSoFar tree below namespace js p q (drop i xs) ks) → (n : NextItem tree (get_or xs i 0) (drop (i + 1) xs) s.left)
      → MakesBranch (branch_read below (names_of q) namespace (names_of_branches (types_of q.nodes.items) ks) n.j) q r ks ks_now → BranchesSoFar tree below namespace js p r (drop (i + 1) xs) ks_now
  branches_more r ks_now s n m =
      let t = m.makes.t in
      let seen = names_of_branches (types_of q.nodes.items) ks in
      let F = branches_at (types_of q.nodes.items) ks in
      let same : F ≡ branches_at (types_of r.nodes.items) ks = branches_same (types_of q.nodes.items) (types_of r.nodes.items) (length q.nodes.items) ks (agree_later q r (definitions t) m.makes.grows) s.inside in
      let here : type_at (types_of r.nodes.items) m.node ≡ t = get_or_from_slice_get (types_of r.nodes.items) m.node t null m.makes.stands in
      let now : branches_at (types_of r.nodes.items) ks_now ≡ behind_branches F (branch t no_branches) =
      ap (λ x. branches_at (types_of r.nodes.items) x) m.more ∙ branches_at-push (types_of r.nodes.items) ks m.node
      ∙ ap (λ u. behind_branches (branches_at (types_of r.nodes.items) ks) (branch u no_branches)) here ∙ ap (λ x. behind_branches x (branch t no_branches)) (sym same) in
      let seen_now : seen ++ (branch_name t ∷ []) ≡ names_of_branches (types_of r.nodes.items) ks_now =
      ap (λ x. x ++ (branch_name t ∷ [])) (names_later q r (definitions t) ks m.makes.grows s.inside)
      ∙ ap (λ u. names_of_branches (types_of r.nodes.items) ks ++ (branch_name u ∷ [])) (sym here)
      ∙ sym (ap (λ x. names_of_branches (types_of r.nodes.items) x) m.more ∙ names-push (types_of r.nodes.items) ks m.node) in
      let R = branches_read below (names_of r) namespace (names_of_branches (types_of r.nodes.items) ks_now) n.js in
      let rest : Read AvroType → Outcome Branches = λ u. next (branches_read below u.names namespace (seen ++ (branch_name u.value ∷ [])) n.js) (λ x. Ok (record { value = branch u.value x.value; names = x.names })) in
      let step : branches_read below (names_of q) namespace seen s.left ≡ next R (λ x. Ok (record { value = branch t x.value; names = x.names })) =
      ap (λ l. branches_read below (names_of q) namespace seen l) n.is ∙ ap (λ o. next o rest) m.makes.is
      ∙ ap (λ ns. next (branches_read below (names_of r) namespace ns n.js) (λ x. Ok (record { value = branch t x.value; names = x.names }))) seen_now in
      let grew = more_nodes q r (definitions t) m.makes.grows in
      let old = All-weaker (λ k. k < length q.nodes.items) (λ k. k < length r.nodes.items) (λ k h. omega arith) ks s.inside in
      let far = slice_get_within (types_of r.nodes.items) m.node t m.makes.stands in
      let size = length-types_of r.nodes.items in
      let P : List ℕ → Type 0 = λ cs. All (λ k. k < length r.nodes.items) cs in
      record {
        left = n.js;
        stand = n.others;
        is = s.is ∙ ap (λ o. in_front (behind_branches F) o) step ∙ in_front_more F t R ∙ ap (λ G. in_front (behind_branches G) R) (sym now);
        inside = subst P (sym m.more) (All-push (λ k. k < length r.nodes.items) ks m.node old (omega arith));
        grows = grows_along p r (branch_definitions F ++ definitions t) (branch_definitions (branches_at (types_of r.nodes.items) ks_now))
            (sym (ap branch_definitions now ∙ definitions-behind F (branch t no_branches) ∙ ap (λ ds. branch_definitions F ++ ds) (append-nil (definitions t))))
            (grows_trans p q r (branch_definitions F) (definitions t) s.grows m.makes.grows);
      }

pub branches_done : (tree : Tree) (below : Reader) (namespace : List ℕ) (js : Items) (p q : Parts) (ks : List ℕ) (cs : List ℕ) → ks ≡ [] → BranchesSoFar tree below namespace js p q ks cs
    → branches_read below (names_of p) namespace [] js ≡ Ok (record { value = branches_at (types_of q.nodes.items) cs; names = names_of q })
branches_done tree below namespace js p q ks cs e s =
    let F = branches_at (types_of q.nodes.items) cs in
    s.is ∙ ap (λ l. in_front (behind_branches F) (branches_read below (names_of q) namespace (names_of_branches (types_of q.nodes.items) cs) l)) (no_item tree ks s.left e s.stand) ∙ ap (λ x. Ok (record { value = x; names = names_of q })) (behind_none F)

-- ---- one branch

module _ (below : Reader) (namespace : List ℕ) (j : Json) (p q : Parts) (ks : List ℕ) (k : ℕ) (names : List (List ℕ)) (m : Makes (below true (names_of p) namespace j) p q k) (are : names ≡ names_of_branches (types_of p.nodes.items) ks) where
  chosen : Bool → Outcome AvroType
  chosen b = cond b (Err BadType) (Ok (record { value = m.t; names = names_of q }))

  read_is : (b : Bool) → is_among (branch_name (type_at (types_of q.nodes.items) k)) names ≡ b → branch_read below (names_of p) namespace (names_of_branches (types_of p.nodes.items) ks) j ≡ chosen b
  unfolding chosen
  read_is b test =
      let here : type_at (types_of q.nodes.items) k ≡ m.t = get_or_from_slice_get (types_of q.nodes.items) k m.t null m.stands in
      let among : is_among (branch_name m.t) (names_of_branches (types_of p.nodes.items) ks) ≡ b =
      ap (is_among (branch_name m.t)) (sym are) ∙ ap (λ t. is_among (branch_name t) names) (sym here) ∙ test in
      next_ok (below true (names_of p) namespace j) (record { value = m.t; names = names_of q }) (λ t. cond (is_among (branch_name t.value) (names_of_branches (types_of p.nodes.items) ks)) (Err BadType) (Ok t)) m.is ∙ ap chosen among

  pub branch_repeated : is_among (branch_name (type_at (types_of q.nodes.items) k)) names ≡ true → Why (branch_read below (names_of p) namespace (names_of_branches (types_of p.nodes.items) ks) j) BadType
  unfolding chosen
  branch_repeated test = inl (read_is true test)

  pub branch_made : (ks_now : List ℕ) → is_among (branch_name (type_at (types_of q.nodes.items) k)) names ≡ false → ks_now ≡ ks ++ (k ∷ []) → MakesBranch (branch_read below (names_of p) namespace (names_of_branches (types_of p.nodes.items) ks) j) p q ks ks_now
  unfolding chosen
  branch_made ks_now test more = record { node = k; more = more; makes = record { t = m.t; is = read_is false test; stands = m.stands; grows = m.grows } }

  pub branch_named : (ks_now : List ℕ) (names_now : List (List ℕ)) → All (λ c. c < length p.nodes.items) ks → names_now ≡ names ++ branch_name (type_at (types_of q.nodes.items) k) ∷ [] → ks_now ≡ ks ++ (k ∷ [])
      → names_now ≡ names_of_branches (types_of q.nodes.items) ks_now
  branch_named ks_now names_now inside is more =
      is ∙ ap (λ ns. ns ++ branch_name (type_at (types_of q.nodes.items) k) ∷ []) (are ∙ names_later p q (definitions m.t) ks m.grows inside) ∙ sym (ap (names_of_branches (types_of q.nodes.items)) more ∙ names-push (types_of q.nodes.items) ks k)

pub made_inside : (o : Outcome AvroType) (p q : Parts) (k : ℕ) → Makes o p q k → k < length q.nodes.items
made_inside o p q k m = let far = slice_get_within (types_of q.nodes.items) k m.t m.stands in let size = length-types_of q.nodes.items in omega arith

pub later_inside : (p q : Parts) (ds : List Defined) (ks : List ℕ) → Grows p q ds → All (λ k. k < length p.nodes.items) ks → All (λ k. k < length q.nodes.items) ks
later_inside p q ds ks g h = let grew = more_nodes p q ds g in All-weaker (λ k. k < length p.nodes.items) (λ k. k < length q.nodes.items) (λ k i. omega arith) ks h
