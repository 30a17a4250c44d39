-- From the items of an array to the next of them, and from symbols so far to one more.
use Rattle.std.proofs.Common.{◌≡◌, ℕ, ◌+◌, ◌<◌, List, [], ◌∷◌, ◌++◌, length, get_or, drop, Some, Ok, inl, inr, refl, sym, ap, ◌∙◌, subst, append_assoc, add-one}
use Rattle.std.proofs.Math.Seq.{drop-cons}
use Rattle.std.proofs.lemmas.List.{append-nil}
use Rattle.json_span.specs.Json.{Json, Items, no_items, item}
use Rattle.json_span.specs.Nodes.{Stands, StandForItems}
use Rattle.json_span.specs.declared.tree.Tree.{Tree}
use Rattle.avro_names.specs.Outcomes.{next, Why}
use Rattle.avro_names.specs.MemberNames.{part_name, symbols_read, SymbolsSoFar}
use Rattle.avro_names.specs.declared.error.SchemaNo.{SchemaNo}
use Rattle.avro_names.proofs.Outcomes.{next_ok}

-- the first of these items and its node
pub record NextItem (tree : Tree) (k : ℕ) (rest : List ℕ) (left : Items) : Type 0 where
  pub j : Json
  pub js : Items
  pub is : left ≡ item j js
  pub stands : Stands tree k j
  pub others : StandForItems tree rest js

next_item : (tree : Tree) (k : ℕ) (rest : List ℕ) (left : Items) → StandForItems tree (k ∷ rest) left → NextItem tree k rest left
next_item tree k rest no_items h = absurd cc
next_item tree k rest (item j js) h =
    let first : h.0 ≡ k = cc (h.2) in
    let more : h.1 ≡ rest = cc (h.2) in
    let P : ℕ → Type 0 = λ n. Stands tree n j in
    let Q : List ℕ → Type 0 = λ ks. StandForItems tree ks js in
    record { j = j; js = js; is = refl; stands = subst P first h.3; others = subst Q more h.4 }

pub next_item_at : (tree : Tree) (xs : List ℕ) (i : ℕ) (left : Items) → i < length xs → StandForItems tree (drop i xs) left → NextItem tree (get_or xs i 0) (drop (i + 1) xs) left
next_item_at tree xs i left lt h =
    let split : drop i xs ≡ get_or xs i 0 ∷ drop (i + 1) xs = drop-cons xs i 0 lt ∙ ap (λ n. get_or xs i 0 ∷ drop n xs) (sym (add-one i)) in
    let P : List ℕ → Type 0 = λ ks. StandForItems tree ks left in
    next_item tree (get_or xs i 0) (drop (i + 1) xs) left (subst P split h)

pub no_item : (tree : Tree) (ks : List ℕ) (left : Items) → ks ≡ [] → StandForItems tree ks left → left ≡ no_items
no_item tree ks no_items e h = refl
no_item tree ks (item j js) e h = absurd (cc (h.2))

-- ---- symbols

pub symbols_first : (tree : Tree) (js : Items) (ks : List ℕ) → StandForItems tree ks js → SymbolsSoFar tree js ks []
symbols_first tree js ks h = record { left = js; stand = h; ok = λ ss e. e; err = λ e is. is }

pub symbols_refused : (tree : Tree) (js : Items) (xs : List ℕ) (i : ℕ) (seen : List (List ℕ)) (e : SchemaNo) → (s : SymbolsSoFar tree js (drop i xs) seen) → (n : NextItem tree (get_or xs i 0) (drop (i + 1) xs) s.left)
    → Why (part_name seen (Some n.j)) e → Why (symbols_read [] js) e
symbols_refused tree js xs i seen e s n (inl w) = inl (s.err e (ap (λ l. symbols_read seen l) n.is ∙ ap (λ q. next q (λ name. next (symbols_read (seen ++ (name ∷ [])) n.js) (λ rest. Ok (name ∷ rest)))) w))
symbols_refused tree js xs i seen e s n (inr w) = inr w

pub symbols_more : (tree : Tree) (js : Items) (xs : List ℕ) (i : ℕ) (seen : List (List ℕ)) (name : List ℕ) → (s : SymbolsSoFar tree js (drop i xs) seen) → (n : NextItem tree (get_or xs i 0) (drop (i + 1) xs) s.left)
    → part_name seen (Some n.j) ≡ Ok name → SymbolsSoFar tree js (drop (i + 1) xs) (seen ++ (name ∷ []))
symbols_more tree js xs i seen name s n is =
    let step : symbols_read seen s.left ≡ next (symbols_read (seen ++ (name ∷ [])) n.js) (λ rest. Ok (name ∷ rest)) =
    ap (λ l. symbols_read seen l) n.is ∙ next_ok (part_name seen (Some n.j)) name (λ m. next (symbols_read (seen ++ (m ∷ [])) n.js) (λ rest. Ok (m ∷ rest))) is in
    record {
      left = n.js;
      stand = n.others;
      ok = λ ss h. s.ok (name ∷ ss) (step ∙ ap (λ q. next q (λ rest. Ok (name ∷ rest))) h) ∙ ap (λ all. Ok all) (sym (append_assoc seen (name ∷ []) ss));
      err = λ e h. s.err e (step ∙ ap (λ q. next q (λ rest. Ok (name ∷ rest))) h);
    }

pub symbols_last : (tree : Tree) (js : Items) (ks : List ℕ) (seen : List (List ℕ)) → ks ≡ [] → SymbolsSoFar tree js ks seen → symbols_read [] js ≡ Ok seen
symbols_last tree js ks seen e s = s.ok [] (ap (λ l. symbols_read seen l) (no_item tree ks s.left e s.stand)) ∙ ap (λ all. Ok all) (append-nil seen)
