-- From the nodes as they are kept to the nodes that they stand for.
use Rattle.std.proofs.Common.{◌≡◌, ℕ, zero, suc, ◌+◌, ◌<◌, List, [], ◌∷◌, ◌++◌, length, get_or, Some, refl, sym, ap, ◌∙◌, subst, arith}
use Rattle.std.specs.List.{slice_get}
use Rattle.std.proofs.lemmas.List.{length-append}
use Rattle.json_span.specs.NodeList.{IsKept, AreKept, form_in, node_in, nodes_in, Grows, kind_kept, kind_of_form}
use Rattle.json_span.specs.Tree.{items_of, members_of}
use Rattle.json_span.specs.declared.beside.Beside.{Beside}
use Rattle.json_span.specs.declared.small.Small.{Small}
use Rattle.json_span.specs.declared.small.Kept.{Kept}
use Rattle.json_span.specs.declared.small.Kept.TheVariants.{Null as KeptNull, Bool as KeptFlag, Number as KeptNumber, Plain as KeptPlain, Escaped as KeptText, NoItems, Array as KeptItems, NoMembers, Object as KeptMembers}
use Rattle.json_span.specs.declared.tree.Node.{Node}
use Rattle.json_span.specs.declared.tree.Member.{Member}
use Rattle.json_span.specs.declared.tree.Form.{Form}
use Rattle.json_span.specs.declared.tree.Form.TheVariants.{Escaped, Array, Object}

pub nodes_length : (b : Beside) (ss : List Small) → length (nodes_in b ss) ≡ length ss
nodes_length b [] = refl
nodes_length b (s ∷ ss) = ap suc (nodes_length b ss)

pub kept_grown : (b c : Beside) (ss : List Small) → Grows b c → AreKept b ss → AreKept c ss
kept_grown b c [] g h = tt
kept_grown b c (s ∷ ss) g h = (g.fits s.kept h.0, kept_grown b c ss g h.1)

node_grown : (b c : Beside) (s : Small) → Grows b c → IsKept b s.kept → node_in c s ≡ node_in b s
node_grown b c s g h = let N : Form → Node = λ f. record { start = s.start; end = s.end; form = f } in ap N (g.same s.kept h)

pub nodes_grown : (b c : Beside) (ss : List Small) → Grows b c → AreKept b ss → nodes_in c ss ≡ nodes_in b ss
nodes_grown b c [] g h = refl
nodes_grown b c (s ∷ ss) g h = λ i. node_grown b c s g h.0 i ∷ nodes_grown b c ss g h.1 i

pub kept_behind : (b : Beside) (ss : List Small) (s : Small) → AreKept b ss → IsKept b s.kept → AreKept b (ss ++ (s ∷ []))
kept_behind b [] s h k = (k, tt)
kept_behind b (x ∷ ss) s h k = (h.0, kept_behind b ss s h.1 k)

pub nodes_behind : (b : Beside) (ss : List Small) (s : Small) → nodes_in b (ss ++ (s ∷ [])) ≡ nodes_in b ss ++ (node_in b s ∷ [])
nodes_behind b [] s = refl
nodes_behind b (x ∷ ss) s = ap (λ ns. node_in b x ∷ ns) (nodes_behind b ss s)

-- the node at a place is that of what is kept there
pub node_at : (b : Beside) (ss : List Small) (k : ℕ) (s : Small) (x : Node) → s ≡ get_or ss k s → slice_get (nodes_in b ss) k ≡ Some x → x ≡ node_in b s
node_at b [] k s x e h = absurd cc
node_at b (y ∷ ss) zero s x e h = let same : node_in b y ≡ x = cc in sym same ∙ ap (node_in b) (sym e)
node_at b (y ∷ ss) (suc k) s x e h = node_at b ss k s x e h

pub kept_at : (b : Beside) (ss : List Small) (k : ℕ) (s : Small) → AreKept b ss → k < length ss → s ≡ get_or ss k s → IsKept b s.kept
kept_at b [] k s h l e = absurd (omega arith)
kept_at b (y ∷ ss) zero s h l e = let P : Small → Type 0 = λ z. IsKept b z.kept in subst P (sym e) h.0
kept_at b (y ∷ ss) (suc k) s h l e = kept_at b ss k s h.1 (omega arith) e

-- ---- a part more

get_grown : {A : Type 0} (xs ys : List A) (x d : A) (k : ℕ) → ys ≡ xs ++ (x ∷ []) → k < length xs → get_or ys k d ≡ get_or xs k d
get_grown {A = A} xs ys x d k e l = ap (λ zs. get_or zs k d) e ∙ before xs k l
  where
    before : (xs : List A) (k : ℕ) → k < length xs → get_or (xs ++ (x ∷ [])) k d ≡ get_or xs k d
    before [] k l = absurd (omega arith)
    before (z ∷ xs) zero l = refl
    before (z ∷ xs) (suc k) l = before xs k (omega arith)

pub last_of : {A : Type 0} (xs ys : List A) (x d : A) (k : ℕ) → ys ≡ xs ++ (x ∷ []) → k ≡ length xs → get_or ys k d ≡ x
last_of {A = A} xs ys x d k e l = (λ i. get_or (e i) (l i) d) ∙ last xs
  where
    last : (xs : List A) → get_or (xs ++ (x ∷ [])) (length xs) d ≡ x
    last [] = refl
    last (z ∷ xs) = last xs

pub longer : {A : Type 0} (xs ys : List A) (x : A) → ys ≡ xs ++ (x ∷ []) → length ys ≡ length xs + 1
longer xs ys x e = ap length e ∙ length-append xs (x ∷ [])

pub as_it_was : (b : Beside) → Grows b b
as_it_was b = record { fits = λ k h. h; same = λ k h. refl }

-- what a list had it still has
pub record Extends {A : Type 0} (xs ys : List A) (d : A) : Type 0 where
  pub place : (k : ℕ) → k < length xs → k < length ys
  pub part : (k : ℕ) → k < length xs → get_or ys k d ≡ get_or xs k d

-- each list is as it was, or has a part more
pub grows_by : (b c : Beside) → Extends b.texts.items c.texts.items [] → Extends b.arrays.items c.arrays.items [] → Extends b.objects.items c.objects.items [] → Grows b c
grows_by b c t a o = record { fits = fits; same = same }
  where
    fits : (k : Kept) → IsKept b k → IsKept c k
    fits KeptNull h = tt
    fits (KeptFlag v) h = tt
    fits KeptNumber h = tt
    fits KeptPlain h = tt
    fits (KeptText k) h = t.place k h
    fits NoItems h = tt
    fits (KeptItems k) h = a.place k h
    fits NoMembers h = tt
    fits (KeptMembers k) h = o.place k h

    same : (k : Kept) → IsKept b k → form_in c k ≡ form_in b k
    same KeptNull h = refl
    same (KeptFlag v) h = refl
    same KeptNumber h = refl
    same KeptPlain h = refl
    same (KeptText k) h = ap (λ x. Escaped x) (t.part k h)
    same NoItems h = refl
    same (KeptItems k) h = ap (λ x. Array x) (a.part k h)
    same NoMembers h = refl
    same (KeptMembers k) h = ap (λ x. Object x) (o.part k h)

pub stays : {A : Type 0} (xs ys : List A) (d : A) → ys ≡ xs → Extends xs ys d
stays xs ys d e = record { place = λ k l. (let n = ap length e in omega arith); part = λ k l. ap (λ zs. get_or zs k d) e }

pub put_behind : {A : Type 0} (xs ys : List A) (x d : A) → ys ≡ xs ++ (x ∷ []) → Extends xs ys d
put_behind xs ys x d e = record { place = λ k l. (let n = longer xs ys x e in omega arith); part = λ k l. get_grown xs ys x d k e l }

-- ---- a node more

pub node_pushed : (b c : Beside) (ss ts : List Small) (s : Small) (n : Node) → Grows b c → AreKept b ss → ts ≡ ss ++ (s ∷ []) → s.start ≡ n.start → s.end ≡ n.end → form_in c s.kept ≡ n.form → nodes_in c ts ≡ nodes_in b ss ++ (n ∷ [])
node_pushed b c ss ts s n g h e a z f =
    let N : ℕ → ℕ → Form → Node = λ x y m. record { start = x; end = y; form = m } in
    let same : node_in c s ≡ n = λ i. N (a i) (z i) (f i) in
    ap (nodes_in c) e ∙ (nodes_behind c ss s ∙ (λ i. nodes_grown b c ss g h i ++ (same i ∷ [])))

pub kept_pushed : (b c : Beside) (ss ts : List Small) (s : Small) → Grows b c → AreKept b ss → IsKept c s.kept → ts ≡ ss ++ (s ∷ []) → AreKept c ts
kept_pushed b c ss ts s g h k e = let P : List Small → Type 0 = λ x. AreKept c x in subst P (sym e) (kept_behind c ss s (kept_grown b c ss g h) k)

-- ---- what is kept of a node

pub kind_as_kept : (b : Beside) (k : Kept) → kind_kept k ≡ kind_of_form (form_in b k)
kind_as_kept b KeptNull = refl
kind_as_kept b (KeptFlag v) = refl
kind_as_kept b KeptNumber = refl
kind_as_kept b KeptPlain = refl
kind_as_kept b (KeptText p) = refl
kind_as_kept b NoItems = refl
kind_as_kept b (KeptItems p) = refl
kind_as_kept b NoMembers = refl
kind_as_kept b (KeptMembers p) = refl

-- the part at a place, whatever else would be read behind the end
pub kept_part : {A : Type 0} (xs : List A) (k : ℕ) (x d : A) → k < length xs → x ≡ get_or xs k x → get_or xs k d ≡ x
kept_part [] k x d l e = absurd (omega arith)
kept_part (y ∷ xs) zero x d l e = sym e
kept_part (y ∷ xs) (suc k) x d l e = kept_part xs k x d (omega arith) e

pub no_items : (b : Beside) (k : Kept) → ((p : ℕ) → k ≡ KeptItems p → ⊥) → (ks : List ℕ) → items_of (form_in b k) ≡ Some ks → ks ≡ []
no_items b KeptNull n ks e = absurd cc
no_items b (KeptFlag v) n ks e = absurd cc
no_items b KeptNumber n ks e = absurd cc
no_items b KeptPlain n ks e = absurd cc
no_items b (KeptText p) n ks e = absurd cc
no_items b NoItems n ks e = cc
no_items b (KeptItems p) n ks e = absurd (n p refl)
no_items b NoMembers n ks e = absurd cc
no_items b (KeptMembers p) n ks e = absurd cc

pub no_members : (b : Beside) (k : Kept) → ((p : ℕ) → k ≡ KeptMembers p → ⊥) → (vs : List Member) → members_of (form_in b k) ≡ Some vs → vs ≡ []
no_members b KeptNull n vs e = absurd cc
no_members b (KeptFlag v) n vs e = absurd cc
no_members b KeptNumber n vs e = absurd cc
no_members b KeptPlain n vs e = absurd cc
no_members b (KeptText p) n vs e = absurd cc
no_members b NoItems n vs e = absurd cc
no_members b (KeptItems p) n vs e = absurd cc
no_members b NoMembers n vs e = cc
no_members b (KeptMembers p) n vs e = absurd (n p refl)

pub no_text : (b : Beside) (k : Kept) → ((p : ℕ) → k ≡ KeptText p → ⊥) → (t : List ℕ) → form_in b k ≡ Escaped t → ⊥
no_text b KeptNull n t e = absurd cc
no_text b (KeptFlag v) n t e = absurd cc
no_text b KeptNumber n t e = absurd cc
no_text b KeptPlain n t e = absurd cc
no_text b (KeptText p) n t e = n p refl
no_text b NoItems n t e = absurd cc
no_text b (KeptItems p) n t e = absurd cc
no_text b NoMembers n t e = absurd cc
no_text b (KeptMembers p) n t e = absurd cc

pub some_is : {A : Type 0} (x y : A) → Some x ≡ Some y → x ≡ y
some_is x y e = cc
