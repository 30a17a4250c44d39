-- From a set of the keys so far to whether the keys of a map differ.
use Rattle.std.proofs.Common.{◌≡◌, ℕ, List, [], ◌∷◌, ◌++◌, Bool, true, false, ◌&&◌, not, cond, map, refl, sym, ap, ◌∙◌, append_assoc, Bor}
use Rattle.std.proofs.lemmas.List.{append-nil}
use Rattle.std.proofs.lemmas.Map.Text.{is_eq-slice_cmp}
use Rattle.std.specs.Str.{bytes_eq}
use Rattle.std.specs.BTreeSet.{BTreeSet, contains, Updates, IsEmpty}
use Rattle.avro_datum.specs.declared.datum.MapItem.{MapItem}
use Rattle.avro_datum.specs.Data.{item_of}
use Rattle.avro_value.specs.Value.{entries_of}
use Rattle.avro_value.specs.Encoding.{is_among, differ}
use Rattle.avro_datum.specs.Shown.{keys_of}
use Rattle.avro_value.proofs.PartLemmas.{among_last, differ_last, differ_front, str_cmp}

-- the keys of entries
abbrev pub names : List MapItem → List (List ℕ)
names es = keys_of (entries_of (map item_of es))

-- the set has the keys of the entries before those left, and these differ
pub record KeysSeen (keys : BTreeSet (Bor (List ℕ))) (all left : List MapItem) : Type 0 where
  pub front : List (List ℕ)
  pub splits : names all ≡ front ++ names left
  pub seen : (q : Bor (List ℕ)) → contains str_cmp keys q ≡ is_among q.now front
  pub apart : differ front ≡ true

-- a name that is there makes them not differ
differ_twice : (key : List ℕ) (ns more : List (List ℕ)) → is_among key ns ≡ true → differ (ns ++ key ∷ more) ≡ false
differ_twice key ns more found =
    let here : differ (ns ++ key ∷ []) ≡ false = differ_last ns key ∙ ap (λ (b : Bool). differ ns && not b) found ∙ none (differ ns) in
    ap differ (sym (append_assoc ns (key ∷ []) more)) ∙ differ_front (ns ++ key ∷ []) more here
  where
    none : (b : Bool) → (b && false) ≡ false
    none true = refl
    none false = refl

pub keys_begin : (keys : BTreeSet (Bor (List ℕ))) (all : List MapItem) → IsEmpty keys → KeysSeen keys all all
keys_begin keys all empty = record { front = []; splits = refl; seen = λ q. rw empty refl; apart = refl }

-- the first of those left is named key
next_key : (keys : BTreeSet (Bor (List ℕ))) (all left more : List MapItem) (x : MapItem) (key : List ℕ) → (so_far : KeysSeen keys all left) → left ≡ x ∷ more → key ≡ (item_of x).key
    → names all ≡ so_far.front ++ key ∷ names more
next_key keys all left more x key so_far is named = so_far.splits ∙ ap (λ (l : List MapItem). so_far.front ++ names l) is ∙ ap (λ (k : List ℕ). so_far.front ++ k ∷ names more) (sym named)

pub keys_more : (old new : BTreeSet (Bor (List ℕ))) (all left more : List MapItem) (x : MapItem) (key : Bor (List ℕ))
    → KeysSeen old all left → left ≡ x ∷ more → key.now ≡ (item_of x).key → Updates str_cmp old new key true → contains str_cmp old key ≡ false → KeysSeen new all more
keys_more old new all left more x key so_far is named updates fresh = record {
  front = so_far.front ++ key.now ∷ [];
  splits = next_key old all left more x key.now so_far is named ∙ sym (append_assoc so_far.front (key.now ∷ []) (names more));
  seen = λ q.
      updates.0 q ∙ ap (λ (b : Bool). cond b true (contains str_cmp old q)) (is_eq-slice_cmp key.now q.now)
      ∙ ap (λ (b : Bool). cond (bytes_eq key.now q.now) true b) (so_far.seen q) ∙ sym (among_last q.now key.now so_far.front);
  apart = differ_last so_far.front key.now ∙ rw (so_far.apart, sym (so_far.seen key) ∙ fresh) refl;
}

pub keys_twice : (old : BTreeSet (Bor (List ℕ))) (all left more : List MapItem) (x : MapItem) (key : Bor (List ℕ))
    → KeysSeen old all left → left ≡ x ∷ more → key.now ≡ (item_of x).key → contains str_cmp old key ≡ true → differ (names all) ≡ false
keys_twice old all left more x key so_far is named there =
    ap differ (next_key old all left more x key.now so_far is named) ∙ differ_twice key.now so_far.front (names more) (sym (so_far.seen key) ∙ there)

pub keys_end : (keys : BTreeSet (Bor (List ℕ))) (all left : List MapItem) → KeysSeen keys all left → left ≡ [] → differ (names all) ≡ true
keys_end keys all left so_far is = ap differ (so_far.splits ∙ ap (λ (l : List MapItem). so_far.front ++ names l) is ∙ append-nil so_far.front) ∙ so_far.apart
