-- The rule of the turns: what holds of a cell between any two steps, and what is known of a seat between its calls.
use Rattle.std.specs.Prelude.{◌≡◌, ℕ, ◌+◌, ◌*◌, ◌<◌, ◌≤◌, ◌^◌, List, [], ◌∷◌, length, true, false, Option, Some, None, slice_index_or}
use mathlib.Core.Option.{none, some}
use lib.ListN.{get_elem?}
use Rattle.atomic_table.specs.Table.{State}
use Rattle.turn_cell.specs.declared.rule.Kept.{Kept}
use Rattle.turn_cell.specs.declared.rule.View.{View}
pub use Rattle.turn_cell.specs.Views.{IsPrefixOf, turns_of_a_pass, Seated, entries_by, In, AreDistinct, total, own, longer, newcomer, spent, cut_from, cut, records, numbers, merged, Entered, numbered, drew, looked, tried, passed}

module _ {S E : Type 0} where
  -- What holds of one view: what it saw begins the history; in a turn it has seen it whole and its ticket is served; a ticket lies between `serving` and `next`
  -- and is had with a number; each number that it has or took over was made, and stands beside all entries of that number; what looks and tries found was not above the words;
  -- its numbers differ; and it has the cell's root
  pub record Fits (caller : E → ℕ) (log : List E) (first_root : S) (all_passes next serving made : ℕ) (v : View S E) : Type 0 where
    pub prefix : IsPrefixOf v.seen log
    pub turn : v.in_turn ≡ true → (v.seen ≡ log) × (v.ticket ≡ Some serving)
    pub drawn : (t : ℕ) → v.ticket ≡ Some t → (serving ≤ t) × (t < next) × (0 < v.parts) × ((n : ℕ) × (v.number ≡ Some n))
    pub known : (n : ℕ) (l : List E) → In (records v) (n, l) → (n < made) × (0 < v.parts) × IsPrefixOf l v.seen × (entries_by caller n log ≡ entries_by caller n l)
    pub distinct : AreDistinct (numbers v)
    pub low : v.looked ≤ serving
    pub low_try : v.tried ≤ next
    pub rooted : (r : S) → v.root ≡ Some r → (r ≡ first_root) × (v.passes ≡ all_passes)

  -- What holds between any two steps, of one history, `log`. The words are `next`, `serving`, which is its length, and `made`, the count of numbers given.
  -- Tickets are the numbers from `serving` to `next`, each in one view; no two views share a number; each entry names a number that some view has or took over.
  -- While nobody is in a turn the slot is at home, and its value stands for the history; else it is out; no other slot is ever used. What is left to draw keeps `next` below 2 ^ 63, and at most the turns of all passes.
  pub record Rule (stands : S → List E → Type 0) (caller : E → ℕ) (same : S → S → Type 0) (first_root : S) (all_passes : ℕ) (s : State (Option (Kept S E)) (View S E)) : Type 0 where
    pub log : List E
    pub wide : 3 ≤ length s.words
    pub serving : slice_index_or s.words 1 0 ≡ length log
    pub order : slice_index_or s.words 1 0 ≤ slice_index_or s.words 0 0
    pub made : slice_index_or s.words 2 0 ≤ all_passes
    pub room : slice_index_or s.words 0 0 + total (λ (v : View S E). v.left) s.views < 2 ^ 63
    pub bound : slice_index_or s.words 0 0 + total (λ (v : View S E). v.left) s.views ≤ all_passes * turns_of_a_pass
    pub parts : total (λ (v : View S E). v.parts) s.views ≡ all_passes
    pub fits : (j : ℕ) (v : View S E) → get_elem? s.views j ≡ some v → Fits caller log first_root all_passes (slice_index_or s.words 0 0) (slice_index_or s.words 1 0) (slice_index_or s.words 2 0) v
    pub tickets : (i j t : ℕ) (v w : View S E) → get_elem? s.views i ≡ some v → get_elem? s.views j ≡ some w → v.ticket ≡ Some t → w.ticket ≡ Some t → i ≡ j
    pub all_drawn : (t : ℕ) → slice_index_or s.words 1 0 ≤ t → t < slice_index_or s.words 0 0 → (j : ℕ) × (v : View S E) × (get_elem? s.views j ≡ some v) × (v.ticket ≡ Some t)
    pub apart : (i j n : ℕ) (v w : View S E) → get_elem? s.views i ≡ some v → get_elem? s.views j ≡ some w → In (numbers v) n → In (numbers w) n → i ≡ j
    pub callers : (e : E) → In log e → (j : ℕ) × (v : View S E) × (get_elem? s.views j ≡ some v) × In (numbers v) (caller e)
    pub home : ((j : ℕ) (v : View S E) → get_elem? s.views j ≡ some v → v.in_turn ≡ false) → (k : Kept S E) × (get_elem? s.homes 0 ≡ some (some (Some k))) × stands k.value log × same first_root k.value
    pub away : (j : ℕ) (v : View S E) → get_elem? s.views j ≡ some v → v.in_turn ≡ true → get_elem? s.homes 0 ≡ some none
    pub spare : (k : ℕ) → 0 < k → k < length s.homes → get_elem? s.homes k ≡ some (some None)

  -- the same seat but for what its looks found
  abbrev pub IsSameButLooks : Seated S E → Seated S E → Type 0
  IsSameButLooks before after = after ≡ (record before.0 { looks = after.0.looks; looked = after.0.looked }, before.1)

  -- a seat whose turn began, but for its counts: the slot is out with it, and its value stands for all that was seen
  pub record IsEntered (stands : S → List E → Type 0) (caller : E → ℕ) (same : S → S → Type 0) (before after : Seated S E) : Type 0 where
    pub kept : Kept S E
    pub held : after.1 ≡ (0, Some kept) ∷ []
    pub in_turn : after.0.in_turn ≡ true
    pub number : after.0.number ≡ before.0.number
    pub left : after.0.left ≡ before.0.left
    pub taken : after.0.taken ≡ before.0.taken
    pub parts : after.0.parts ≡ before.0.parts
    pub root : after.0.root ≡ before.0.root
    pub prefix : IsPrefixOf before.0.seen after.0.seen
    pub stands_now : stands kept.value after.0.seen
    pub rooted : (r : S) → before.0.root ≡ Some r → same r kept.value
    pub same_mine : (n : ℕ) → before.0.number ≡ Some n → entries_by caller n after.0.seen ≡ entries_by caller n before.0.seen
    pub same_passes : after.0.passes ≡ before.0.passes
    pub few : (r : S) (passes : ℕ) → before.0.root ≡ Some r → before.0.passes ≡ passes → length after.0.seen < passes * turns_of_a_pass
    pub looks : before.0.looks ≤ after.0.looks
    pub tries : before.0.tries ≤ after.0.tries

  -- a seat between two turns
  pub record Rests (first_root : S) (passes number left : ℕ) (m : Seated S E) : Type 0 where
    pub number_is : m.0.number ≡ Some number
    pub ticket : m.0.ticket ≡ None
    pub out : m.0.in_turn ≡ false
    pub taken : m.0.taken ≡ []
    pub parts : m.0.parts ≡ 1
    pub left_is : m.0.left ≡ left
    pub root : m.0.root ≡ Some first_root
    pub passes_is : m.0.passes ≡ passes
    pub held : m.1 ≡ []

  -- a seat in a turn, which has the value
  pub record InTurn (first_root : S) (passes number left : ℕ) (m : Seated S E) : Type 0 where
    pub number_is : m.0.number ≡ Some number
    pub in_turn : m.0.in_turn ≡ true
    pub taken : m.0.taken ≡ []
    pub parts : m.0.parts ≡ 1
    pub left_is : m.0.left ≡ left
    pub root : m.0.root ≡ Some first_root
    pub passes_is : m.0.passes ≡ passes
    pub held : m.1 ≡ (0, None) ∷ []

  -- the seat from which passes are split, while n of its parts are left
  pub record IsOrigin (first_root : S) (passes n : ℕ) (m : Seated S E) : Type 0 where
    pub number : m.0.number ≡ None
    pub ticket : m.0.ticket ≡ None
    pub out : m.0.in_turn ≡ false
    pub taken : m.0.taken ≡ []
    pub seen : m.0.seen ≡ []
    pub root : m.0.root ≡ Some first_root
    pub passes_is : m.0.passes ≡ passes
    pub parts : m.0.parts ≡ n
    pub left : m.0.left ≡ n * turns_of_a_pass
    pub held : m.1 ≡ []

  -- what the last view tells of the value that was left, and of the number of turns
  pub record IsLast (stands : S → List E → Type 0) (caller : E → ℕ) (same : S → S → Type 0) (first_root : S) (all_passes : ℕ) (v : View S E) (y : S) (turns : ℕ) : Type 0 where
    pub value_stands : stands y v.seen
    pub rooted : same first_root y
    pub counted : turns ≡ length v.seen
    pub few : turns ≤ all_passes * turns_of_a_pass
    pub all_mine : (n : ℕ) (l : List E) → In (records v) (n, l) → IsPrefixOf l v.seen × (entries_by caller n v.seen ≡ entries_by caller n l)
    pub named : (e : E) → In v.seen e → In (numbers v) (caller e) × (caller e < all_passes)
