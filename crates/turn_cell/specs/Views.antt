-- Lists of entries, what a seat knows (its view), and what each kind of step tells the seat that takes it.
use Rattle.std.specs.Prelude.{◌≡◌, ◌≢◌, ◌⊎◌, ℕ, ◌+◌, ◌-◌, ◌*◌, ◌<◌, ◌^◌, ◌==◌, nat_lt, cond, List, [], ◌∷◌, ◌++◌, map, length, true, false, Option, Some, None, option_map}
use Rattle.std.specs.List.{filter}
use Rattle.atomic_table.specs.Table.{Me, Step}
use Rattle.std.specs.declared.snapshot.Snapshot.{Snapshot}
use Rattle.turn_cell.specs.declared.rule.Kept.{Kept}
use Rattle.turn_cell.specs.declared.rule.View.{View}

-- ys begins with xs
abbrev pub IsPrefixOf : {E : Type 0} → List E → List E → Type 0
IsPrefixOf {E} xs ys = (more : List E) × (ys ≡ xs ++ more)

-- the turns that a pass may take
abbrev pub turns_of_a_pass : ℕ
turns_of_a_pass = 281474976710655

-- a seat's view, and the slots that it holds
abbrev pub Seated : Type 0 → Type 0 → Type 0
Seated S E = Me (Option (Kept S E)) (View S E)

-- the entries that name pass n, in their order
abbrev pub entries_by : {E : Type 0} → (E → ℕ) → ℕ → List E → List E
entries_by caller n = filter (λ e. caller e == n)

-- x stands in the list
abbrev pub In : {A : Type 0} → List A → A → Type 0
In [] x = ⊥
In (y ∷ ys) x = (y ≡ x) ⊎ In ys x

-- no number stands twice in the list
abbrev pub AreDistinct : List ℕ → Type 0
AreDistinct [] = Unit {0}
AreDistinct (x ∷ xs) = ¬ (In xs x) × AreDistinct xs

-- what the values weigh together
abbrev pub total : {V : Type 0} → (V → ℕ) → List V → ℕ
total f [] = 0
total f (x ∷ xs) = f x + total f xs

-- a number, with what was seen under it
abbrev pub own : {E : Type 0} → Option ℕ → List E → List (ℕ × List E)
own None xs = []
own (Some n) xs = (n, xs) ∷ []

-- the longer of two lists
abbrev pub longer : {E : Type 0} → List E → List E → List E
longer xs ys = cond (nat_lt (length xs) (length ys)) ys xs

module _ {S E : Type 0} where
  -- the first view, which has every part and number of turns, and from which passes are split
  abbrev pub newcomer : S → ℕ → View S E
  newcomer root passes = record { root = Some root; passes = passes; number = None; seen = []; ticket = None; in_turn = false; looks = 0; looked = 0; tries = 0; tried = 0; taken = []; parts = passes; left = passes * turns_of_a_pass }

  -- a view that was taken over
  abbrev pub spent : View S E
  spent = record { root = None; passes = 0; number = None; seen = []; ticket = None; in_turn = false; looks = 0; looked = 0; tries = 0; tried = 0; taken = []; parts = 0; left = 0 }

  -- what a split leaves: one part less, and the turns of one pass less
  abbrev pub cut_from : View S E → View S E
  cut_from v = record v { parts = v.parts - 1; left = v.left - turns_of_a_pass }

  -- what a split makes: a copy of what was seen, with one part and the turns of one pass
  abbrev pub cut : View S E → View S E
  cut v = record v { number = None; ticket = None; in_turn = false; taken = []; parts = 1; left = turns_of_a_pass }

  -- the numbers that a view has or took over, each with what was seen under it
  abbrev pub records : View S E → List (ℕ × List E)
  records v = v.taken ++ own v.number v.seen

  -- the numbers that a view has or took over
  abbrev pub numbers : View S E → List ℕ
  numbers v = map (λ (r : ℕ × List E). r.0) (records v)

  -- join: one view that knows what both knew, with a record for each number that either had or took over
  abbrev pub merged : View S E → View S E → View S E
  merged v w = record v { number = None; seen = longer v.seen w.seen; taken = records v ++ records w; parts = v.parts + w.parts; left = v.left + w.left }

  -- the turn begins with a value that stands for all that was then seen, which is shorter than all passes can make it
  abbrev pub Entered : (S → List E → Type 0) → (E → ℕ) → (S → S → Type 0) → View S E → List E → S → Type 0
  Entered stands caller same v h y =
      IsPrefixOf v.seen h × stands y h × ((r : S) → v.root ≡ Some r → same r y) × ((n : ℕ) → v.number ≡ Some n → entries_by caller n h ≡ entries_by caller n v.seen)
      × ((r : S) (passes : ℕ) → v.root ≡ Some r → v.passes ≡ passes → length h < passes * turns_of_a_pass)

  -- number: the seat's number is the count that was found, where it was the one expected
  abbrev pub numbered : Step (Option (Kept S E)) → Seated S E → ℕ → Seated S E → Type 0
  numbered st m r m' = r ≡ st.first → m' ≡ (record m.0 { number = Some r }, m.1)

  -- draw: the number found is the ticket, and one turn less is left
  abbrev pub drew : Step (Option (Kept S E)) → Seated S E → ℕ → Seated S E → Type 0
  drew st m r m' = m' ≡ (record m.0 { ticket = Some r; left = m.0.left - 1 }, m.1)

  -- look: the count rises and the number found is kept. At the own ticket the turn begins: the whole history was seen, and the slot is out with the seat
  abbrev pub looked : (S → List E → Type 0) → (E → ℕ) → (S → S → Type 0) → Step (Option (Kept S E)) → Seated S E → ℕ → Seated S E → Type 0
  looked stands caller same st m r m' =
      (r < 2 ^ 63)
      × (m.0.ticket ≡ Some r → (k : Kept S E) × (h : List E) × (m' ≡ (record m.0 { seen = h; in_turn = true; looks = m.0.looks + 1; looked = r }, (0, Some k) ∷ m.1)) × Entered stands caller same m.0 h k.value)
      × (m.0.ticket ≢ Some r → m' ≡ (record m.0 { looks = m.0.looks + 1; looked = r }, m.1))

  -- try: the count rises and the number found is kept. At the number expected it is a draw and a look in one; else that number is the smaller
  abbrev pub tried : (S → List E → Type 0) → (E → ℕ) → (S → S → Type 0) → Step (Option (Kept S E)) → Seated S E → ℕ → Seated S E → Type 0
  tried stands caller same st m r m' =
      (r ≡ st.first → (k : Kept S E) × (h : List E) × (m' ≡ (record m.0 { seen = h; ticket = Some r; in_turn = true; left = m.0.left - 1; tries = m.0.tries + 1; tried = r }, (0, Some k) ∷ m.1)) × Entered stands caller same m.0 h k.value)
      × (r ≢ st.first → (st.first < r) × (m' ≡ (record m.0 { tries = m.0.tries + 1; tried = r }, m.1)))

  -- pass on: the entry stands beside the value in the slot that goes home, and was added to what was seen
  abbrev pub passed : Step (Option (Kept S E)) → Seated S E → ℕ → Seated S E → Type 0
  passed st m r m' =
      (k : Kept S E) (e : E) → m.1 ≡ (0, Some k) ∷ [] → option_map (λ (x : Snapshot E). x.value) k.last ≡ Some e → m' ≡ (record m.0 { seen = m.0.seen ++ e ∷ []; ticket = None; in_turn = false }, [])
