-- What callers say of a cell, its passes and its turns.
use Rattle.std.specs.Prelude.{◌≡◌, ◌⊎◌, ℕ, ◌+◌, ◌*◌, ◌<◌, ◌≤◌, List, [], ◌∷◌, ◌++◌, length, map, None, slice_index_or}
use Rattle.turn_cell.specs.declared.pass.Pass.{Pass}
use Rattle.turn_cell.specs.declared.cell.TurnCell.{TurnCell}
use Rattle.turn_cell.specs.declared.turn.Busy.{Busy}
use Rattle.turn_cell.specs.declared.turn.Turn.{Turn}
use Rattle.turn_cell.specs.declared.close.ClosedCell.{ClosedCell}
use Rattle.std.specs.List.{Contains}
use Rattle.turn_cell.specs.Rules.{IsPrefixOf, In, Seated, records, numbers, entries_by, turns_of_a_pass, Rests, InTurn}

module _ {S E : Type 0} where
  -- the value that the cell was made with, of which no turn changes the root
  abbrev pub root_of : TurnCell S E → S
  root_of c = c.table.shared.key.root.value

  -- how many passes were made with the cell
  abbrev pub passes_of : TurnCell S E → ℕ
  passes_of c = c.passes

  -- the number under which the entries of a pass stand
  abbrev pub number_of : Pass S E → ℕ
  number_of p = p.number

  -- the turns that a pass may still take
  abbrev pub left_of : Pass S E → ℕ
  left_of p = p.left

  -- the beginning of the history that a pass has seen
  abbrev pub seen : Pass S E → List E
  seen p = p.seat.me.0.seen

  -- the entries of the pass itself
  abbrev pub mine : (E → ℕ) → Pass S E → List E
  mine caller p = entries_by caller (number_of p) (seen p)

  -- the loads of `serving` and the tries on `next`, and the numbers that these last found
  abbrev pub looks : Pass S E → ℕ
  looks p = p.seat.me.0.looks

  abbrev pub last_look : Pass S E → ℕ
  last_look p = p.seat.me.0.looked

  abbrev pub tries : Pass S E → ℕ
  tries p = p.seat.me.0.tries

  abbrev pub last_try : Pass S E → ℕ
  last_try p = p.seat.me.0.tried

  -- of a turn: its cell, its pass as it is in the turn, and the value as it then stands
  abbrev pub cell_of : Turn S E → TurnCell S E
  cell_of t = t.cell.now

  abbrev pub pass_of : Turn S E → Pass S E
  pass_of t = t.pass.now

  abbrev pub value_of : Turn S E → S
  value_of t = t.value

  -- a pass of this cell, with no turn under way
  abbrev pub IsPassOf : TurnCell S E → Pass S E → Type 0
  IsPassOf c p = (p.seat.table_id ≡ c.table.shared.table_id) × Rests (root_of c) (passes_of c) (number_of p) (left_of p) p.seat.me

  -- a pass of this cell whose turn it is
  abbrev pub IsInTurn : TurnCell S E → Pass S E → Type 0
  IsInTurn c p = (p.seat.table_id ≡ c.table.shared.table_id) × InTurn (root_of c) (passes_of c) (number_of p) (left_of p) p.seat.me

  -- The turn of a pass began, and y is the value
  pub record Turned (stands : S → List E → Type 0) (caller : E → ℕ) (same : S → S → Type 0) (c : TurnCell S E) (before after : Pass S E) (y : S) : Type 0 where
    pub turn : IsInTurn c after
    pub number : number_of after ≡ number_of before
    pub left : left_of after + 1 ≡ left_of before
    pub grown : IsPrefixOf (seen before) (seen after)
    pub same_mine : mine caller after ≡ mine caller before
    pub value_stands : stands y (seen after)
    pub value_root : same (root_of c) y
    pub few : length (seen after) < passes_of c * turns_of_a_pass
    pub more_looks : (looks before ≤ looks after) × (tries before ≤ tries after)

  -- The turn was another's: `next` stood above `serving` as this call saw them
  pub record Refused (c : TurnCell S E) (before after : Pass S E) (b : Busy) : Type 0 where
    pub own : IsPassOf c after
    pub number : number_of after ≡ number_of before
    pub left : left_of after ≡ left_of before
    pub same_seen : seen after ≡ seen before
    pub above : b.serving < b.next
    pub looked : (looks after ≡ looks before + 1) × (last_look after ≡ b.serving)
    pub tried : (tries after ≡ tries before + 1) × (last_try after ≡ b.next)

  -- The turn ended with the entry e
  pub record Finished (caller : E → ℕ) (c : TurnCell S E) (before after : Pass S E) (e : E) : Type 0 where
    pub own : IsPassOf c after
    pub number : number_of after ≡ number_of before
    pub left : left_of after ≡ left_of before
    pub same_seen : seen after ≡ seen before ++ e ∷ []
    pub more_mine : mine caller after ≡ mine caller before ++ e ∷ []
    pub same_looks : (looks after ≡ looks before) × (tries after ≡ tries before)

  -- a pass that has taken no turn
  pub record IsFresh (c : TurnCell S E) (n : ℕ) (p : Pass S E) : Type 0 where
    pub own : IsPassOf c p
    pub number : number_of p ≡ n
    pub left : left_of p ≡ turns_of_a_pass
    pub unseen : seen p ≡ []

  -- each pass is fresh, and its number is its place
  abbrev pub AreFresh : TurnCell S E → List (Pass S E) → Type 0
  AreFresh c ps = (k : ℕ) (d : Pass S E) → k < length ps → IsFresh c k (slice_index_or ps k d)

  -- the seat into which the passes ps were joined, but for those that still wait
  pub record IsGathered (ps waiting : List (Pass S E)) (m : Seated S E) : Type 0 where
    pub ticket : m.0.ticket ≡ None
    pub held : m.1 ≡ []
    pub parts : m.0.parts + length waiting ≡ length ps
    pub all : (p : Pass S E) → In ps p → In waiting p ⊎ In (records m.0) (number_of p, seen p)
    pub named : (n : ℕ) → In (numbers m.0) n → In (map number_of ps) n
    pub waiting_of : (p : Pass S E) → In waiting p → In ps p

  -- A cell was closed with these passes: there is one history, which begins with all that each pass has seen, and in which the entries of each pass are just its own. It has no other entries.
  pub record Closed (stands : S → List E → Type 0) (caller : E → ℕ) (same : S → S → Type 0) (c : TurnCell S E) (ps : List (Pass S E)) (left : ClosedCell S) : Type 0 where
    pub history : List E
    pub value_stands : stands left.value history
    pub value_root : same (root_of c) left.value
    pub counted : left.turns ≡ length history
    pub few : left.turns ≤ passes_of c * turns_of_a_pass
    pub each : (k : ℕ) (d : Pass S E) → k < length ps → IsPrefixOf (seen (slice_index_or ps k d)) history × (mine caller (slice_index_or ps k d) ≡ entries_by caller (number_of (slice_index_or ps k d)) history)
    pub named : (k : ℕ) (e : E) → k < length history → (caller (slice_index_or history k e) < passes_of c) × Contains (map number_of ps) (caller (slice_index_or history k e))
