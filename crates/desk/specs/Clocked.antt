-- The moments of entries by the clock that was read for them, one reading a turn, and its pauses.
use Rattle.std.specs.Prelude.{ℕ, ◌≡◌, max, cond, is_none, List, [], ◌∷◌}
use Rattle.gate_io.specs.Clocks.{Hand, after_read, after_pause}
use Rattle.model.specs.state.Entry.{Entry}

-- the clock behind the turn of an entry: a look without reply is followed by one pause of 10 ms
abbrev pub after_turn : Hand → Entry → Hand
after_turn hand e = cond (is_none e.reply) (after_pause 10 (after_read hand)) (after_read hand)

-- Each entry stands here with the moment before it in its shard's history. Its own moment is the reading of its turn, or
-- the moment before it where that is greater.
abbrev pub IsClocked : Hand → List (ℕ × Entry) → Hand → Type 0
IsClocked hand [] end = end ≡ hand
IsClocked hand (before ∷ entries) end = (let e = before.1 in e.moment ≡ max (after_read hand).now before.0) × IsClocked (after_turn hand before.1) entries end

-- entries that follow one another in one history, behind this moment
abbrev pub behind : ℕ → List Entry → List (ℕ × Entry)
behind last [] = []
behind last (e ∷ entries) = (last, e) ∷ behind e.moment entries
