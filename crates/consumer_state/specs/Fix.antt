-- Positions that are kept, committed or told by the link, one partition after another (Apache Kafka's committed offsets and `auto.offset.reset`).
use Rattle.std.specs.Prelude.{ℕ, ℤ, pos, negsuc, ◌≡◌, ◌⊎◌, ◌+◌, is_none, Bool, List, [], ◌∷◌, slice_index_or, Option, Some, None}
use Rattle.model.specs.state.Log.{TopicPart, Log, Keeps, IsLogAfter}
use Rattle.model.specs.step.Walk.{Place}
use Rattle.model.specs.state.World.{Edge, position_in}
use Rattle.model.specs.step.Fixed.{HasPart, fixed_at}
use Rattle.broker_link.specs.Fetching.{told_offset}

-- the partition wasn't assigned
abbrev pub is_new : List Place → TopicPart → Bool
is_new kept at = is_none (position_in kept at)

-- the position of a partition that was assigned, else the committed offset at this place; -1 is none
abbrev pub known_at : Option ℕ → List ℤ → ℕ → ℤ
known_at None offsets next = slice_index_or offsets next (negsuc 0)
known_at (Some position) offsets next = pos position

-- the place behind it
abbrev pub next_after : Option ℕ → ℕ → ℕ
next_after None next = next + 1
next_after (Some position) next = next

-- what is known of each partition, where the offsets from this place on are those of the new ones in turn
abbrev pub merged : List Place → List TopicPart → List ℤ → ℕ → List ℤ
merged kept [] offsets next = []
merged kept (at ∷ ats) offsets next = known_at (position_in kept at) offsets next ∷ merged kept ats offsets (next_after (position_in kept at) next)

-- what is known of a partition: its position, where it was assigned, else its committed offset
abbrev pub IsKnown : List Place → (TopicPart → Option ℕ) → TopicPart → ℤ → Type 0
IsKnown kept committed at known =
    ((n : ℕ) × (position_in kept at ≡ Some n) × (known ≡ pos n)) ⊎ ((position_in kept at ≡ None) × (committed at ≡ told_offset known))

-- the position is what is known, else the edge at this log
pub record IsFixed (log : Log) (reset : Edge) (at : TopicPart) (known : ℤ) (position : ℕ) : Type 0 where
  pub have : told_offset known ≡ None → HasPart log at
  pub is : position ≡ fixed_at reset (told_offset known) log at

-- From `a` to `b` the partitions are given these places in turn, each at its own log.
abbrev pub AreFixed : Edge → Log → List TopicPart → List ℤ → List Place → Log → Type 0
AreFixed reset a [] [] [] b = Keeps a b
AreFixed reset a (at ∷ ats) (known ∷ more) (place ∷ places) b =
    (m : Log) × IsLogAfter a m × (place.at ≡ at) × IsFixed m reset at known place.position × AreFixed reset m ats more places b
AreFixed reset a _ _ _ b = ⊥
