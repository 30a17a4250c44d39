-- Positions that are fixed by what the link answers, one call after another: Apache Kafka's committed offsets and `auto.offset.reset`.
use Rattle.std.specs.Prelude.{ℕ, false, map, All, AllPairs, ◌<◌, ◌≡◌, ◌⊎◌, Bool, cond, ◌&&◌, filter, bytes_eq, List, [], ◌∷◌, length, Option, Some, None}
use Rattle.model.specs.state.Log.{TopicPart, is_at, Log, Keeps, IsLogAfter, part_at, parts_in}
use Rattle.model.specs.step.Walk.{Place}
use Rattle.model.specs.state.World.{Edge, position_in}
use Rattle.model.specs.state.World.Edge.{Start, End}

-- the topics have the partition
abbrev pub HasPart : Log → TopicPart → Type 0
HasPart log at = at.partition < length (parts_in log.topics at.topic)

-- where a partition begins or ends
abbrev pub edge_of : Edge → Log → TopicPart → ℕ
edge_of Start log at = (part_at log at).start
edge_of End log at = (part_at log at).end

-- the position that a partition is fixed to at a log: the committed offset, else by the reset setting
abbrev pub fixed_at : Edge → Option ℕ → Log → TopicPart → ℕ
fixed_at reset None log at = edge_of reset log at
fixed_at reset (Some offset) log at = offset

-- From `a` to `b` the partitions are given these places in turn, each at its own log. One of `kept` stays.
abbrev pub Fixes : (TopicPart → Option ℕ) → Edge → List Place → Log → List TopicPart → List Place → Log → Type 0
Fixes committed reset kept a [] [] b = Keeps a b
Fixes committed reset kept a (at ∷ ats) (place ∷ places) b =
    (m : Log) × IsLogAfter a m × (place.at ≡ at)
    × ((position_in kept at ≡ Some place.position) ⊎ ((position_in kept at ≡ None) × (committed at ≡ None → HasPart m at) × (place.position ≡ fixed_at reset (committed at) m at)))
    × Fixes committed reset kept m ats places b
Fixes committed reset kept a [] (place ∷ places) b = ⊥
Fixes committed reset kept a (at ∷ ats) [] b = ⊥

-- From `a` to `b` each partition's edge was told in turn, each at its own log.
abbrev pub Edges : Edge → Log → List TopicPart → List Place → Log → Type 0
Edges edge a [] [] b = Keeps a b
Edges edge a (at ∷ ats) (place ∷ places) b = (m : Log) × IsLogAfter a m × HasPart m at × (place.at ≡ at) × (place.position ≡ edge_of edge m at) × Edges edge m ats places b
Edges edge a [] (place ∷ places) b = ⊥
Edges edge a (at ∷ ats) [] b = ⊥

-- what a group has committed once these rows were taken in turn
abbrev pub with_commits : List ℕ → List Place → (List ℕ → TopicPart → Option ℕ) → List ℕ → TopicPart → Option ℕ
with_commits group [] committed = committed
with_commits group (row ∷ rows) committed =
    with_commits group rows (λ other at. cond (bytes_eq group other && is_at row.at at) (Some row.position) (committed other at))

-- from `a` to `b` the group has committed just these
abbrev pub Commits : List ℕ → List Place → Log → Log → Type 0
Commits group rows a b = (other : List ℕ) (at : TopicPart) → b.committed other at ≡ with_commits group rows a.committed other at

-- nothing was committed
abbrev pub SameCommits : Log → Log → Type 0
SameCommits a b = Commits [] [] a b

-- each of these was committed or not
pub record CommitsSome (group : List ℕ) (sent : List Place) (a b : Log) : Type 0 where
  pub taken : Place → Bool
  pub commits : Commits group (filter taken sent) a b

-- the position there is out of range
pub record IsOutside (seen : Log) (places : List Place) (new : Place) : Type 0 where
  pub old : ℕ
  pub was : position_in places new.at ≡ Some old
  pub outside : (old < (part_at seen new.at).start) ⊎ ((part_at seen new.at).end < old)

-- Positions that one fetch found out of range, each partition once, are set in turn to an edge told after it.
pub record Resets (reset : Edge) (a : Log) (places news : List Place) (b : Log) : Type 0 where
  pub seen : Log
  pub since : IsLogAfter a seen
  pub once : AllPairs (λ p q. is_at p.at q.at ≡ false) news
  pub outside : All (IsOutside seen places) news
  pub told : Edges reset seen (map (λ place. place.at) news) news b
