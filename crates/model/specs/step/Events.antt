-- The consumer as its events and a reply with rows leave it: positions as Apache Kafka's consumer keeps them.
use Rattle.std.specs.Prelude.{ℕ, ◌&&◌, ◌==◌, not, ◌%◌, min, Bool, true, List, [], ◌∷◌, length, Option, Some, None}
use Rattle.model.specs.state.Log.{TopicPart}
use Rattle.model.specs.step.Walk.{Place, Item}
use Rattle.model.specs.state.World.{Consumer, with_position, moved_places, place_behind, last_at}
use Rattle.model.specs.state.Entry.{Event}
use Rattle.model.specs.state.Entry.Event.{Committed, Rebalanced, Reset, Looked}

-- the consumer with other places, another rotation place and another mark
abbrev pub with_assignment : List Place → ℕ → Bool → Consumer → Consumer
with_assignment places rotation unsaved c = record { settings = c.settings; mode = c.mode; topics = c.topics; assignment = places; rotation = rotation; unsaved = unsaved; last_use = c.last_use }

-- the consumer as an event leaves it
abbrev pub after_event : Event → Consumer → Consumer
after_event (Committed rows) c = with_assignment c.assignment c.rotation (c.unsaved && not (length rows == length c.assignment)) c
after_event (Rebalanced places) c = with_assignment places 0 c.unsaved c
after_event (Reset place) c = with_assignment (with_position place c.assignment) c.rotation c.unsaved c
after_event (Looked k) c = c

-- the consumer as these events leave it
abbrev pub after_events : List Event → Consumer → Consumer
after_events [] c = c
after_events (event ∷ events) c = after_events events (after_event event c)

-- the smaller of a limit and what the query asks, if it asks
abbrev pub at_most : ℕ → Option ℕ → ℕ
at_most n None = n
at_most n (Some other) = min n other

-- the rotation place behind the last partition that a row was taken from
abbrev pub rotation_behind : Option TopicPart → Consumer → ℕ
rotation_behind None c = c.rotation
rotation_behind (Some at) c = place_behind at c.assignment % length c.assignment

-- rows taken make the position unsaved
abbrev pub or_taken : List Item → Bool → Bool
or_taken [] unsaved = unsaved
or_taken (item ∷ items) unsaved = true

-- the consumer as a reply with these rows leaves it
abbrev pub moved : List Item → Consumer → Consumer
moved items c = with_assignment (moved_places items c.assignment) (rotation_behind (last_at items) c) (or_taken items c.unsaved) c
