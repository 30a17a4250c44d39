-- Small walks over two partitions, of which the first has two records and the second one: Confluent REST Proxy API v2, `max_bytes` of consumer records.
use Rattle.std.specs.Prelude.{ℕ, Bool, true, not, ◌==◌, List, [], ◌∷◌}
use Rattle.model.specs.state.Log.{TopicPart, Row}
use Rattle.model.specs.step.Walk.{Place, Lot, Item, Walked, unwalked, walk, turned}
use Rattle.model.specs.state.World.{Consumer}
use Rattle.model.specs.state.World.Edge.{Start}
use Rattle.model.specs.state.World.Mode.{Assigned}
use Rattle.model.specs.examples.Readings.{orders, other_orders, kafka_at, settings_of}

-- the start of a partition
abbrev pub start_of_part : TopicPart → Place
start_of_part at = record { at = at; position = 0 }

-- what is at hand
abbrev pub two_lots : List Lot
two_lots = record { place = start_of_part orders; rows = kafka_at 0 ∷ kafka_at 1 ∷ [] } ∷ record { place = start_of_part other_orders; rows = kafka_at 0 ∷ [] } ∷ []

-- all rows read but those at this offset
abbrev pub unread_at : ℕ → Row → Bool
unread_at offset row = not (row.offset == offset)

-- a walk with this bound from a rotation place; rows at one offset don't read
abbrev pub walked_round : (bound offset rotation : ℕ) → Walked
walked_round bound offset rotation = walk (record { bound = bound; reads = unread_at offset }) unwalked (turned rotation two_lots)

-- a row of a partition
abbrev pub kafka_in : TopicPart → ℕ → Item
kafka_in at offset = record { at = at; row = kafka_at offset }

-- a consumer to which both are assigned
abbrev pub two_assigned : Consumer
two_assigned = record { settings = settings_of Start; mode = Assigned; topics = []; assignment = start_of_part orders ∷ start_of_part other_orders ∷ []; rotation = 0; unsaved = true; last_use = 0 }
