-- A small legal history: a consumer of the Confluent REST Proxy API v2 is made, is assigned a partition with one row, and is shown that row.
use Rattle.model.specs.state.Forms.Showing.{Text}
use Rattle.std.specs.Prelude.{codes, false, cond, List, [], ◌∷◌, Some, None}
use Rattle.model.specs.state.Log.{TopicPart, Row, Log}
use Rattle.model.specs.step.Walk.{Item}
use Rattle.model.specs.state.World.{Key, is_key, Settings, Consumer, World, fresh, touched}
use Rattle.model.specs.state.World.Format.{Binary}
use Rattle.model.specs.state.World.Edge.{Start}
use Rattle.model.specs.state.Entry.{Act, Event, Reply, Turn, Entry}
use Rattle.model.specs.state.Entry.Act.{Create, Assign, Records}
use Rattle.model.specs.state.Entry.Call.{Of}
use Rattle.model.specs.state.Entry.Event.{Looked}
use Rattle.model.specs.state.Entry.Reply.{Done, Made, Shown}
use Rattle.model.specs.step.Look.{moved}
use Rattle.model.specs.step.Step.{as_assigned}

-- the one partition
abbrev pub orders : TopicPart
orders = record { topic = 111 ∷ []; partition = 0 }

-- its one row
abbrev pub row : Row
row = record { offset = 0; key = None; value = Some (7 ∷ []) }

-- the log
abbrev pub one_row : Log
one_row = record { topics = record { name = 111 ∷ []; parts = record { start = 0; end = 1; rows = row ∷ [] } ∷ [] } ∷ []; committed = λ group at. None; others = 0 }

-- the consumer's key
abbrev pub reader : Key
reader = record { group = 103 ∷ []; instance = 105 ∷ [] }

-- a look answers at once, whatever it has
abbrev pub settings : Settings
settings = record { format = Binary; reset = Start; auto_commit = false; min_bytes = 0; timeout_ms = 0 }

-- the row as a reply shows it
abbrev pub shown_item : Item
shown_item = record { at = orders; row = row }

-- the consumer with the partition assigned
abbrev pub ready : Consumer
ready = as_assigned (record { at = orders; position = 0 } ∷ []) 0 (fresh settings 0)

-- the consumer behind the row
abbrev pub behind : Consumer
behind = touched 0 (moved (shown_item ∷ []) ready)

-- only that consumer is live
abbrev pub with_one : Consumer → World
with_one c = record { at = λ key. cond (is_key key reader) (Some c) None; last = 0 }

-- every row reads
abbrev pub turn : Turn
turn = record { round = 0; forms = record { shows = λ format bytes. Text (codes "null") } }

-- an entry of the consumer's, at moment 0
abbrev pub entry : Act → List Event → Reply → Entry
entry act events reply = record { caller = 0; moment = 0; turn = turn; expired = []; events = events; call = Some (Of reader act); reply = Some reply }

-- made, assigned, and shown the row
abbrev pub history : List Entry
history = entry (Create settings) [] Made ∷ entry (Assign (orders ∷ [])) [] Done ∷ entry (Records [] None None) (Looked 0 ∷ []) (Shown Binary (shown_item ∷ [])) ∷ []
