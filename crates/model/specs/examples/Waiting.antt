-- An example history of a wait: Confluent REST Proxy API v2, `timeout` of consumer records.
use Rattle.std.specs.Prelude.{ℕ, List, [], ◌∷◌, Option, Some, None}
use Rattle.model.specs.state.World.Edge.{Start}
use Rattle.model.specs.state.World.Format.{Binary}
use Rattle.model.specs.state.Entry.{Call, Reply, Turn, Entry}
use Rattle.model.specs.state.Entry.Act.{Records}
use Rattle.model.specs.state.Entry.Call.{Of}
use Rattle.model.specs.state.Entry.Event.{Looked}
use Rattle.model.specs.state.Entry.Reply.{Shown}
use Rattle.model.specs.examples.Readings.{reader, turn, made, assigned}

-- records with `timeout=25`
abbrev pub waiting : Call
waiting = Of reader (Records [] (Some 25) None)

-- the turn of a round
abbrev pub turn_of : ℕ → Turn
turn_of round = record { round = round; forms = turn.forms }

-- the look of a round, and its reply, if it has one
abbrev pub look_of : ℕ → Option Reply → Entry
look_of round reply = record { caller = 0; moment = 0; turn = turn_of round; expired = []; events = Looked round ∷ []; call = Some waiting; reply = reply }

-- The four looks of the call: 10 ms each, and the last once 25 ms are over.
abbrev pub four_looks : List Entry
four_looks = look_of 0 None ∷ look_of 1 None ∷ look_of 2 None ∷ look_of 3 (Some (Shown Binary [])) ∷ []

-- a consumer of an empty topic waits in vain
abbrev pub waited_in_vain : List Entry
waited_in_vain = made Start ∷ assigned ∷ four_looks
