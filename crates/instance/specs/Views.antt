-- What an instance, its events and its replies stand for in the model (Confluent REST Proxy API v2, consumers).
use Rattle.std.specs.Prelude.{◌⊎◌, List, map, option_map, Option}
use Rattle.std.proofs.Common.{inr}
use Rattle.model.specs.state.World.{Key, Consumer}
use Rattle.model.specs.state.Entry.{Event}
use Rattle.model.specs.state.Entry.Event.{Reset, Looked}
use Rattle.model.specs.texts.Texts.{Response}
use Rattle.rest_calls.specs.Responses.{response_in}
use Rattle.broker_link.specs.Places.{place_of}
use Rattle.instance.specs.declared.event.Event.{Event as CodeEvent}
use Rattle.instance.specs.declared.event.Event.TheVariants.{Reset as CodeReset, Looked as CodeLooked}
use Rattle.instance.specs.declared.event.Outcome.{Outcome}

-- a consumer under its key
pub record Live : Type 0 where
  pub key : Key
  pub consumer : Consumer

-- an event
abbrev pub event_of : CodeEvent → Key ⊎ Event
event_of (CodeReset place) = inr (Reset (place_of place))
event_of (CodeLooked round) = inr (Looked round)

-- the events of a call
abbrev pub events_in : Outcome → List (Key ⊎ Event)
events_in outcome = map event_of outcome.events

-- the reply of a call
abbrev pub said_in : Outcome → Option Response
said_in outcome = option_map response_in outcome.reply
