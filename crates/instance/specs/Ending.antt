-- How a look ends that its walk ends (Confluent REST Proxy API v2, consumer records).
use Rattle.std.specs.Prelude.{ℕ, ◌≡◌, ◌⊎◌, ◌++◌, List, map, Option, Some}
use Rattle.model.specs.step.Walk.{Lot, unwalked, walk, turned}
use Rattle.model.specs.state.World.{Consumer}
use Rattle.model.specs.state.Entry.{Call, Event, Reply, Turn}
use Rattle.model.specs.state.Entry.Event.{Reset, Looked}
use Rattle.model.specs.texts.Texts.{Response}
use Rattle.model.specs.history.Noted.{said_of}
use Rattle.model.specs.step.Look.{LookEnds}
use Rattle.broker_link.specs.Causes.{Counts}
use Rattle.broker_link.specs.Replies.{CountsKept, IsCountedIf, IsGoodIf}
use Rattle.instance.specs.declared.event.Event.{Event as CodeEvent}
use Rattle.instance.specs.declared.event.Event.TheVariants.{Reset as CodeReset, Looked as CodeLooked}
use Rattle.consumer_state.specs.declared.consumer.Consumer.{Consumer as CodeConsumer}
use Rattle.rest_replies.specs.Forms.{forms}
use Rattle.instance.specs.Walk.{rule_of}
use Rattle.broker_link.specs.Places.{place_of}
use Rattle.instance.specs.Views.{said_in}
use Rattle.instance.specs.declared.event.Outcome.{Outcome}
use Rattle.rest_codes.specs.declared.response.Reply.TheVariants as reply

-- an event that isn't of another consumer
abbrev pub own_of : CodeEvent → Event
own_of (CodeReset place) = Reset (place_of place)
own_of (CodeLooked round) = Looked round

-- the turn of a look
abbrev pub turn_of : ℕ → Turn
turn_of round = record { round = round; forms = forms }

-- The walk over these lots ended the look: its marks, what is said, and the consumer after it. No reply of it is a failure.
pub record IsEnded (round wait bound : ℕ) (c : Consumer) (lots : List Lot) (looked : List Event) (said : Option Response) (c2 : Consumer) : Type 0 where
  pub reply : Option Reply
  pub ends : LookEnds c.last_use (turn_of round) wait c (walk (rule_of bound c.settings.format) unwalked (turned c.rotation lots)) looked reply (Some c2)
  pub says : (advertise : List ℕ) (call : Call) → said ≡ said_of advertise forms (Some call) reply
  pub counted : (before after : Counts) → CountsKept before after → IsCountedIf before after reply
  pub good : IsGoodIf reply

-- The same, with the events so far and those behind them.
pub record IsSettled (round wait bound : ℕ) (c : Consumer) (lots : List Lot) (before events : List CodeEvent) (said : Option Response) (c2 : Consumer) : Type 0 where
  pub marks : List CodeEvent
  pub ended : IsEnded round wait bound c lots (map own_of marks) said c2
  pub added : events ≡ before ++ marks

-- The look is over: by want of memory, with nothing moved, or by its walk. `before` are the events so far.
abbrev pub IsOver : (round wait bound : ℕ) → Consumer → List Lot → List CodeEvent → Outcome → Consumer → Type 0
IsOver round wait bound c lots before out c2 =
    ((out.reply ≡ Some reply.Want) × (out.events ≡ before) × (c2 ≡ c))
    ⊎ IsSettled round wait bound c lots before out.events (said_in out) c2

-- all but the assignment is kept
pub record IsKept (c d : CodeConsumer) : Type 0 where
  pub settings : d.settings ≡ c.settings
  pub rotation : d.rotation ≡ c.rotation
  pub unsaved : d.unsaved ≡ c.unsaved
  pub last_use : d.last_use ≡ c.last_use
