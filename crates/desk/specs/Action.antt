-- What the call of a live instance does to it, and where it stands after.
use Rattle.std.specs.Prelude.{ℕ, ◌*◌, ◌^◌, ◌<◌, ◌≡◌, ◌≢◌, ◌⊎◌, List, Option, Some, None}
use Rattle.model.specs.state.Log.{Log}
use Rattle.model.specs.state.World.{Key, IsConsumer}
use Rattle.model.specs.state.World.Mode.{ByTopics}
use Rattle.model.specs.state.Entry.{Act, Call, Event}
use Rattle.model.specs.state.Entry.Call.{Of}
use Rattle.model.specs.texts.Texts.{Response}
use Rattle.model.specs.history.Noted.{EndsInLook}
use Rattle.broker_link.specs.Causes.{Counts}
use Rattle.broker_link.specs.Stands.{Stand}
use Rattle.instance.specs.Views.{Live, events_in, said_in}
use Rattle.instance.specs.declared.event.Outcome.{Outcome}
use Rattle.consumer_state.specs.Assign.{ActsSo}

-- the instance that stood there did its call, and is put there again
pub record Does (found : Option Live) (PutsBack : Option Live → Type 0) (call : Call) (now round : ℕ) (tells plain : Type 0) (before after : Counts) (a : Log) (events : List (Key ⊎ Event)) (said : Option Response) (b : Log) : Type 0 where
  pub stood : Live
  pub live : Live
  pub was : found ≡ Some stood
  pub puts : PutsBack (Some live)
  pub key : live.key ≡ stood.key
  pub sound : IsConsumer live.consumer
  pub unsubscribed : stood.consumer.mode ≢ ByTopics
  pub acts : (advertise : List ℕ) (act : Act) → call ≡ Of stood.key act
      → ActsSo advertise stood.key now round act tells plain before after stood.consumer a events said b live.consumer

-- the same by how the link stands before and after, and by what came of the call
abbrev pub DoesAt : Option Live → (Option Live → Type 0) → Call → ℕ → ℕ → Stand → Outcome → Stand → Type 0
DoesAt found PutsBack call now round a outcome b = Does found PutsBack call now round a.tells a.plain a.counts b.counts a.log (events_in outcome) (said_in outcome) b.log

-- the instance that stands there is the one that is called
abbrev pub IsAsked : Option Live → Call → Type 0
IsAsked found call = (live : Live) → found ≡ Some live → (act : Act) × (call ≡ Of live.key act)

-- a call that has no reply may wait, and ended in a look
pub record Waits (round : ℕ) (outcome : Outcome) : Type 0 where
  pub soon : outcome.reply ≡ None → 10 * round < 2 ^ 32
  pub looks : outcome.reply ≡ None → EndsInLook (events_in outcome) round
