-- What a consumer's call does, whether one is live under its key or not.
use Rattle.model.specs.state.World.Mode.{ByTopics}
use Rattle.std.specs.Prelude.{ℕ, ◌≡◌, ◌≢◌, ◌⊎◌, false, List, [], IfSome, Option, Some, None}
use Rattle.model.specs.state.Log.{Log, IsLog}
use Rattle.model.specs.state.World.{Key, is_key, Consumer}
use Rattle.model.specs.state.Forms.{Forms}
use Rattle.model.specs.state.Entry.{Act, Call, Event, Reply}
use Rattle.model.specs.state.Entry.Call.{Of}
use Rattle.model.specs.texts.Texts.{Response}
use Rattle.model.specs.step.Produced.{NoneAdded}
use Rattle.model.specs.step.Acts.{Acts}
use Rattle.model.specs.history.Noted.{IsTable, events_of, said_of}
use Rattle.broker_link.specs.Causes.{Counts}
use Rattle.broker_link.specs.Replies.{IsCountedIf, IsGoodIf}
use Rattle.broker_link.specs.Stands.{Stand}
use Rattle.rest_replies.specs.Forms.{forms, shown}
use Rattle.consumer_state.specs.Assign.{ActsSo, AreThere}
use Rattle.instance.specs.Views.{events_in, said_in}
use Rattle.instance.specs.declared.event.Outcome.{Outcome}
use Rattle.desk.specs.Shelf.{consumer_in}
use Rattle.desk.specs.declared.consumers.Consumers.{Consumers}
use Rattle.desk.specs.declared.shard.Shard.{Shard}

-- what the model says of the call: its events, and the consumer before and after it
pub record Called (advertise : List ℕ) (key : Key) (now round : ℕ) (act : Act) (c : Option Consumer) (a : Log) (events : List (Key ⊎ Event)) (said : Option Response) (reply : Option Reply) (b : Log) (c2 : Option Consumer) : Type 0 where
  pub turn_forms : Forms
  pub shows : (table : List (List ℕ)) → IsTable shown table turn_forms
  pub own : List Event
  pub same : events ≡ events_of [] own
  pub says : said ≡ said_of advertise turn_forms (Some (Of key act)) reply
  pub acts : Acts key now (record { round = round; forms = turn_forms }) act c a own reply b c2
  pub added : NoneAdded a b

-- The reply has its cause in the link's counts. Where the log is told, the call does what the model says.
pub record CallsSo (advertise : List ℕ) (key : Key) (now round : ℕ) (act : Act) (tells plain : Type 0) (before after : Counts) (c : Option Consumer) (a : Log) (events : List (Key ⊎ Event)) (said : Option Response) (b : Log) (c2 : Option Consumer) : Type 0 where
  pub reply : Option Reply
  pub says : said ≡ said_of advertise forms (Some (Of key act)) reply
  pub counted : IsCountedIf before after reply
  pub unsubscribed : IfSome c (λ x. x.mode ≢ ByTopics)
  pub called : tells → IsLog a → Called advertise key now round act c a events said reply b c2
  pub there : tells → IsLog a → IfSome c (AreThere a) → IfSome c2 (AreThere b)
  pub good : plain → tells → IsLog a → IfSome c (AreThere a) → IsGoodIf reply

-- the consumers but that of the key are as they were
abbrev pub OthersStay : Key → Consumers → Consumers → Type 0
OthersStay key old new = (other : Key) → is_key other key ≡ false → consumer_in new other ≡ consumer_in old other

-- the consumers but that of the call are as they were
abbrev pub OthersKept : Call → Consumers → Consumers → Type 0
OthersKept call old new = (key : Key) (act : Act) → call ≡ Of key act → OthersStay key old new

-- a call does so to the consumer of its key, in a shard whose link stands so before and after
abbrev pub CallsAt : List ℕ → ℕ → ℕ → Call → Stand → Consumers → Outcome → Stand → Consumers → Type 0
CallsAt advertise now round call a old outcome b new =
    (key : Key) (act : Act) → call ≡ Of key act
    → CallsSo advertise key now round act a.tells a.plain a.counts b.counts (consumer_in old key) a.log (events_in outcome) (said_in outcome) b.log (consumer_in new key)

-- a call for which nobody is live asks nothing of the link, whichever its round
abbrev pub CallsFirst : List ℕ → ℕ → Call → Stand → List (Key ⊎ Event) → Option Response → Consumers → Type 0
CallsFirst advertise now call a events said new =
    (key : Key) (act : Act) (round : ℕ) → call ≡ Of key act → CallsSo advertise key now round act a.tells a.plain a.counts a.counts None a.log events said a.log (consumer_in new key)

-- the advertised name, the link of the beginning and the last moment are as they were
pub record SameSetup {L : Type 0} (a b : Shard L) : Type 0 where
  pub advertise : b.advertise ≡ a.advertise
  pub first : b.first ≡ a.first
  pub last : b.last ≡ a.last
