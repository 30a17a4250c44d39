-- What the walk of a look had at hand: one fetch of the assigned partitions in turn (Apache Kafka protocol guide, Fetch; Confluent REST Proxy API v2, consumer records).
use Rattle.std.specs.Prelude.{ℕ, ◌≡◌, ◌⊎◌, ◌*◌, min, false, List, [], map, Option, Some}
use Rattle.model.specs.state.Log.{Log}
use Rattle.model.specs.step.Walk.{Lot, turned, unwalked, walk}
use Rattle.model.specs.state.World.{Key, Consumer, Format}
use Rattle.model.specs.state.Entry.{Call, Event, Reply, IsLinks}
use Rattle.model.specs.state.Entry.Act.{Records}
use Rattle.model.specs.state.Entry.Call.{Of}
use Rattle.model.specs.texts.Texts.{Response, response_of}
use Rattle.model.specs.history.Noted.{events_of, said_of}
use Rattle.model.specs.step.Look.{LookEnds, after_events, allows, at_most}
use Rattle.rest_replies.specs.Forms.{forms}
use Rattle.instance.specs.Ending.{turn_of}
use Rattle.instance.specs.Gathering.{AreGiven}
use Rattle.instance.specs.Walk.{rule_of}

-- something ended the look before its walk, and that is what is answered
pub record IsCutShort (formats : List Format) (timeout bound : Option ℕ) (said : Option Response) : Type 0 where
  pub why : Reply
  pub links : IsLinks why
  pub says : (advertise : List ℕ) (key : Key) → said ≡ Some (response_of advertise forms (Of key (Records formats timeout bound)) why)

-- The walk ended the look. Of each partition of the consumer it had the rows that one fetch gives at this log: up to twice
-- the bytes of a reply, at most 1 MiB, of the partitions in turn from the place in rotation on.
pub record IsHanded (now round wait bound : ℕ) (c : Consumer) (log : Log) (said : Option Response) (c2 : Consumer) : Type 0 where
  pub lots : List Lot
  pub whose : map (λ lot. lot.place) lots ≡ c.assignment
  pub given : AreGiven (min (2 * bound) 1048576) c.rotation log c.assignment (map (λ lot. lot.rows) lots)
  pub looked : List Event
  pub reply : Option Reply
  pub says : (advertise : List ℕ) (call : Call) → said ≡ said_of advertise forms (Some call) reply
  pub ends : LookEnds now (turn_of round) wait c (walk (rule_of bound c.settings.format) unwalked (turned c.rotation lots)) looked reply (Some c2)

-- A look of a request that accepts these formats, by its events: the consumer is the one whose positions they set back. Where its
-- own format isn't accepted nothing is looked at.
abbrev pub LooksAtGiven : (now round : ℕ) → (formats : List Format) → (timeout bound : Option ℕ) → Consumer → List (Key ⊎ Event) → Option Response → Log → Consumer → Type 0
LooksAtGiven now round formats timeout bound c events said log c2 =
    (allows formats c.settings.format ≡ false) ⊎ (IsCutShort formats timeout bound said
    ⊎ ((own : List Event) × (events ≡ events_of [] own) × IsHanded now round (at_most c.settings.timeout_ms timeout) (at_most 4194304 bound) (after_events own c) log said c2))
