-- What the code's entries stand for: one legal history, entry by entry, with replies as the Confluent REST Proxy API v2 writes them.
use Rattle.std.specs.Prelude.{ℕ, ℤ, ◌≡◌, ◌⊎◌, List, [], ◌∷◌, ◌++◌, map, Option, Some, None}
use Rattle.std.proofs.Common.{inl, inr}
use Rattle.model.specs.state.Log.{Log, IsLog, TopicPart}
use Rattle.model.specs.state.World.{Key, Format, Consumer, World, nobody}
use Rattle.model.specs.state.Forms.{Showing, Forms}
use Rattle.model.specs.state.Entry.{Act, Call, Event, Reply, Entry}
use Rattle.model.specs.state.Entry.Act.{Delete, Records}
use Rattle.model.specs.state.Entry.Call.{Of}
use Rattle.model.specs.state.Entry.Event.{Looked}
use Rattle.model.specs.state.Entry.Reply.{Done}
use Rattle.model.specs.texts.Texts.{Response, response_of}
use Rattle.model.specs.texts.Texts.Response.{Wanting}
use Rattle.model.specs.step.Produced.{NoneAdded}
use Rattle.model.specs.step.Step.{Acts, Step, left}
use Rattle.model.specs.history.Legal.{Counts}
use Rattle.model.specs.history.Nodes.{Heard, HasNodes}
use Rattle.model.specs.history.Causes.{IsCaused, IsGranted, LegalWith, IsRebalanced}

-- An entry as the code has it, read in the model's terms: an Expired event by its key, and the reply as it is written.
-- `round` counts the looks that the call had before; an entry without call has none. `table` has the canonical texts of
-- the schemas, by id, by which rows were shown.
pub record Noted : Type 0 where
  pub caller : ℕ
  pub moment : ℕ
  pub events : List (Key ⊎ Event)
  pub call : Option Call
  pub round : Option ℕ
  pub table : List (List ℕ)
  pub reply : Option Response

-- the reply of an entry as it is written; an entry without call has none but want of memory
abbrev pub said_of : (advertise : List ℕ) → Forms → Option Call → Option Reply → Option Response
said_of advertise forms call None = None
said_of advertise forms None (Some reply) = Some Wanting
said_of advertise forms (Some call) (Some reply) = Some (response_of advertise forms call reply)

-- the Expired events stand first
abbrev pub events_of : List Key → List Event → List (Key ⊎ Event)
events_of expired events = map inl expired ++ map inr events

-- the last event is the look of a round
abbrev pub EndsInLook : List (Key ⊎ Event) → ℕ → Type 0
EndsInLook events round = (before : List (Key ⊎ Event)) × (events ≡ before ++ inr (Looked round) ∷ [])

-- the round of a call's entry; one without call has none
abbrev pub round_of : ℕ → Option Call → Option ℕ
round_of round None = None
round_of round (Some call) = Some round

-- the code's entry that the model's stands for, where the gateway has this advertised name and the table these schemas
abbrev pub noted_of : (advertise : List ℕ) (table : List (List ℕ)) → Entry → Noted
noted_of advertise table e = record {
  caller = e.caller;
  moment = e.moment;
  events = events_of e.expired e.events;
  call = e.call;
  round = (let t = e.turn in round_of t.round e.call);
  table = table;
  reply = (let t = e.turn in said_of advertise t.forms e.call e.reply);
}

-- these forms show bytes as `shown` does with this table of schemas, which is the list of their canonical texts by id
abbrev pub IsTable : (shown : List (List ℕ) → Format → Option (List ℕ) → Showing) → List (List ℕ) → Forms → Type 0
IsTable shown table forms = (format : Format) (bytes : Option (List ℕ)) → forms.shows format bytes ≡ shown table format bytes

-- the code's entry is the model's as it is written, and what it shows is shown by its own table
pub record IsWritten (advertise : List ℕ) (shown : List (List ℕ) → Format → Option (List ℕ) → Showing) (noted : Noted) (e : Entry) : Type 0 where
  pub same : noted ≡ noted_of advertise noted.table e
  pub shows : (let t = e.turn in IsTable shown noted.table t.forms)

-- entry by entry
abbrev pub AreWritten : (advertise : List ℕ) (shown : List (List ℕ) → Format → Option (List ℕ) → Showing) → List Noted → List Entry → Type 0
AreWritten advertise shown [] [] = Unit {0}
AreWritten advertise shown (noted ∷ rest) (e ∷ entries) = IsWritten advertise shown noted e × AreWritten advertise shown rest entries
AreWritten advertise shown [] (e ∷ entries) = ⊥
AreWritten advertise shown (noted ∷ rest) [] = ⊥

-- Entries of the code stand for one history of the model: it is legal, and entry by entry it is written so.
pub record StandsFor (idle : ℕ) (advertise : List ℕ) (shown : List (List ℕ) → Format → Option (List ℕ) → Showing) (counts : Counts) (held : ℕ) (noted : List Noted) (w : World) (l : Log) : Type 0 where
  pub history : List Entry
  pub legal : LegalWith idle counts held history w l
  pub written : AreWritten advertise shown noted history

-- What is said of a Records call alone; `unfixed` are the partitions of the last answer of a sync that aren't fixed yet.
abbrev pub LooksWell : Counts → Counts → (given unfixed : Option (List TopicPart)) → Consumer → Act → List Event → Type 0
LooksWell before after given unfixed c (Records formats timeout bound) events = IsRebalanced before after given unfixed c events
LooksWell before after given unfixed c act events = Unit {0}

-- the same of the consumer that is found
abbrev pub FindsWell : Counts → Counts → (given unfixed : Option (List TopicPart)) → Option Consumer → Act → List Event → Type 0
FindsWell before after given unfixed None act events = Unit {0}
FindsWell before after given unfixed (Some c) act events = LooksWell before after given unfixed c act events

-- the same of a call
abbrev pub CallsWell : Counts → Counts → (given unfixed : Option (List TopicPart)) → (Key → Option Consumer) → Option Call → List Event → Type 0
CallsWell before after given unfixed found (Some (Of key act)) events = FindsWell before after given unfixed (found key) act events
CallsWell before after given unfixed found _ events = Unit {0}

-- What one step of a shard owes. `before` and `after` are the link's counts, `answered` and `answered2` the codes by which
-- it has answered commits, of which those behind the first are the step's, `last` is its last code, `heard` what it was told last.
pub record Stepped (idle : ℕ) (advertise : List ℕ) (shown : List (List ℕ) → Format → Option (List ℕ) → Showing) (before after : Counts) (answered answered2 : List ℤ) (held held2 : ℕ) (last : ℤ) (heard : Heard) (given unfixed : Option (List TopicPart)) (w : World) (a : Log) (noted : Noted) (b : Log) (w2 : World) : Type 0 where
  pub entry : Entry
  pub written : IsWritten advertise shown noted entry
  pub step : Step idle w a entry b w2
  pub codes : List ℤ
  pub grew : answered2 ≡ answered ++ codes
  pub caused : IsCaused before after last codes w entry
  pub granted : IsGranted before after held held2 w entry
  pub nodes : HasNodes heard entry.reply
  pub looks : CallsWell before after given unfixed (left entry.expired w) entry.call entry.events

-- the consumer is gone after a Delete that was done
abbrev pub live_after : Act → Option Reply → Consumer → Option Consumer
live_after Delete (Some Done) c = None
live_after _ _ c = Some c

-- What one call on a live consumer owes. `c` and `c2` are what the instance stands for before and after it.
pub record Acted (advertise : List ℕ) (shown : List (List ℕ) → Format → Option (List ℕ) → Showing) (table : List (List ℕ)) (key : Key) (now round : ℕ) (act : Act) (before after : Counts) (given unfixed : Option (List TopicPart)) (c : Consumer) (a : Log) (events : List (Key ⊎ Event)) (said : Option Response) (b : Log) (c2 : Consumer) : Type 0 where
  pub forms : Forms
  pub shows : IsTable shown table forms
  pub own : List Event
  pub same : events ≡ events_of [] own
  pub reply : Option Reply
  pub says : said ≡ said_of advertise forms (Some (Of key act)) reply
  pub acts : Acts key now (record { round = round; forms = forms }) act (Some c) a own reply b (live_after act reply c2)
  pub added : NoneAdded a b
  pub looks : LooksWell before after given unfixed c act own

-- entries that stand for a legal history go on to do so by what one step of a shard owes
abbrev pub StandingGoesOn : Type 0
StandingGoesOn =
    (idle : ℕ) (advertise : List ℕ) (shown : List (List ℕ) → Format → Option (List ℕ) → Showing) (counts : Counts) (held : ℕ) (noted : List Noted) (w : World) (l : Log)
    → (counts2 : Counts) (answered answered2 : List ℤ) (held2 : ℕ) (last : ℤ) (heard : Heard) (given unfixed : Option (List TopicPart)) (e : Noted) (l2 : Log) (w2 : World)
    → StandsFor idle advertise shown counts held noted w l
    → Stepped idle advertise shown counts counts2 answered answered2 held held2 last heard given unfixed w l e l2 w2
    → StandsFor idle advertise shown counts2 held2 (noted ++ e ∷ []) w2 l2

-- no entries stand for the beginning: nobody is live, whatever the log
abbrev pub StandingBegins : Type 0
StandingBegins =
    (idle : ℕ) (advertise : List ℕ) (shown : List (List ℕ) → Format → Option (List ℕ) → Showing) (counts : Counts) (l : Log)
    → IsLog l → StandsFor idle advertise shown counts 0 [] nobody l
