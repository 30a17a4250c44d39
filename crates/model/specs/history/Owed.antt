-- What one step of a shard owes, as it shows in its entry: the codes of Apache Kafka's OffsetCommit, the partitions of its SyncGroup, and the schemas of the rows shown.
use Rattle.std.specs.Prelude.{ℕ, ℤ, ◌≡◌, ◌≢◌, ◌⊎◌, ◌↔◌, true, List, [], ◌++◌, map, Contains, IsTrue, Option, Some}
use Rattle.model.specs.state.Log.{Log, TopicPart}
use Rattle.model.specs.step.Walk.{Place}
use Rattle.model.specs.state.World.{Key, Format, Consumer, World}
use Rattle.model.specs.state.Forms.{Showing}
use Rattle.model.specs.state.Entry.Act.{Records}
use Rattle.model.specs.state.Entry.Call.{Of}
use Rattle.model.specs.state.Entry.Reply.{Broker, Want}
use Rattle.model.specs.step.Look.{is_listed}
use Rattle.model.specs.step.Step.{left}
use Rattle.model.specs.history.Legal.{Counts}
use Rattle.model.specs.history.Nodes.{Heard}
use Rattle.model.specs.history.Causes.{by_code, first_of, first_unpassed, is_commit, is_records, placed_in}
use Rattle.model.specs.history.Noted.{IsTable, Noted, Stepped}

-- a Commit is answered by the first code that isn't 0 among those by which the link's list grew
abbrev pub StepsTellTheirCodes : Type 0
StepsTellTheirCodes =
    (idle : ℕ) (advertise : List ℕ) (shown : List (List ℕ) → Format → Option (List ℕ) → Showing) (before after : Counts) (answered codes : List ℤ) (held held2 : ℕ) (last : ℤ) (heard : Heard) (given unfixed : Option (List TopicPart)) (w : World) (a : Log) (noted : Noted) (b : Log) (w2 : World)
    (s : Stepped idle advertise shown before after answered (answered ++ codes) held held2 last heard given unfixed w a noted b w2)
    → is_commit noted.call ≡ true → codes ≢ [] → (let e = s.entry in e.reply ≢ Some Want → e.reply ≡ Some (by_code (first_of codes)))

-- a Records call is answered by the first of them that an auto commit doesn't pass over
abbrev pub StepsPassOverNoOther : Type 0
StepsPassOverNoOther =
    (idle : ℕ) (advertise : List ℕ) (shown : List (List ℕ) → Format → Option (List ℕ) → Showing) (before after : Counts) (answered codes : List ℤ) (held held2 : ℕ) (last : ℤ) (heard : Heard) (given unfixed : Option (List TopicPart)) (w : World) (a : Log) (noted : Noted) (b : Log) (w2 : World) (code : ℤ)
    (s : Stepped idle advertise shown before after answered (answered ++ codes) held held2 last heard given unfixed w a noted b w2)
    → is_records noted.call ≡ true → first_unpassed codes ≡ Some code → (let e = s.entry in e.reply ≢ Some Want → e.reply ≡ Some (Broker code))

-- a code that is answered is the link's last, or one of those
abbrev pub StepsAnswerTheLinksCodes : Type 0
StepsAnswerTheLinksCodes =
    (idle : ℕ) (advertise : List ℕ) (shown : List (List ℕ) → Format → Option (List ℕ) → Showing) (before after : Counts) (answered codes : List ℤ) (held held2 : ℕ) (last : ℤ) (heard : Heard) (given unfixed : Option (List TopicPart)) (w : World) (a : Log) (noted : Noted) (b : Log) (w2 : World) (code : ℤ)
    (s : Stepped idle advertise shown before after answered (answered ++ codes) held held2 last heard given unfixed w a noted b w2)
    → (let e = s.entry in e.reply ≡ Some (Broker code)) → (code ≡ last) ⊎ Contains codes code

-- partitions that a read assigns are those of the lane's last answer to a sync whose topics are subscribed
abbrev pub StepsShareWhatWasGiven : Type 0
StepsShareWhatWasGiven =
    (idle : ℕ) (advertise : List ℕ) (shown : List (List ℕ) → Format → Option (List ℕ) → Showing) (before after : Counts) (answered answered2 : List ℤ) (held held2 : ℕ) (last : ℤ) (heard : Heard) (given unfixed : Option (List TopicPart)) (w : World) (a : Log) (noted : Noted) (b : Log) (w2 : World)
    (s : Stepped idle advertise shown before after answered answered2 held held2 last heard given unfixed w a noted b w2) (key : Key) (formats : List Format) (timeout bound : Option ℕ) (c : Consumer) (places : List Place)
    → noted.call ≡ Some (Of key (Records formats timeout bound))
    → (let e = s.entry in left e.expired w key ≡ Some c → placed_in e.events ≡ Some places → places ≢ []
    → (ats : List TopicPart) × (given ≡ Some ats) × ((at : TopicPart) → Contains (map (λ place. place.at) places) at ↔ (Contains ats at × IsTrue (is_listed c.topics at.topic))))

-- rows are shown by the table of schemas that the entry has
abbrev pub StepsShowByTheirTable : Type 0
StepsShowByTheirTable =
    (idle : ℕ) (advertise : List ℕ) (shown : List (List ℕ) → Format → Option (List ℕ) → Showing) (before after : Counts) (answered answered2 : List ℤ) (held held2 : ℕ) (last : ℤ) (heard : Heard) (given unfixed : Option (List TopicPart)) (w : World) (a : Log) (noted : Noted) (b : Log) (w2 : World)
    (s : Stepped idle advertise shown before after answered answered2 held held2 last heard given unfixed w a noted b w2) (format : Format) (bytes : Option (List ℕ))
    → (let e = s.entry in let t = e.turn in let f = t.forms in f.shows format bytes ≡ shown noted.table format bytes)
