-- What breaks a stretch of a consumer's replies, and the law of a stretch: Apache Kafka's consumer shows consecutive records from its position on.
use Rattle.std.specs.Prelude.{ℕ, not, ◌≤◌, ◌≡◌, ◌&&◌, ◌||◌, Bool, true, false, cond, List, [], ◌∷◌, Option, Some, None, ◌++◌}
use Rattle.std.specs.List.{list_any}
use Rattle.model.specs.state.Log.{TopicPart, Log, rows_between}
use Rattle.model.specs.step.Walk.{Item, rows_at}
use Rattle.model.specs.state.World.{Key, is_key, Consumer, World, position_of, nobody}
use Rattle.model.specs.state.Entry.{Call, Act, Event, Reply, Entry, is_of}
use Rattle.model.specs.state.Entry.Call.{Produce, Ask, Of}
use Rattle.model.specs.state.Entry.Act.{Create, Delete, Subscribe, Unsubscribe, Assign, Seek, SeekEdge}
use Rattle.model.specs.state.Entry.Event.{Committed, Rebalanced, Reset, Looked}
use Rattle.model.specs.state.Entry.Reply.{Done, Made}
use Rattle.model.specs.step.Look.{after_events}
use Rattle.model.specs.step.Step.{Step, left, is_among, is_in_force}
use Rattle.model.specs.history.Legal.{Tally, Run, shown_by, Counts, Legal}
pub use Rattle.model.specs.history.Stored.{HasStored}

-- the call was accepted
abbrev pub is_good : Option Reply → Bool
is_good (Some Done) = true
is_good (Some Made) = true
is_good _ = false

-- the subscription is another than the one in force
abbrev pub changes : Option Consumer → List (List ℕ) → Bool
changes None names = true
changes (Some c) names = not (is_in_force c names)

-- calls that move positions; a Subscribe does where it changes something
abbrev pub is_moving : Option Consumer → Act → Bool
is_moving c (Create settings) = true
is_moving c Delete = true
is_moving c (Subscribe names) = changes c names
is_moving c Unsubscribe = true
is_moving c (Assign ats) = true
is_moving c (Seek news) = true
is_moving c (SeekEdge edge ats) = true
is_moving c _ = false

-- the positions of the consumer, which is found so, were moved by its call
abbrev pub is_accepted : Key → Option Consumer → Option Call → Option Reply → Bool
is_accepted key c None reply = false
is_accepted key c (Some (Produce topic batch)) reply = false
is_accepted key c (Some (Ask question)) reply = false
is_accepted key c (Some (Of other act)) reply = is_key key other && (is_moving c act && is_good reply)

-- events that move positions or take partitions away
abbrev pub is_breaking : Event → Bool
is_breaking (Committed places) = false
is_breaking (Rebalanced places) = true
is_breaking (Reset place) = true
is_breaking (Looked round) = false

-- The entry breaks a stretch of the consumer, which it finds so.
abbrev pub breaks : Key → Option Consumer → Entry → Bool
breaks key c e = is_among e.expired key || (is_accepted key c e.call e.reply || (is_of key e.call && list_any is_breaking e.events))

-- events on a consumer, where they are of its own call
abbrev pub after_own : Bool → List Event → Option Consumer → Option Consumer
after_own own events None = None
after_own true events (Some c) = Some (after_events events c)
after_own false events (Some c) = Some c

-- the consumer as the events of an entry leave it
abbrev pub after_all : Key → World → Entry → Option Consumer
after_all key w e = after_own (is_of key e.call) e.events (left e.expired w key)

-- the position behind what the entry breaks, and before its reply moves it
abbrev pub start_of : Key → TopicPart → World → Entry → World → Option ℕ
start_of key at w e v = cond (is_accepted key (left e.expired w key) e.call e.reply) (position_of (v.at key) at) (position_of (after_all key w e) at)

-- the run has no break of the consumer
abbrev pub IsUnbroken : (idle : ℕ) (key : Key) (w : World) (a : Log) (entries : List Entry) (b : Log) (w2 : World) (n : Tally) → Run idle w a entries b w2 n → Type 0
IsUnbroken idle key w a [] b w2 n run = Unit {0}
IsUnbroken idle key w a (e ∷ entries) b w2 n run = (breaks key (w.at key) e ≡ false) × IsUnbroken idle key run.1 run.0 entries b w2 run.3.0 run.3.2

-- the rows shown are those of the log from the position at the start up to that at the end
pub record IsWhole (at : TopicPart) (start : ℕ) (end : Option ℕ) (items : List Item) (l : Log) : Type 0 where
  pub position : ℕ
  pub ends : end ≡ Some position
  pub forth : start ≤ position
  pub rows : rows_at at items ≡ rows_between l at start position

-- Where the partition isn't assigned at the start, it isn't at the end, and nothing of it was shown.
abbrev pub IsStretch : TopicPart → Option ℕ → Option ℕ → List Item → Log → Type 0
IsStretch at None end items l = (end ≡ None) × (rows_at at items ≡ [])
IsStretch at (Some start) end items l = IsWhole at start end items l

-- A history is cut: before an entry, the entry, some entries behind it, and the others.
pub record Cut (idle : ℕ) (begin : World) (first : Log) (before : List Entry) (e : Entry) (entries after : List Entry) (l : Log) (w : World) : Type 0 where
  pub world : World
  pub log : Log
  pub tally0 : Tally
  pub until : Run idle begin first before log world tally0
  pub world1 : World
  pub log1 : Log
  pub opens : Step idle world log e log1 world1
  pub world2 : World
  pub log2 : Log
  pub tally1 : Tally
  pub goes_on : Run idle world1 log1 entries log2 world2 tally1
  pub tally2 : Tally
  pub since : Run idle world2 log2 after l w tally2

-- The law of a stretch: e opens it, with what it breaks, and the entries behind it break nothing.
abbrev pub StretchLaw : (idle : ℕ) (begin : World) (first : Log) (before : List Entry) (e : Entry) (entries after : List Entry) (l : Log) (w : World) → Cut idle begin first before e entries after l w → Type 0
StretchLaw idle begin first before e entries after l w cut =
    (key : Key) (at : TopicPart) → IsUnbroken idle key cut.world1 cut.log1 entries cut.log2 cut.world2 cut.tally1 cut.goes_on
    → IsStretch at (start_of key at cut.world e cut.world1) (position_of (cut.world2.at key) at) (shown_by key (e ∷ entries)) l

-- In every legal history, however it is cut, a stretch of a consumer's replies shows the rows of a partition from the position at its start up to that at its end.
abbrev pub StretchesAreWhole : Type 0
StretchesAreWhole =
    (idle : ℕ) (counts : Counts) (before : List Entry) (e : Entry) (entries after : List Entry) (w : World) (l : Log)
    → (legal : Legal idle counts (before ++ (e ∷ (entries ++ after))) w l)
    → (cut : Cut idle nobody legal.first before e entries after l w) × StretchLaw idle nobody legal.first before e entries after l w cut

-- the same of every run, whatever world it begins from
abbrev pub StretchesOfRunsAreWhole : Type 0
StretchesOfRunsAreWhole =
    (idle : ℕ) (begin : World) (first : Log) (before : List Entry) (e : Entry) (entries after : List Entry) (l : Log) (w : World) (n : Tally)
    → Run idle begin first (before ++ (e ∷ (entries ++ after))) l w n
    → (cut : Cut idle begin first before e entries after l w) × StretchLaw idle begin first before e entries after l w cut
