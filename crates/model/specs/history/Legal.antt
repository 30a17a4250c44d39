-- Runs of steps, and legal histories: sequential histories in the sense of Herlihy and Wing's linearizability, whose refusals a link's counts pay.
use Rattle.std.specs.Prelude.{ℕ, AllPairs, IsTrue, IsSome, ◌↔◌, ◌+◌, ◌≤◌, ◌≡◌, nat_lt, Bool, true, false, List, [], ◌∷◌, ◌++◌, length, Option, Some, None, count_by}
use Rattle.std.specs.List.{list_any}
use Rattle.model.specs.state.Log.{Log, IsLog}
use Rattle.model.specs.step.Walk.{Item}
use Rattle.model.specs.state.World.{Key, is_key, Consumer, World, nobody}
use Rattle.model.specs.state.Entry.{Call, Event, Entry, Reply, Placed, shown_to}
use Rattle.model.specs.state.Entry.Act.{Records}
use Rattle.model.specs.state.Entry.Call.{Of}
use Rattle.model.specs.state.Entry.Event.{Committed, Rebalanced, Reset, Looked}
use Rattle.model.specs.state.Entry.Placed.{Stored, Failed}
use Rattle.model.specs.state.Entry.Reply.{Answers, Broker, LinkFault}
use Rattle.model.specs.step.Step.{Step, left, is_by_topics}

-- the record wasn't stored
abbrev pub is_failed : Placed → Bool
is_failed (Stored partition offset) = false
is_failed (Failed partition code) = true

-- the link failed
abbrev pub is_fault : Option Reply → Bool
is_fault (Some LinkFault) = true
is_fault _ = false

-- the broker refused the call, or the partition of a record
abbrev pub is_refusal : Option Reply → Bool
is_refusal (Some (Broker code)) = true
is_refusal (Some (Answers answers)) = list_any is_failed answers
is_refusal _ = false

-- 1 where it holds
abbrev pub one_if : Bool → ℕ
one_if true = 1
one_if false = 0

-- what entries owe to the counts of a link
pub record Tally : Type 0 where
  pub faults : ℕ
  pub refusals : ℕ
  pub short : ℕ
  pub placed : ℕ
  pub looks : ℕ

-- nothing owed
abbrev pub no_tally : Tally
no_tally = record { faults = 0; refusals = 0; short = 0; placed = 0; looks = 0 }

-- what two owe together
abbrev pub plus : Tally → Tally → Tally
plus s t = record { faults = s.faults + t.faults; refusals = s.refusals + t.refusals; short = s.short + t.short; placed = s.placed + t.placed; looks = s.looks + t.looks }

-- a Committed event of a Records call that lacks a row; a Rebalanced event; a Looked event of a consumer by topics
abbrev pub event_tally : Consumer → Event → Tally
event_tally c (Committed rows) = record { faults = 0; refusals = 0; short = one_if (nat_lt (length rows) (length c.assignment)); placed = 0; looks = 0 }
event_tally c (Rebalanced places) = record { faults = 0; refusals = 0; short = 0; placed = 1; looks = 0 }
event_tally c (Reset place) = no_tally
event_tally c (Looked round) = record { faults = 0; refusals = 0; short = 0; placed = 0; looks = one_if (is_by_topics c.mode) }

-- what the events of a look owe, on the consumer before them
abbrev pub events_tally : Option Consumer → List Event → Tally
events_tally None events = no_tally
events_tally (Some c) [] = no_tally
events_tally (Some c) (event ∷ events) = plus (event_tally c event) (events_tally (Some c) events)

-- events are counted in a Records call alone
abbrev pub call_tally : (Key → Option Consumer) → Option Call → List Event → Tally
call_tally found (Some (Of key (Records formats timeout bound))) events = events_tally (found key) events
call_tally found _ events = no_tally

-- what an entry owes, in the world before it
abbrev pub entry_tally : World → Entry → Tally
entry_tally w e = plus (record { faults = one_if (is_fault e.reply); refusals = one_if (is_refusal e.reply); short = 0; placed = 0; looks = 0 }) (call_tally (left e.expired w) e.call e.events)

-- the entries lead from a world and log to a world and log, one step after another
abbrev pub Run : ℕ → World → Log → List Entry → Log → World → Tally → Type 0
Run idle w a [] b w2 n = (b ≡ a) × (w2 ≡ w) × (n ≡ no_tally)
Run idle w a (e ∷ entries) b w2 n =
    (m : Log) × (v : World) × Step idle w a e m v × ((k : Tally) × (n ≡ plus (entry_tally w e) k) × Run idle v m entries b w2 k)

-- what a link counts
pub record Counts : Type 0 where
  pub faults : ℕ
  pub refusals : ℕ
  pub polls : ℕ
  pub beats : ℕ

-- the link's counts reach what is owed
pub record IsPaid (n : Tally) (counts : Counts) : Type 0 where
  pub faults_paid : n.faults ≤ counts.faults
  pub refusals_paid : n.refusals ≤ counts.refusals
  pub short_paid : n.short ≤ counts.refusals
  pub placed_paid : n.placed ≤ counts.polls + counts.refusals
  pub looks_paid : n.looks ≤ counts.beats + counts.polls + counts.refusals

-- the history leads from no consumers to this world and log
pub record Legal (idle : ℕ) (counts : Counts) (history : List Entry) (w : World) (l : Log) : Type 0 where
  pub first : Log
  pub log : IsLog first
  pub tally : Tally
  pub run : Run idle nobody first history l w tally
  pub paid : IsPaid tally counts

-- the keys are those of the consumers that are live, each once
pub record AreLive (w : World) (keys : List Key) : Type 0 where
  pub apart : AllPairs (λ j k. is_key j k ≡ false) keys
  pub each : (key : Key) → IsTrue (list_any (λ k. is_key k key) keys) ↔ IsSome (w.at key)

-- A run from an open desk: what the counts rose by pays it, but that each consumer that was live may have one Rebalanced more.
pub record Ran (idle : ℕ) (before after : Counts) (w : World) (a : Log) (entries : List Entry) (b : Log) (w2 : World) : Type 0 where
  pub tally : Tally
  pub run : Run idle w a entries b w2 tally
  pub keys : List Key
  pub live : AreLive w keys
  pub faults_paid : before.faults + tally.faults ≤ after.faults
  pub refusals_paid : before.refusals + tally.refusals ≤ after.refusals
  pub short_paid : before.refusals + tally.short ≤ after.refusals
  pub placed_paid : before.polls + before.refusals + tally.placed ≤ after.polls + after.refusals + length keys
  pub looks_paid : before.beats + before.polls + before.refusals + tally.looks ≤ after.beats + after.polls + after.refusals

-- what the replies of the entries show to a consumer, in order
abbrev pub shown_by : Key → List Entry → List Item
shown_by key [] = []
shown_by key (e ∷ entries) = shown_to key e ++ shown_by key entries

-- a legal history goes on by a step whose events and reply the link's counts pay for
abbrev pub HistoriesGoOn : Type 0
HistoriesGoOn =
    (idle : ℕ) (counts : Counts) (history : List Entry) (w : World) (l : Log) (e : Entry) (l2 : Log) (w2 : World) (counts2 : Counts)
    → (legal : Legal idle counts history w l) → Step idle w l e l2 w2
    → IsPaid (plus legal.tally (entry_tally w e)) counts2 → Legal idle counts2 (history ++ e ∷ []) w2 l2

-- no more entries are answered by a fault of the link than it counts
abbrev pub FaultsArePaid : Type 0
FaultsArePaid =
    (idle : ℕ) (counts : Counts) (history : List Entry) (w : World) (l : Log)
    → Legal idle counts history w l → count_by (λ (e : Entry). is_fault e.reply) history ≤ counts.faults

-- no more are answered by a broker's code, or with an error in a record, than the link counts refusals
abbrev pub RefusalsArePaid : Type 0
RefusalsArePaid =
    (idle : ℕ) (counts : Counts) (history : List Entry) (w : World) (l : Log)
    → Legal idle counts history w l → count_by (λ (e : Entry). is_refusal e.reply) history ≤ counts.refusals

-- the last moment of a world doesn't fall over a run
abbrev pub MomentsRise : Type 0
MomentsRise =
    (idle : ℕ) (w : World) (a : Log) (entries : List Entry) (b : Log) (w2 : World) (n : Tally) → Run idle w a entries b w2 n → w.last ≤ w2.last
