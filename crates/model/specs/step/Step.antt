-- One step of a shard: the idle consumers are gone first, and then the call does what the Confluent REST Proxy API v2 says of it.
use Rattle.std.specs.Prelude.{ℕ, AllPairs, ◌+◌, ◌≤◌, ◌≡◌, ◌⊎◌, ◌↔◌, Bool, true, false, cond, List, [], IsTrue, Option, Some, None, ◌≢◌}
use Rattle.std.specs.List.{list_any}
use Rattle.std.specs.Ordering.{is_lt, nat_cmp}
use Rattle.std.specs.Cmp.Lexicographic.{slice_cmp}
use Rattle.model.specs.state.Log.{Log, IsLog, Keeps}
use Rattle.model.specs.state.Forms.{IsForms}
use Rattle.model.specs.state.World.{Key, is_key, Consumer, World, IsConsumer, key_bytes}
use Rattle.model.specs.state.Entry.{Call, Event, Reply, Entry, Turn, is_of}
use Rattle.model.specs.state.Entry.Call.{Produce, Ask, Of}
use Rattle.model.specs.state.Entry.Reply.{Want}
use Rattle.model.specs.step.Fixed.{SameCommits}
use Rattle.model.specs.step.Produced.{NoneAdded}
pub use Rattle.model.specs.step.Ends.{IsCut, IsRefused, IsDone, in_mode, as_assigned, at_positions, saved_if, has_name, same_names, is_by_topics, is_in_force, IsWanting, Ends, EndsAlone, EndsIf}
pub use Rattle.model.specs.step.Rules.{IsSet, lacking, IsLacking, IsAssigned, IsSubscribed, AllAssigned, sent_of, first_code, IsCommitted, offsets_of}
pub use Rattle.model.specs.step.Acts.{Live, Gone, Acts}
pub use Rattle.model.specs.step.Asked.{HasTopic, parts_of, IsProduced, IsUnproduced, ProduceEnds, numbers, TellsParts, Tells, IsAnswered}

-- the key is one of these
abbrev pub is_among : List Key → Key → Bool
is_among keys key = list_any (λ k. is_key k key) keys

-- the consumer under a key, once those are gone
abbrev pub left : List Key → World → Key → Option Consumer
left gone w key = cond (is_among gone key) None (w.at key)

-- a consumer that hasn't been used for so long
abbrev pub IsIdle : ℕ → ℕ → Option Consumer → Type 0
IsIdle idle moment None = ⊥
IsIdle idle moment (Some c) = c.last_use + idle ≤ moment

-- what an entry does, between the consumers that the Expired events left and those after it
abbrev pub Does : ℕ → Turn → Option Call → Log → List Event → Option Reply → Log → (Key → Option Consumer) → (Key → Option Consumer) → Type 0
Does moment turn None a events reply b v w =
    (events ≡ []) × ((reply ≡ None) ⊎ (reply ≡ Some Want)) × NoneAdded a b × SameCommits a b × ((key : Key) → w key ≡ v key)
Does moment turn (Some (Produce topic batch)) a events reply b v w =
    (events ≡ []) × ProduceEnds a b topic batch reply × SameCommits a b × ((key : Key) → w key ≡ v key)
Does moment turn (Some (Ask question)) a events reply b v w =
    (events ≡ []) × IsAnswered question a b reply × NoneAdded a b × SameCommits a b × ((key : Key) → w key ≡ v key)
Does moment turn (Some (Of key act)) a events reply b v w =
    Acts key moment turn act (v key) a events reply b (w key) × NoneAdded a b × ((other : Key) → is_key other key ≡ false → w other ≡ v other)

-- the keys rise, and are those of the consumers that are idle
pub record IsExpired (idle moment : ℕ) (w : World) (keys : List Key) : Type 0 where
  pub rise : AllPairs (λ j k. is_lt (slice_cmp nat_cmp (key_bytes j) (key_bytes k)) ≡ true) keys
  pub each : (key : Key) → IsTrue (is_among keys key) ↔ IsIdle idle moment (w.at key)

-- all that a step does, but where memory was wanting
pub record Whole (idle : ℕ) (w : World) (a : Log) (e : Entry) (b : Log) (w2 : World) : Type 0 where
  pub expired : IsExpired idle e.moment w e.expired
  pub does : Does e.moment e.turn e.call a e.events e.reply b (left e.expired w) w2.at

-- memory was wanting, and nothing was done
pub record Starved (w : World) (a : Log) (e : Entry) (b : Log) (w2 : World) : Type 0 where
  pub expired : e.expired ≡ []
  pub events : e.events ≡ []
  pub reply : e.reply ≡ Some Want
  pub added : NoneAdded a b
  pub committed : SameCommits a b
  pub same : (key : Key) → w2.at key ≡ w.at key

-- each consumer is one
abbrev pub IsWorld : World → Type 0
IsWorld w = (key : Key) (c : Consumer) → w.at key ≡ Some c → IsConsumer c

-- From world `w` and log `a` the entry leads to world `w2` and log `b`. The moment doesn't fall.
pub record Step (idle : ℕ) (w : World) (a : Log) (e : Entry) (b : Log) (w2 : World) : Type 0 where
  pub keeps : Keeps a b
  pub log : IsLog b
  pub world : IsWorld w2
  pub forms : (let t = e.turn in IsForms t.forms)
  pub later : w.last ≤ e.moment
  pub last : w2.last ≡ e.moment
  pub does : Whole idle w a e b w2 ⊎ Starved w a e b w2

-- a step of another call leaves a consumer that has been used as it was
abbrev pub NeighboursStay : Type 0
NeighboursStay =
    (idle : ℕ) (w : World) (a : Log) (e : Entry) (b : Log) (w2 : World) (key : Key)
    → Step idle w a e b w2 → is_of key e.call ≡ false → (IsIdle idle e.moment (w.at key) → ⊥) → w2.at key ≡ w.at key

-- one that has been idle for long enough is gone, unless memory was wanting
abbrev pub IdleAreGone : Type 0
IdleAreGone =
    (idle : ℕ) (w : World) (a : Log) (e : Entry) (b : Log) (w2 : World) (key : Key)
    → Step idle w a e b w2 → is_of key e.call ≡ false → IsIdle idle e.moment (w.at key) → e.reply ≢ Some Want → w2.at key ≡ None
