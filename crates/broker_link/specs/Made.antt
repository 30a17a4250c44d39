-- A link that was just made: its topics are these, each with so many empty partitions.
use Rattle.std.specs.Prelude.{◌≢◌, ◌<◌, ◌^◌, ℕ, pos, List, [], map, replicate, All, AllPairs, None}
use Rattle.model.specs.state.Log.{Part, Topic, Log}
use Rattle.broker_link.specs.Causes.{Counts}
use Rattle.broker_link.specs.Stands.{Produces}

abbrev pub empty_part : Part
empty_part = record { start = 0; end = 0; rows = [] }

abbrev pub empty_topic : List ℕ × ℕ → Topic
empty_topic plan = record { name = plan.0; parts = replicate plan.1 empty_part }

-- the topics, each empty, with nothing committed
abbrev pub empty_log : List (List ℕ × ℕ) → Log
empty_log plans = record { topics = map empty_topic plans; committed = λ group at. None; others = 0 }

abbrev pub no_counts : Counts
no_counts = record { faults = 0; refusals = 0; sent = 0; polls = 0; beats = 0; last_code = pos 0 }

abbrev pub none_asked : Produces
none_asked = record { calls = 0; moment = 0 }

-- different topics, with partitions that an i32 can number
pub record ArePlans (plans : List (List ℕ × ℕ)) : Type 0 where
  pub apart : AllPairs (λ p q. p.0 ≢ q.0) plans
  pub few : All (λ p. p.1 < 2 ^ 31) plans
