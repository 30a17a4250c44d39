-- What one or more calls of a link leave that store and commit nothing, and ask it no produce.
use Rattle.std.specs.Prelude.{◌≡◌}
use Rattle.model.specs.state.Log.{Keeps, IsLog}
use Rattle.model.specs.step.Fixed.{SameCommits}
use Rattle.model.specs.step.Produced.{NoneAdded}
use Rattle.broker_link.specs.Replies.{CountsKept}
use Rattle.broker_link.specs.Stands.{Goes, Stand}

-- The link tells as before, a later log keeps the earlier one, no count falls, and no produce was asked.
pub record Passes (a b : Stand) : Type 0 where
  pub telling : a.tells → b.tells
  pub keeps : a.tells → Keeps a.log b.log
  pub added : a.tells → NoneAdded a.log b.log
  pub commits : a.tells → SameCommits a.log b.log
  pub is_log : a.tells → IsLog a.log → IsLog b.log
  pub plainly : a.plain → b.plain
  pub turning : a.in_turn → b.in_turn
  pub alone : a.plain → (let l = b.log in l.others) ≡ (let l = a.log in l.others)
  pub asked : b.produces ≡ a.produces
  pub counts : CountsKept a.counts b.counts

-- The link went on, nothing was committed on it, and it was asked no produce.
pub record Consults (a b : Stand) : Type 0 where
  pub goes : Goes a b
  pub commits : a.tells → SameCommits a.log b.log
  pub asked : b.produces ≡ a.produces
