-- Partitions in order, each once.
use Rattle.std.specs.Prelude.{◌≡◌, ◌↔◌, Bool, true, false, cond, List, [], ◌∷◌, AllPairs, Contains}
use Rattle.model.specs.state.Log.{TopicPart, is_at}
use Rattle.model.specs.state.World.{is_before}

-- the partitions rise
abbrev pub AreRising : List TopicPart → Type 0
AreRising ats = AllPairs (λ x y. is_before x y ≡ true) ats

-- put before the first that isn't before it, unless that is the same
abbrev pub put_at : TopicPart → List TopicPart → List TopicPart
put_at at [] = at ∷ []
put_at at (other ∷ others) = cond (is_before other at) (other ∷ put_at at others) (cond (is_at other at) (other ∷ others) (at ∷ other ∷ others))

-- the first of these is that partition
abbrev pub begins_with : TopicPart → List TopicPart → Bool
begins_with at [] = false
begins_with at (other ∷ others) = is_at other at

-- those listed, rising
pub record AreSorted (ats sorted : List TopicPart) : Type 0 where
  pub same : (at : TopicPart) → Contains ats at ↔ Contains sorted at
  pub order : AreRising sorted
