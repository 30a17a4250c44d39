-- How a link in memory gathers what it tells of its topics.
use Rattle.std.specs.Prelude.{Bool, true, false, ◌⊎◌, ℕ, pos, ◌≡◌, cond, List, [], ◌∷◌, All, Contains, bytes_eq, Option, Some, None}
use Rattle.std.specs.Ordering.{is_lt, nat_cmp}
use Rattle.std.specs.Cmp.Lexicographic.{slice_cmp}
use Rattle.model.specs.state.Log.{Topic}
use Rattle.broker_link.specs.Metadata.{IsInfo}
use Rattle.broker_link.specs.declared.link.PartInfo.{PartInfo}
use Rattle.broker_link.specs.declared.link.TopicInfo.{TopicInfo}

abbrev pub is_below : List ℕ → TopicInfo → Bool
is_below name y = is_lt (slice_cmp nat_cmp name y.name)

-- the one node leads it and has it
pub record IsOnNodeOne (part : PartInfo) : Type 0 where
  pub leader : part.leader ≡ pos 1
  pub replicas : part.replicas ≡ pos 1 ∷ []
  pub in_sync : part.in_sync ≡ pos 1 ∷ []

-- each partition of a topic
abbrev pub AreOnNodeOne : TopicInfo → Type 0
AreOnNodeOne info = All IsOnNodeOne info.parts

-- put before the first of a greater name
abbrev pub insert_info : TopicInfo → List TopicInfo → List TopicInfo
insert_info x [] = x ∷ []
insert_info x (y ∷ ys) = cond (is_below x.name y) (x ∷ y ∷ ys) (y ∷ insert_info x ys)

abbrev pub wanted : Option (List ℕ) → Topic → Bool
wanted None t = true
wanted (Some name) t = bytes_eq t.name name

-- the names rise
abbrev pub Up : List TopicInfo → Type 0
Up [] = Unit {0}
Up (y ∷ ys) = All (λ z. is_below y.name z ≡ true) ys × Up ys

-- what was gathered of these topics
pub record Gathered (name : Option (List ℕ)) (topics : List Topic) (infos : List TopicInfo) : Type 0 where
  pub up : Up infos
  pub each : All (λ info. (topic : Topic) × Contains topics topic × (wanted name topic ≡ true) × IsInfo topic info) infos
  pub all : (topic : Topic) → Contains topics topic → wanted name topic ≡ true → (info : TopicInfo) × Contains infos info × IsInfo topic info

-- one topic more
abbrev pub TakesIn : Option (List ℕ) → Topic → List TopicInfo → List TopicInfo → Type 0
TakesIn name topic old new = ((wanted name topic ≡ false) × (new ≡ old)) ⊎ ((wanted name topic ≡ true) × ((info : TopicInfo) × IsInfo topic info × (new ≡ insert_info info old)))
