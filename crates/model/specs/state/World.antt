-- Consumers of the Confluent REST Proxy API v2, and the world of a shard.
use Rattle.std.specs.List.{list_any}
use Rattle.std.specs.Ordering.{is_lt, nat_cmp}
use Rattle.std.specs.Cmp.Lexicographic.{slice_cmp}
use Rattle.std.specs.Prelude.{ℕ, nat_lt, ◌<◌, ◌^◌, All, ◌++◌, AllPairs, ◌+◌, ◌≤◌, ◌≡◌, ◌&&◌, Bool, true, false, cond, List, [], ◌∷◌, length, filter, bytes_eq, Option, Some, None}
use Rattle.model.specs.state.Log.{TopicPart, is_at, after}
use Rattle.model.specs.step.Walk.{Place, Item, rows_at}

-- a consumer's group and instance
pub record Key : Type 0 where
  pub group : List ℕ
  pub instance : List ℕ

-- the same consumer
abbrev pub is_key : Key → Key → Bool
is_key x y = bytes_eq x.group y.group && bytes_eq x.instance y.instance

-- how keys and values are shown: `format` of an instance
pub data Format : Type 0 where
  Binary Json Avro : Format

-- the start or the end of a partition: `auto.offset.reset` earliest or latest
pub data Edge : Type 0 where
  Start End : Edge

-- nothing, a subscription to topics, or partitions that were assigned
pub data Mode : Type 0 where
  Unset ByTopics Assigned : Mode

-- format, auto.offset.reset, auto.commit.enable, fetch.min.bytes and consumer.request.timeout.ms of an instance
pub record Settings : Type 0 where
  pub format : Format
  pub reset : Edge
  pub auto_commit : Bool
  pub min_bytes : ℕ
  pub timeout_ms : ℕ

-- `topics` is the subscription, `rotation` the place in the assignment at which the next walk begins; `unsaved` says that an auto commit has something to save
pub record Consumer : Type 0 where
  pub settings : Settings
  pub mode : Mode
  pub topics : List (List ℕ)
  pub assignment : List Place
  pub rotation : ℕ
  pub unsaved : Bool
  pub last_use : ℕ

-- by the bytes of the topic, and then by number
abbrev pub is_before : TopicPart → TopicPart → Bool
is_before x y = cond (bytes_eq x.topic y.topic) (nat_lt x.partition y.partition) (is_lt (slice_cmp nat_cmp x.topic y.topic))

-- the places rise
abbrev pub IsInOrder : List Place → Type 0
IsInOrder places = AllPairs (λ p q. is_before p.at q.at ≡ true) places

-- the names rise by their bytes, so none is repeated
abbrev pub names_rise : List (List ℕ) → Type 0
names_rise names = AllPairs (λ x y. is_lt (slice_cmp nat_cmp x y) ≡ true) names

-- each position is a number from 0 to 2^63 - 1
abbrev pub IsLow : List Place → Type 0
IsLow places = All (λ place. place.position < 2 ^ 63) places

-- what holds of every consumer's state
pub record IsConsumer (c : Consumer) : Type 0 where
  pub order : IsInOrder c.assignment
  pub low : IsLow c.assignment
  pub names : names_rise c.topics

-- the bytes by which keys are ordered
abbrev pub key_bytes : Key → List ℕ
key_bytes key = key.group ++ 0 ∷ key.instance

-- each partition is assigned once at most
abbrev pub IsApart : List Place → Type 0
IsApart places = (at : TopicPart) → length (filter (λ place. is_at at place.at) places) ≤ 1

-- the consumers by their keys, and the last moment
pub record World : Type 0 where
  pub at : Key → Option Consumer
  pub last : ℕ

-- no consumer, at moment 0
abbrev pub nobody : World
nobody = record { at = λ key. None; last = 0 }

-- what a Create makes
abbrev pub fresh : Settings → ℕ → Consumer
fresh settings moment = record { settings = settings; mode = Unset; topics = []; assignment = []; rotation = 0; unsaved = false; last_use = moment }

-- the consumer is used
abbrev pub touched : ℕ → Consumer → Consumer
touched moment c = record { settings = c.settings; mode = c.mode; topics = c.topics; assignment = c.assignment; rotation = c.rotation; unsaved = c.unsaved; last_use = moment }

-- the position there
abbrev pub position_in : List Place → TopicPart → Option ℕ
position_in [] at = None
position_in (place ∷ places) at = cond (is_at at place.at) (Some place.position) (position_in places at)

-- the position of a consumer there, if it is live and the partition is assigned
abbrev pub position_of : Option Consumer → TopicPart → Option ℕ
position_of None at = None
position_of (Some c) at = position_in c.assignment at

-- one position set
abbrev pub with_position : Place → List Place → List Place
with_position new [] = []
with_position new (place ∷ places) = cond (is_at new.at place.at) new place ∷ with_position new places

-- each partition once, at its first place; `before` are those that stood before
abbrev pub once_first : List Place → List Place → List Place
once_first before [] = []
once_first before (row ∷ rows) = cond (list_any (λ other. is_at row.at other.at) before) (once_first before rows) (row ∷ once_first (row ∷ before) rows)

-- each partition once, at its first place
abbrev pub once_parts : List TopicPart → List TopicPart → List TopicPart
once_parts before [] = []
once_parts before (at ∷ ats) = cond (list_any (is_at at) before) (once_parts before ats) (at ∷ once_parts (at ∷ before) ats)

-- positions set in turn, so the last of a repeat counts
abbrev pub with_positions : List Place → List Place → List Place
with_positions [] places = places
with_positions (new ∷ news) places = with_positions news (with_position new places)

-- each partition once, at its first place, with its last position
abbrev pub once_each : List Place → List Place
once_each rows = with_positions rows (once_first [] rows)

-- each position behind the rows taken from there
abbrev pub moved_places : List Item → List Place → List Place
moved_places items [] = []
moved_places items (place ∷ places) = record { at = place.at; position = after (rows_at place.at items) place.position } ∷ moved_places items places

-- the place in the list behind that of the partition
abbrev pub place_behind : TopicPart → List Place → ℕ
place_behind at [] = 0
place_behind at (place ∷ places) = cond (is_at at place.at) 1 (place_behind at places + 1)

-- the partition of the last item
abbrev pub last_at : List Item → Option TopicPart
last_at [] = None
last_at (item ∷ []) = Some item.at
last_at (item ∷ other ∷ items) = last_at (other ∷ items)
