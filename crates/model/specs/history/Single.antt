-- What single answers tell: commits, subscriptions, assignments and looks of the Confluent REST Proxy API v2.
use Rattle.std.specs.Prelude.{ℕ, ℤ, pos, negsuc, ◌≡◌, ◌≢◌, ◌<◌, ◌⊎◌, ◌↔◌, true, false, List, [], ◌∷◌, map, length, All, AllPairs, Contains, Option, Some, None}
use Rattle.std.specs.Ordering.{is_lt, nat_cmp}
use Rattle.std.specs.Cmp.Lexicographic.{slice_cmp}
use Rattle.model.specs.state.Log.{TopicPart, Log}
use Rattle.model.specs.step.Walk.{Place, Item}
use Rattle.model.specs.state.World.{Key, key_bytes, Format, Consumer, World, names_rise, position_in}
use Rattle.model.specs.state.World.Mode.{ByTopics, Assigned}
use Rattle.model.specs.state.Entry.{Event, Reply, Turn, Entry}
use Rattle.model.specs.state.Entry.Act.{Commit, Subscribe, Assign, Delete, Fixed}
use Rattle.model.specs.state.Entry.Event.{Committed}
use Rattle.model.specs.state.Entry.Reply.{Done, Broker, Refused, Want, Shown}
use Rattle.model.specs.step.Fixed.{Commits, SameCommits}
use Rattle.model.specs.step.Look.{IsLook, is_due, is_passed, after_events, HasNone}
use Rattle.model.specs.step.Acts.{Live}
use Rattle.model.specs.step.Step.{Step, sent_of, same_names, is_in_force, lacking}

-- a Commit that is answered as done has committed all that it sent
abbrev pub DoneCommitsAreWhole : Type 0
DoneCommitsAreWhole =
    (key : Key) (moment : ℕ) (turn : Turn) (rows : Option (List Place)) (c : Consumer) (a : Log) (events : List Event) (b : Log) (c2 : Option Consumer)
    → Live key moment turn (Commit rows) c a events (Some Done) b c2 → (events ≡ Committed (sent_of rows c) ∷ []) × Commits key.group (sent_of rows c) a b

-- one whose rows were answered by a code tells fewer rows than it sent
abbrev pub RefusedCommitsAreShort : Type 0
RefusedCommitsAreShort =
    (key : Key) (moment : ℕ) (turn : Turn) (rows : Option (List Place)) (c : Consumer) (a : Log) (events : List Event) (k : ℤ) (b : Log) (c2 : Option Consumer)
    → Live key moment turn (Commit rows) c a events (Some (Broker k)) b c2 → (events ≡ []) ⊎ ((taken : List Place) × (events ≡ Committed taken ∷ []) × (length taken < length (sent_of rows c)))

-- a Commit of a list, or one that was refused, leaves what is unsaved
abbrev pub ListedCommitsSaveNothing : Type 0
ListedCommitsSaveNothing =
    (key : Key) (moment : ℕ) (turn : Turn) (rows : List Place) (c d : Consumer) (a : Log) (events : List Event) (reply : Option Reply) (b : Log)
    → Live key moment turn (Commit (Some rows)) c a events reply b (Some d) → d.unsaved ≡ c.unsaved

-- a Subscribe is refused only where partitions were assigned
abbrev pub SubscribesAreRefusedWhereAssigned : Type 0
SubscribesAreRefusedWhereAssigned =
    (key : Key) (moment : ℕ) (turn : Turn) (names : List (List ℕ)) (c : Consumer) (a : Log) (events : List Event) (code : ℕ) (b : Log) (c2 : Option Consumer)
    → Live key moment turn (Subscribe names) c a events (Some (Refused code)) b c2 → c.mode ≡ Assigned

-- another list comes into force, sorted, and nothing is assigned
abbrev pub SubscribesSetTheList : Type 0
SubscribesSetTheList =
    (key : Key) (moment : ℕ) (turn : Turn) (names : List (List ℕ)) (c d : Consumer) (a : Log) (events : List Event) (b : Log)
    → names ≢ [] → is_in_force c names ≡ false → Live key moment turn (Subscribe names) c a events (Some Done) b (Some d)
    → (same_names names d.topics ≡ true) × names_rise d.topics × (d.mode ≡ ByTopics) × (d.assignment ≡ []) × (d.rotation ≡ 0) × (c.mode ≢ Assigned)

-- a Delete without an auto commit that is due commits nothing
abbrev pub DeletesCommitWhereDue : Type 0
DeletesCommitWhereDue =
    (key : Key) (moment : ℕ) (turn : Turn) (c : Consumer) (a : Log) (events : List Event) (reply : Option Reply) (b : Log) (c2 : Option Consumer)
    → is_due c 0 ≡ false → Live key moment turn Delete c a events reply b c2 → SameCommits a b

-- what is assigned is what was listed
abbrev pub AssignsTheListed : Type 0
AssignsTheListed =
    (key : Key) (moment : ℕ) (turn : Turn) (ats : List TopicPart) (c d : Consumer) (a : Log) (events : List Event) (b : Log)
    → Live key moment turn (Assign ats) c a events (Some Done) b (Some d) → (at : TopicPart) → Contains ats at ↔ Contains (map (λ place. place.at) d.assignment) at

-- consumers expire in the order of their keys
abbrev pub ExpiredAreInOrder : Type 0
ExpiredAreInOrder =
    (idle : ℕ) (w : World) (a : Log) (e : Entry) (b : Log) (w2 : World)
    → Step idle w a e b w2 → e.reply ≢ Some Want → AllPairs (λ j k. is_lt (slice_cmp nat_cmp (key_bytes j) (key_bytes k)) ≡ true) e.expired

-- the codes that an auto commit passes over
abbrev pub ThreeCodesArePassedOver : Type 0
ThreeCodesArePassedOver =
    (is_passed (pos 22) ≡ true) × (is_passed (pos 25) ≡ true) × (is_passed (pos 27) ≡ true) × (is_passed (pos 3) ≡ false) × (is_passed (pos 16) ≡ false) × (is_passed (pos 0) ≡ false) × (is_passed (negsuc 0) ≡ false)

-- the rows that a look tells as committed are those that it committed, or none
abbrev pub LooksTellWhatTheyCommit : Type 0
LooksTellWhatTheyCommit =
    (key : Key) (moment : ℕ) (turn : Turn) (timeout bound : Option ℕ) (c : Consumer) (a : Log) (events : List Event) (reply : Option Reply) (b : Log) (c2 : Option Consumer) (rows : List Place)
    → (look : IsLook key moment turn timeout bound c a events reply b c2) → look.saved ≡ Some rows → (rows ≡ []) ⊎ Commits key.group rows a b

-- a rebalance is of a consumer by topics
abbrev pub RebalancesAreByTopics : Type 0
RebalancesAreByTopics =
    (key : Key) (moment : ℕ) (turn : Turn) (timeout bound : Option ℕ) (c : Consumer) (a : Log) (events : List Event) (reply : Option Reply) (b : Log) (c2 : Option Consumer) (places : List Place)
    → (look : IsLook key moment turn timeout bound c a events reply b c2) → look.placed ≡ Some places → c.mode ≡ ByTopics

-- a due commit that was refused as a whole by 27 is no answer
abbrev pub PassedCodesAreNoAnswer : Type 0
PassedCodesAreNoAnswer =
    (key : Key) (moment : ℕ) (turn : Turn) (timeout bound : Option ℕ) (c : Consumer) (a : Log) (b : Log) (c2 : Option Consumer)
    → is_due c turn.round ≡ true → IsLook key moment turn timeout bound c a [] (Some (Broker (pos 27))) b c2 → ⊥

-- an Assign is refused for what the log lacks first, or since topics are subscribed
abbrev pub AssignsAreRefusedForCause : Type 0
AssignsAreRefusedForCause =
    (key : Key) (moment : ℕ) (turn : Turn) (ats : List TopicPart) (c : Consumer) (a : Log) (events : List Event) (code : ℕ) (b : Log) (c2 : Option Consumer)
    → Live key moment turn (Assign ats) c a events (Some (Refused code)) b c2 → ((c.mode ≡ ByTopics) × (code ≡ 40903)) ⊎ ((c.mode ≢ ByTopics) × (lacking a ats ats ≡ Some code))

-- and so is a question for committed offsets
abbrev pub CommittedIsRefusedForCause : Type 0
CommittedIsRefusedForCause =
    (key : Key) (moment : ℕ) (turn : Turn) (ats : List TopicPart) (c : Consumer) (a : Log) (events : List Event) (code : ℕ) (b : Log) (c2 : Option Consumer)
    → Live key moment turn (Fixed ats) c a events (Some (Refused code)) b c2 → lacking a ats ats ≡ Some code

-- a partition that wasn't assigned begins at the offset that the group has committed
abbrev pub AssignsReadCommits : Type 0
AssignsReadCommits =
    (key : Key) (moment : ℕ) (turn : Turn) (ats : List TopicPart) (c d : Consumer) (a : Log) (events : List Event) (b : Log)
    → Live key moment turn (Assign ats) c a events (Some Done) b (Some d)
    → All (λ (place : Place). position_in c.assignment place.at ≡ None → (offset : ℕ) → a.committed key.group place.at ≡ Some offset → place.position ≡ offset) d.assignment

-- a reply without rows is of partitions that at one log have no row at or above the position
abbrev pub EmptyRepliesAreTrue : Type 0
EmptyRepliesAreTrue =
    (key : Key) (moment : ℕ) (turn : Turn) (timeout bound : Option ℕ) (c : Consumer) (a : Log) (events : List Event) (format : Format) (b : Log) (c2 : Option Consumer)
    → (look : IsLook key moment turn timeout bound c a events (Some (Shown format [])) b c2) → HasNone a b (after_events events c).assignment (0 < length look.looked)
