-- One look of a Records call on a live consumer: Confluent REST Proxy API v2, consumer records.
use Rattle.std.specs.List.{list_any}
use Rattle.std.specs.Prelude.{ℤ, ℕ, ◌*◌, ◌<◌, ◌≤◌, ◌≡◌, ◌≢◌, ◌⊎◌, Bool, true, false, List, [], ◌∷◌, ◌++◌, map, length, bytes_eq, All, IsSome, IsTrue, Option, Some, None}
use Rattle.model.specs.state.Log.{TopicPart, Row, Log, IsLog, Keeps}
use Rattle.model.specs.state.Forms.{reason_of}
use Rattle.model.specs.step.Walk.{Place, Lot, Item, Walked, unwalked, walk, turned, bytes_of}
use Rattle.model.specs.state.World.{Format, Edge, Key, IsInOrder, Consumer, touched}
use Rattle.model.specs.state.World.Format.{Binary, Json, Avro}
use Rattle.model.specs.state.Entry.{Event, Reply, Turn, IsLinks}
use Rattle.model.specs.state.Entry.Event.{Committed, Rebalanced, Reset, Looked}
use Rattle.model.specs.state.Entry.Reply.{Shown, Unread, Refused, Broker, Want}
use Rattle.model.specs.step.Fixed.{Resets, SameCommits, Fixes}
use Rattle.model.specs.state.World.Mode.{ByTopics}
pub use Rattle.model.specs.step.Events.{with_assignment, after_event, after_events, at_most, rotation_behind, or_taken, moved}
pub use Rattle.model.specs.step.Hand.{HasNone, AtHand, reads_in}
pub use Rattle.model.specs.step.Saves.{is_due, Saves, is_passed, is_passed_reply, first_other, IsUnsaved}

-- the rows taken are enough for a reply
abbrev pub IsReady : ℕ → Bool → Walked → Type 0
IsReady min_bytes last walked =
    ((0 < length walked.taken) × ((min_bytes ≤ bytes_of walked.taken) ⊎ ((walked.stopped ≡ true) ⊎ (IsSome walked.unread ⊎ (last ≡ true)))))
    ⊎ ((walked.taken ≡ []) × (walked.unread ≡ None) × (last ≡ true))

-- nothing was taken, and a row was met that doesn't read: it is named, with its reason, and nothing moves
pub record IsUnread (moment : ℕ) (reason : Format → Row → Option ℕ) (c : Consumer) (walked : Walked) (looked : List Event) (reply : Option Reply) (c2 : Option Consumer) : Type 0 where
  pub item : Item
  pub taken : walked.taken ≡ []
  pub met : walked.unread ≡ Some item
  pub marks : looked ≡ []
  pub number : ℕ
  pub why : reason c.settings.format item.row ≡ Some number
  pub says : reply ≡ Some (Unread item number)
  pub left : c2 ≡ Some (touched moment c)

-- the rows taken are the reply, and the consumer moves behind them; at the last look the reply may have none
pub record IsShown (moment round wait : ℕ) (c : Consumer) (walked : Walked) (looked : List Event) (reply : Option Reply) (c2 : Option Consumer) : Type 0 where
  pub last : Bool
  pub lasts : (last ≡ true → wait ≤ 10 * round) × (wait ≤ 10 * round → last ≡ true)
  pub ready : IsReady c.settings.min_bytes last walked
  pub marks : looked ≡ Looked round ∷ []
  pub says : reply ≡ Some (Shown c.settings.format walked.taken)
  pub left : c2 ≡ Some (touched moment (moved walked.taken c))

-- there are too few rows, and another look comes: no reply, and nothing moves
pub record IsPut_off (moment round wait : ℕ) (c : Consumer) (walked : Walked) (looked : List Event) (reply : Option Reply) (c2 : Option Consumer) : Type 0 where
  pub soon : 10 * round < wait
  pub read : walked.unread ≡ None
  pub few : (walked.taken ≡ []) ⊎ ((bytes_of walked.taken < c.settings.min_bytes) × (walked.stopped ≡ false))
  pub marks : looked ≡ Looked round ∷ []
  pub says : reply ≡ None
  pub left : c2 ≡ Some (touched moment c)

-- The look of this consumer may send something: what a member sends, or a commit or a fetch of what is assigned.
abbrev pub Sends : Consumer → Type 0
Sends c = (c.mode ≡ ByTopics) ⊎ (c.assignment ≢ [])

-- something ended the look before its walk; where nothing was sent, want of memory alone
pub record IsCut_off (moment : ℕ) (sends : Type 0) (c : Consumer) (looked : List Event) (reply : Option Reply) (c2 : Option Consumer) : Type 0 where
  pub why : Reply
  pub links : IsLinks why
  pub cause : (why ≡ Want) ⊎ sends
  pub marks : looked ≡ []
  pub says : reply ≡ Some why
  pub left : c2 ≡ Some (touched moment c)

-- how a look ends that its walk ended: a row that doesn't read, a reply with rows or with none, or no reply yet
abbrev pub LookEnds : ℕ → Turn → ℕ → Consumer → Walked → List Event → Option Reply → Option Consumer → Type 0
LookEnds moment turn wait c walked looked reply c2 =
    IsUnread moment (reason_of turn.forms) c walked looked reply c2
    ⊎ (IsShown moment turn.round wait c walked looked reply c2 ⊎ IsPut_off moment turn.round wait c walked looked reply c2)

-- the walk was made and answered; `c` is the consumer after the events
pub record IsWalked (moment : ℕ) (turn : Turn) (wait bound : ℕ) (a b : Log) (c : Consumer) (looked : List Event) (reply : Option Reply) (c2 : Option Consumer) : Type 0 where
  pub lots : List Lot
  pub hand : AtHand a b c.assignment lots (0 < length looked)
  pub walked : Walked
  pub walk : walked ≡ walk (record { bound = bound; reads = reads_in (reason_of turn.forms) c.settings.format }) unwalked (turned c.rotation lots)
  pub ends : LookEnds moment turn wait c walked looked reply c2

-- the event of an auto commit
abbrev pub saved_event : Option (List Place) → List Event
saved_event None = []
saved_event (Some rows) = Committed rows ∷ []

-- the event of a rebalance
abbrev pub placed_event : Option (List Place) → List Event
placed_event None = []
placed_event (Some places) = Rebalanced places ∷ []

-- the topic list has the name
abbrev pub is_listed : List (List ℕ) → List ℕ → Bool
is_listed names name = list_any (λ other. bytes_eq other name) names

-- the places that a rebalance gave, of topics in the list: each from the committed offset, else by the reset setting
abbrev pub Places : (TopicPart → Option ℕ) → Consumer → Option (List Place) → Log → Log → Type 0
Places committed c None a b = Keeps a b
Places committed c (Some places) a b =
    (c.mode ≡ ByTopics) × IsInOrder places × All (λ place. IsTrue (is_listed c.topics place.at.topic)) places
    × Fixes committed c.settings.reset [] a (map (λ place. place.at) places) places b

-- no position was out of range, or these were set back
abbrev pub SetBack : Edge → Log → List Place → List Place → Log → Type 0
SetBack reset a places [] b = Keeps a b
SetBack reset a places (new ∷ news) b = Resets reset a places (new ∷ news) b

-- the same format
abbrev pub is_format : Format → Format → Bool
is_format Binary Binary = true
is_format Json Json = true
is_format Avro Avro = true
is_format _ _ = false

-- the Accept allows the format: it names none, or this one
abbrev pub allows : List Format → Format → Bool
allows [] format = true
allows (f ∷ fs) format = list_any (is_format format) (f ∷ fs)

-- a look: its events, and then the walk, or what ended it before
pub record IsLook (key : Key) (moment : ℕ) (turn : Turn) (timeout bound : Option ℕ) (c : Consumer) (a : Log) (events : List Event) (reply : Option Reply) (b : Log) (c2 : Option Consumer) : Type 0 where
  pub saved : Option (List Place)
  pub placed : Option (List Place)
  pub resets : List Place
  pub looked : List Event
  pub order : events ≡ saved_event saved ++ (placed_event placed ++ (map Reset resets ++ looked))
  pub code : Place → ℤ
  pub saves : Saves key c (is_due c turn.round) code saved a b
  pub answered : (k : ℤ) → first_other code c.assignment ≡ Some k → IsSome saved → (events ≡ saved_event saved) × ((reply ≡ Some (Broker k)) ⊎ (reply ≡ Some Want))
  pub due : is_due c turn.round ≡ true → saved ≡ None → IsUnsaved moment c events reply c2
  pub middle : Log
  pub log : IsLog middle
  pub places : Places (b.committed key.group) c placed a middle
  pub set : SetBack c.settings.reset middle (after_events (placed_event placed) c).assignment resets b
  pub ends : IsCut_off moment (Sends c) (after_events events c) looked reply c2
      ⊎ IsWalked moment turn (at_most c.settings.timeout_ms timeout) (at_most 4194304 bound) a b (after_events events c) looked reply c2

-- a Records call's look, on a live consumer
abbrev pub Looks : Key → ℕ → Turn → List Format → Option ℕ → Option ℕ → Consumer → Log → List Event → Option Reply → Log → Option Consumer → Type 0
Looks key moment turn formats timeout bound c a events reply b c2 =
    ((allows formats c.settings.format ≡ false) × (events ≡ []) × SameCommits a b × ((reply ≡ Some (Refused 40601)) ⊎ (reply ≡ Some Want)) × (c2 ≡ Some (touched moment c)))
    ⊎ ((allows formats c.settings.format ≡ true) × IsLook key moment turn timeout bound c a events reply b c2)

-- two ends over what was walked are the same
abbrev pub LooksEndOneWay : Type 0
LooksEndOneWay =
    (moment : ℕ) (turn : Turn) (wait : ℕ) (c : Consumer) (walked : Walked)
    → (looked : List Event) (reply : Option Reply) (c2 : Option Consumer) (looked2 : List Event) (reply2 : Option Reply) (d2 : Option Consumer)
    → LookEnds moment turn wait c walked looked reply c2 → LookEnds moment turn wait c walked looked2 reply2 d2
    → (looked ≡ looked2) × (reply ≡ reply2) × (c2 ≡ d2)

-- each walk has an end
abbrev pub WalksHaveAnEnd : Type 0
WalksHaveAnEnd =
    (moment : ℕ) (turn : Turn) (wait bound : ℕ) (c : Consumer) (lots : List Lot)
    → (looked : List Event) × (reply : Option Reply) × (c2 : Option Consumer)
    × LookEnds moment turn wait c (walk (record { bound = bound; reads = reads_in (reason_of turn.forms) c.settings.format }) unwalked lots) looked reply c2
