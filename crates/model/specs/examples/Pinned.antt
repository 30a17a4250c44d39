-- What the model's words fix, each by a law of its own: replies of the Confluent REST Proxy API v2, rebalances and fetches of Apache Kafka's consumer.
use Rattle.std.specs.Prelude.{ℕ, ℤ, pos, ◌<ℤ◌, ◌≡◌, ◌≢◌, ◌<◌, ◌≤◌, ◌+◌, ◌⊎◌, ◌↔◌, ◌++◌, Bool, true, false, List, [], ◌∷◌, map, length, sum_by, AllPairs, Contains, IsPermutation, IsTrue, Option, Some, None}
use mathlib.Core.List.{IsPrefix}
use Rattle.model.specs.state.Log.{TopicPart, Log, part_at}
use Rattle.model.specs.step.Walk.{Place, Lot, Item, rows_at}
use Rattle.model.specs.state.World.{Edge, Key, Settings, Format, Consumer, World, touched, position_in}
use Rattle.model.specs.state.World.Mode.{Assigned, ByTopics}
use Rattle.model.specs.state.Entry.{Event, PartTold, Reply, Turn, Entry, Call}
use Rattle.model.specs.state.Entry.Act.{Assign, Assignments, Create, Commit, Delete, Fixed, Seek, SeekEdge, Subscribe, Subscription, Unsubscribe, Records}
use Rattle.model.specs.state.Entry.Call.{Of}
use Rattle.model.specs.state.Entry.Event.{Committed, Rebalanced, Reset, Looked}
use Rattle.model.specs.state.Entry.Question.{Brokers}
use Rattle.model.specs.state.Entry.Reply.{Done, Broker, Nodes, Refused, Shown, Told, Want}
use Rattle.model.specs.step.Fixed.{IsOutside}
use Rattle.model.specs.step.Look.{Looks, allows, is_listed}
use Rattle.model.specs.step.Step.{Live, Tells, is_in_force, left}
use Rattle.model.specs.history.Legal.{Counts, Legal, Ran, entry_tally, event_tally, events_tally}
use Rattle.model.specs.history.Causes.{IsCaused, IsRebalanced, is_commit, is_records, Rises, Pumped, has_looked, is_out, placed_in, to_fix}
use Rattle.model.specs.history.Causes.Pumped.{Steady}
use Rattle.model.specs.history.Stretch.{changes, is_breaking, is_moving}
use Rattle.model.specs.history.Nodes.{Heard, HasNodes}
use Rattle.model.specs.step.Buffers.{Fetches, IsBuffered, IsFetched, IsCleared, buffered_at, bytes_at_hand, rows_at_hand}
use Rattle.model.specs.history.Sessions.{IsCodeOf}

-- the nodes are told in rising order
abbrev pub NodesRise : Type 0
NodesRise = (a b : Log) (nodes : List ℤ) → Tells Brokers a b (Nodes nodes) → AllPairs (λ x y. x <ℤ y) nodes

-- a name that is live can't be taken
abbrev pub LiveNamesAreTaken : Type 0
LiveNamesAreTaken =
    (key : Key) (moment : ℕ) (turn : Turn) (settings : Settings) (c : Consumer) (a : Log) (events : List Event) (reply : Option Reply) (b : Log) (c2 : Option Consumer)
    → Live key moment turn (Create settings) c a events reply b c2 → (reply ≡ Some (Refused 40902)) ⊎ (reply ≡ Some Want)

-- a Records call that asks for another format uses the consumer, and does no more
abbrev pub OtherFormatsAreUses : Type 0
OtherFormatsAreUses =
    (key : Key) (moment : ℕ) (turn : Turn) (formats : List Format) (timeout bound : Option ℕ) (c : Consumer) (a : Log) (events : List Event) (reply : Option Reply) (b : Log) (c2 : Option Consumer)
    → allows formats (let s = c.settings in s.format) ≡ false → Looks key moment turn formats timeout bound c a events reply b c2 → (events ≡ []) × (c2 ≡ Some (touched moment c))

-- a Commit of all positions that the broker refused leaves what is unsaved
abbrev pub RefusedCommitsSaveNothing : Type 0
RefusedCommitsSaveNothing =
    (key : Key) (moment : ℕ) (turn : Turn) (c d : Consumer) (a : Log) (events : List Event) (code : ℤ) (b : Log)
    → Live key moment turn (Commit None) c a events (Some (Broker code)) b (Some d) → d.unsaved ≡ c.unsaved

-- a position from the start of its partition to the end isn't set back
abbrev pub PositionsInsideStay : Type 0
PositionsInsideStay =
    (seen : Log) (places : List Place) (new : Place) (old : ℕ)
    → position_in places new.at ≡ Some old → (let p = part_at seen new.at in (p.start ≤ old) × (old ≤ p.end)) → IsOutside seen places new → ⊥

-- a look by topics has an answer of the group: a heartbeat, a poll or a refusal
abbrev pub LooksByTopicsPump : Type 0
LooksByTopicsPump =
    (before after : Counts) (given unfixed : Option (List TopicPart)) (c : Consumer) (events : List Event)
    → Rises before after → IsRebalanced before after given unfixed c events → c.mode ≡ ByTopics → has_looked events ≡ true
    → before.beats + before.polls + before.refusals < after.beats + after.polls + after.refusals

-- a look out of the generation leaves nothing assigned
abbrev pub LostAssignmentsAreTold : Type 0
LostAssignmentsAreTold =
    (before after : Counts) (given unfixed : Option (List TopicPart)) (c : Consumer) (events : List Event) (r : IsRebalanced before after given unfixed c events)
    → is_out r.pumped ≡ true → has_looked events ≡ true → c.assignment ≢ [] → placed_in events ≡ Some []

-- what a rebalance assigns was given by the lane's last answer to a sync, now or before, and its topic is in the list
abbrev pub SharesAreThoseGiven : Type 0
SharesAreThoseGiven =
    (before after : Counts) (given unfixed : Option (List TopicPart)) (c : Consumer) (events : List Event) (r : IsRebalanced before after given unfixed c events) (ats : List TopicPart) (places : List Place)
    → to_fix r.pumped unfixed ≡ Some ats → placed_in events ≡ Some places
    → (given ≡ Some ats) × ((at : TopicPart) → Contains (map (λ place. place.at) places) at ↔ (Contains ats at × IsTrue (is_listed c.topics at.topic)))

-- partitions that were given and not fixed are fixed by the next look that is in the generation
abbrev pub LateSharesAreFixed : Type 0
LateSharesAreFixed =
    (before after : Counts) (given unfixed : Option (List TopicPart)) (c : Consumer) (events : List Event) (r : IsRebalanced before after given unfixed c events) (ats : List TopicPart)
    → r.pumped ≡ Steady → unfixed ≡ Some ats → has_looked events ≡ true → placed_in events ≢ None

-- a Commit is answered by the first code of its rows, or by the one of the whole call, that isn't 0
abbrev pub CommitsTellTheirCodes : Type 0
CommitsTellTheirCodes =
    (before after : Counts) (last : ℤ) (w : World) (e : Entry) → is_commit e.call ≡ true
    → (IsCaused before after last (pos 16 ∷ []) w e → e.reply ≡ Some Done → ⊥)
    × (IsCaused before after last (pos 0 ∷ pos 3 ∷ pos 16 ∷ []) w e → e.reply ≡ Some (Broker (pos 16)) → ⊥)
    × (IsCaused before after last (pos 0 ∷ pos 0 ∷ []) w e → e.reply ≢ Some Want → e.reply ≡ Some Done)

-- an auto commit passes over a whole refusal by 22, 25 and 27 alone, and over no other code of a row
abbrev pub OtherCodesAreAnswered : Type 0
OtherCodesAreAnswered =
    (before after : Counts) (last : ℤ) (w : World) (e : Entry) (format : Format) (items : List Item) → is_records e.call ≡ true
    → (IsCaused before after last (pos 16 ∷ []) w e → e.reply ≡ Some (Shown format items) → ⊥)
    × (IsCaused before after last (pos 27 ∷ pos 3 ∷ []) w e → e.reply ≡ Some (Broker (pos 16)) → ⊥)

-- a node that wasn't heard of isn't told
abbrev pub NodesAreHeard : Type 0
NodesAreHeard =
    (heard : Heard) (part : PartTold) (parts : List PartTold) → HasNodes heard (Some (Told parts)) → Contains parts part → Contains heard.parts part

-- Where nobody was live at the beginning, each rebalance of the run is paid by what the counts rose by.
abbrev pub RunsOfNobodyPay : Type 0
RunsOfNobodyPay =
    (idle : ℕ) (before after : Counts) (w : World) (a : Log) (entries : List Entry) (b : Log) (w2 : World) (ran : Ran idle before after w a entries b w2)
    → ((key : Key) → w.at key ≡ None) → (let n = ran.tally in before.polls + before.refusals + n.placed ≤ after.polls + after.refusals)

-- 1 for each rebalance
abbrev pub rebalances_in : List Event → ℕ
rebalances_in [] = 0
rebalances_in (Rebalanced places ∷ events) = 1 + rebalances_in events
rebalances_in (_ ∷ events) = rebalances_in events

-- the rebalances of a Records call
abbrev pub rebalances_of : Option Call → List Event → ℕ
rebalances_of (Some (Of key (Records formats timeout bound))) events = rebalances_in events
rebalances_of _ events = 0

-- no more rebalances stand in a legal history than the link counts polls and refusals
abbrev pub RebalancesArePaid : Type 0
RebalancesArePaid =
    (idle : ℕ) (counts : Counts) (history : List Entry) (w : World) (l : Log)
    → Legal idle counts history w l → sum_by (λ (e : Entry). rebalances_of e.call e.events) history ≤ counts.polls + counts.refusals

-- what breaks a stretch: the calls that move positions, a Subscribe where it changes something, and a rebalance or a reset
abbrev pub BreaksAreThese : Type 0
BreaksAreThese =
    (c : Option Consumer) (settings : Settings) (names : List (List ℕ)) (ats : List TopicPart) (news : List Place) (edge : Edge) (place : Place)
    → (is_moving c (Create settings) ≡ true) × (is_moving c Delete ≡ true) × (is_moving c Unsubscribe ≡ true) × (is_moving c (Assign ats) ≡ true)
    × (is_moving c (Seek news) ≡ true) × (is_moving c (SeekEdge edge ats) ≡ true) × (is_moving c (Subscribe names) ≡ changes c names)
    × (is_breaking (Rebalanced news) ≡ true) × (is_breaking (Reset place) ≡ true)

-- nothing else does: neither a read nor a commit, by a call or by a look
abbrev pub NothingElseBreaks : Type 0
NothingElseBreaks =
    (c : Option Consumer) (rows : Option (List Place)) (ats : List TopicPart) (formats : List Format) (timeout bound : Option ℕ) (news : List Place) (round : ℕ)
    → (is_moving c (Commit rows) ≡ false) × (is_moving c Subscription ≡ false) × (is_moving c Assignments ≡ false) × (is_moving c (Fixed ats) ≡ false)
    × (is_moving c (Records formats timeout bound) ≡ false) × (is_breaking (Committed news) ≡ false) × (is_breaking (Looked round) ≡ false)

-- a look by topics owes an answer of the group
abbrev pub LooksByTopicsOwe : Type 0
LooksByTopicsOwe = (c : Consumer) (round : ℕ) → c.mode ≡ ByTopics → (let n = event_tally c (Looked round) in n.looks ≡ 1)

-- a commit of fewer rows than the consumer has partitions owes a refusal
abbrev pub PartialCommitsOwe : Type 0
PartialCommitsOwe = (c : Consumer) (rows : List Place) → length rows < length c.assignment → (let n = event_tally c (Committed rows) in n.short ≡ 1)

-- what an entry owes for its events, it owes in a Records call
abbrev pub EventsAreOwed : Type 0
EventsAreOwed =
    (w : World) (e : Entry) (key : Key) (formats : List Format) (timeout bound : Option ℕ) (c : Consumer)
    → e.call ≡ Some (Of key (Records formats timeout bound)) → left e.expired w key ≡ Some c
    → (let n = entry_tally w e in let m = events_tally (Some c) e.events in (n.short ≡ m.short) × (n.placed ≡ m.placed) × (n.looks ≡ m.looks))

-- rows that were fetched are shown or stay at hand
abbrev pub FetchedRowsStay : Type 0
FetchedRowsStay =
    (before after : List Lot) (f g : Fetches) (c : Consumer) (shown : List Item)
    → IsFetched before after f g false c [] shown → length shown + rows_at_hand after + f.fetched ≡ rows_at_hand before + g.fetched

-- rows at hand are shown before those fetched later
abbrev pub BufferedRowsComeFirst : Type 0
BufferedRowsComeFirst =
    (before after : List Lot) (shown : List Item) (at : TopicPart)
    → IsBuffered before after [] shown → buffered_at at after ≡ [] → IsPrefix (buffered_at at before) (rows_at at shown)

-- a Seek keeps no row of a partition that it moves
abbrev pub SeeksClear : Type 0
SeeksClear = (c : Consumer) (news : List Place) (after : List Lot) (place : Place) → IsCleared c (Seek news) after → Contains news place → buffered_at place.at after ≡ []

-- a Subscribe to the list in force may keep its rows
abbrev pub EqualSubscribesKeep : Type 0
EqualSubscribesKeep = (c : Consumer) (names : List (List ℕ)) (after : List Lot) → is_in_force c names ≡ true → IsCleared c (Subscribe names) after

-- An Assign keeps no row of a partition that it leaves out or that had no position, a SeekEdge none of its partitions; an Unsubscribe keeps no row at all, and a Subscribe to another list none.
abbrev pub MovesClear : Type 0
MovesClear =
    (c : Consumer) (ats : List TopicPart) (edge : Edge) (names : List (List ℕ)) (after : List Lot) (at : TopicPart)
    → (IsCleared c (Assign ats) after → (Contains ats at → ⊥) → buffered_at at after ≡ [])
    × (IsCleared c (Assign ats) after → position_in c.assignment at ≡ None → buffered_at at after ≡ [])
    × (IsCleared c (SeekEdge edge ats) after → Contains ats at → buffered_at at after ≡ [])
    × (IsCleared c Unsubscribe after → rows_at_hand after ≡ 0)
    × (IsCleared c (Subscribe names) after → is_in_force c names ≡ false → rows_at_hand after ≡ 0)

-- Where nothing is at hand of one partition, it is asked for once, with 1,048,576 bytes of room; where enough is at hand, an assigned consumer sends nothing.
abbrev pub FetchesAreAsked : Type 0
FetchesAreAsked =
    (before after : List Lot) (f g : Fetches) (due : Bool) (c : Consumer) (shown : List Item) (place : Place) → IsFetched before after f g due c [] shown
    → (c.assignment ≡ place ∷ [] → rows_at_hand before ≡ 0 → (g.asks ≡ f.asks + 1) × (g.room ≡ f.room + 1048576))
    × (c.mode ≡ Assigned → due ≡ false → 0 < rows_at_hand before → (let s = c.settings in s.min_bytes) ≤ bytes_at_hand before → g.sent ≡ f.sent)

-- all nodes that were heard of are told, each as often
abbrev pub NodesAreThoseHeard : Type 0
NodesAreThoseHeard = (heard : Heard) (nodes : List ℤ) → HasNodes heard (Some (Nodes nodes)) → IsPermutation heard.nodes nodes

-- In a session no code answers a call that finds no consumer, or any call that neither commits nor reads.
abbrev pub OtherCallsHaveNoCode : Type 0
OtherCallsHaveNoCode =
    (log : Log) (grouped : List ℕ → Bool) (found : Option Consumer) (call : Option Call) (code : ℤ)
    → (IsCodeOf log grouped None call code → ⊥)
    × (is_commit call ≡ false → is_records call ≡ false → IsCodeOf log grouped found call code → ⊥)
