-- Right answers that are easily refused: commits taken in part, late rebalances, worn connections (Confluent REST Proxy API v2, consumers).
use Rattle.std.specs.Prelude.{pos, false, true, List, [], ◌∷◌, codes, Option, Some, None}
use Rattle.std.proofs.Common.{inr}
use Rattle.model.specs.step.Walk.{Place}
use Rattle.model.specs.state.World.{Consumer}
use Rattle.model.specs.state.World.Edge.{Start}
use Rattle.model.specs.state.World.Format.{Binary}
use Rattle.model.specs.state.World.Mode.{ByTopics}
use Rattle.model.specs.state.Entry.{Call, Entry}
use Rattle.model.specs.state.Entry.Act.{Create, Subscribe, Records, Commit, Delete}
use Rattle.model.specs.state.Entry.Event.{Committed, Rebalanced, Looked}
use Rattle.model.specs.state.Entry.Reply.{Done, Made, Shown, Broker, LinkFault, Want}
use Rattle.model.specs.step.Acts.{Live}
use Rattle.model.specs.step.Step.{Step}
use Rattle.model.specs.history.Legal.{Counts, Legal}
use Rattle.model.specs.history.Causes.{IsCaused, IsGranted, IsRebalanced}
use Rattle.model.specs.step.Look.{Looks}
use Rattle.model.specs.step.Fixed.{with_commits}
use Rattle.model.specs.examples.Readings.{orders, other_orders, reader, turn, entry, settings_of, only}
use Rattle.model.specs.texts.Texts.{Response}
use Rattle.model.specs.history.Noted.{Noted}
use Rattle.model.specs.history.Handled.{Handled}
use Rattle.model.specs.history.Handled.Handled.{Entered}
use Rattle.model.specs.history.Connections.{AreParts, IsConnection, only_in}
use Rattle.model.specs.examples.Waiting.{waiting}
use Rattle.model.specs.examples.Subscribing.{both, both_at, both_produced, first_items, none_committed, once_committed, member, Commitments}

-- the first partition at 1
abbrev pub first_at_one : List Place
first_at_one = record { at = orders; position = 1 } ∷ []

abbrev pub first_committed : Commitments
first_committed = with_commits reader.group first_at_one none_committed

-- the second of two rows is refused by 3: the first is committed all the same, and what is unsaved stays
abbrev pub PartOfACommit : Type 0
PartOfACommit = Live reader 0 turn (Commit None) (member (both_at 1) true) (both none_committed) (Committed first_at_one ∷ []) (Some (Broker (pos 3))) (both first_committed) (Some (member (both_at 1) true))

-- the third read of row 15: the positions are committed, and one partition is left, at its committed position
abbrev pub after_rebalance : Consumer
after_rebalance = record { settings = settings_of Start; mode = ByTopics; topics = codes "orders" ∷ []; assignment = first_at_one; rotation = 0; unsaved = false; last_use = 0 }

abbrev pub RebalanceAfterACommit : Type 0
RebalanceAfterACommit = Looks reader 0 turn [] (Some 0) None (member (both_at 1) true) (both none_committed) (Committed (both_at 1) ∷ Rebalanced first_at_one ∷ Looked 0 ∷ []) (Some (Shown Binary [])) (both once_committed) (Some after_rebalance)

-- want of memory behind the auto commit
abbrev pub WantBehindACommit : Type 0
WantBehindACommit = Looks reader 0 turn [] (Some 0) None (member (both_at 1) true) (both none_committed) (Committed (both_at 1) ∷ []) (Some Want) (both once_committed) (Some (member (both_at 1) false))

-- an auto commit of a Delete was taken in part
abbrev pub DeleteCommitsInPart : Type 0
DeleteCommitsInPart = Live reader 0 turn Delete (member (both_at 1) true) (both none_committed) [] (Some Done) (both first_committed) None

-- an empty Commit of a consumer without partitions tells an empty list
abbrev pub EmptyCommit : Type 0
EmptyCommit = Live reader 0 turn (Commit None) (member [] true) (both none_committed) (Committed [] ∷ []) (Some Done) (both none_committed) (Some (member [] false))

-- a look that found too little, at which the pass was worn out
abbrev pub worn_look : Noted
worn_look = record { caller = 0; moment = 0; events = inr (Looked 0) ∷ []; call = Some waiting; round = Some 0; table = []; reply = None }

-- the housekeeping behind it
abbrev pub house : Noted
house = record { caller = 0; moment = 0; events = []; call = None; round = None; table = []; reply = None }

-- the answer to the same call of the next connection, at round 0
abbrev pub answer_of : Response → Noted
answer_of said = record { caller = 0; moment = 0; events = inr (Looked 0) ∷ []; call = Some waiting; round = Some 0; table = []; reply = Some said }

-- a connection whose pass is worn out is followed by another
abbrev pub WornConnectionsAreFollowed : Type 0
WornConnectionsAreFollowed =
    (said : Response)
    → AreParts (λ (c : List Handled × Option Call). IsConnection (λ call. 3) c.0 c.1) (([], Some waiting) ∷ (Entered waiting said ∷ [], None) ∷ []) (only_in 3 (worn_look ∷ house ∷ answer_of said ∷ []))

-- the counts before and after a look whose pump is steady: a heartbeat was answered, no poll and no refusal
abbrev pub earlier : Counts
earlier = record { faults = 1; refusals = 0; polls = 2; beats = 0 }

abbrev pub later : Counts
later = record { faults = 1; refusals = 0; polls = 2; beats = 1 }

-- a look is given both partitions, and then the link fails before their positions are fixed
abbrev pub failed : Entry
failed = entry (Records [] (Some 0) None) [] LinkFault

-- the next look finds the member in its generation, and fixes them
abbrev pub late : Entry
late = entry (Records [] (Some 0) None) (Rebalanced (both_at 0) ∷ Looked 0 ∷ []) (Shown Binary first_items)

-- the counts before and after a step in which the broker refused once
abbrev pub unrefused : Counts
unrefused = record { faults = 0; refusals = 0; polls = 0; beats = 0 }

abbrev pub refused : Counts
refused = record { faults = 0; refusals = 1; polls = 0; beats = 0 }

-- an auto commit that the broker refused as a whole by 27, a rebalance in progress, is passed over: the look goes on
abbrev pub passed : Entry
passed = entry (Records [] (Some 0) None) (Committed [] ∷ []) (Shown Binary first_items)

abbrev pub RefusedAutoCommitsMayPass : Type 0
RefusedAutoCommitsMayPass = IsCaused unrefused refused (pos 27) (pos 27 ∷ []) (only (member (both_at 1) true)) passed

-- a Commit of two rows of which the second is refused tells the code of the second
abbrev pub told : Entry
told = entry (Commit None) (Committed first_at_one ∷ []) (Broker (pos 3))

abbrev pub LaterCodesMayBeTold : Type 0
LaterCodesMayBeTold = IsCaused unrefused refused (pos 3) (pos 0 ∷ pos 3 ∷ []) (only (member (both_at 1) true)) told

-- memory may be wanting behind codes that were told
abbrev pub wanting : Entry
wanting = entry (Records [] (Some 0) None) (Committed first_at_one ∷ []) Want

abbrev pub WantMayFollowCodes : Type 0
WantMayFollowCodes = IsCaused unrefused refused (pos 3) (pos 0 ∷ pos 3 ∷ []) (only (member (both_at 1) true)) wanting

-- a late rebalance is legal: the poll of the look before pays for it
abbrev pub LateRebalancesAreLegal : Type 0
LateRebalancesAreLegal =
    Legal 300000 later
    (both_produced ∷ entry (Create (settings_of Start)) [] Made ∷ entry (Subscribe (codes "orders" ∷ codes "orders" ∷ [])) [] Done ∷ failed ∷ late ∷ [])
    (only (member (both_at 1) true))
    (both none_committed)

-- and so is its step by itself: it has its causes, and what was held back before is no more after it
abbrev pub LateRebalancesAreSteps : Type 0
LateRebalancesAreSteps =
    Step 300000 (only (member [] false)) (both none_committed) late (both none_committed) (only (member (both_at 1) true))
    × IsCaused earlier later (pos 0) [] (only (member [] false)) late
    × IsGranted earlier later 1 0 (only (member [] false)) late
    × IsRebalanced earlier later (Some (orders ∷ other_orders ∷ [])) (Some (orders ∷ other_orders ∷ [])) (member [] false) (Rebalanced (both_at 0) ∷ Looked 0 ∷ [])
