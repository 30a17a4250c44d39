-- What the connections of one caller leave in the histories of the shards, one connection after another (a caller's part of a linearizable history).
use Rattle.std.specs.Prelude.{ℕ, ◌≡◌, ◌==◌, cond, List, [], ◌∷◌, ◌++◌, Option, Some, None}
use Rattle.model.specs.state.Entry.{Call}
use Rattle.model.specs.texts.Texts.{Response}
use Rattle.model.specs.history.Noted.{Noted}
use Rattle.model.specs.history.Handled.{Handled, Answers, AnswersOrWears, IsHousekeeping, Looking}
use Rattle.model.specs.history.Handled.Handled.{Entered, Stayed}

-- entries in each shard's history, by the number of the shard
abbrev pub Entries : Type 0
Entries = ℕ → List Noted

-- these entries in the history of one shard, and none in any other
abbrev pub only_in : ℕ → List Noted → Entries
only_in place entries s = cond (place == s) entries []

-- those requests whose calls went to this shard
abbrev pub at_shard : (shard : Call → ℕ) → ℕ → List Handled → List Handled
at_shard shard s [] = []
at_shard shard s (Entered call said ∷ rest) = cond (shard call == s) (Entered call said ∷ at_shard shard s rest) (at_shard shard s rest)
at_shard shard s (Stayed said ∷ rest) = at_shard shard s rest

-- the call at which the pass was worn out, where it went to this shard
abbrev pub worn_at : (shard : Call → ℕ) → ℕ → Option Call → Option Call
worn_at shard s None = None
worn_at shard s (Some call) = cond (shard call == s) (Some call) None

-- In each shard the entries are those of the calls that went there, in order, each once; behind them, where the pass was
-- worn out at a call, its looks.
abbrev pub IsConnection : (shard : Call → ℕ) → List Handled → Option Call → Entries → Type 0
IsConnection shard handled worn own = (s : ℕ) → AnswersOrWears (at_shard shard s handled) (worn_at shard s worn) (own s)

-- One connection after another, each with its part, and behind that one entry of housekeeping at most in each shard.
-- `part` says which entries are a connection's: each of them may have worn out its pass.
abbrev pub AreParts : {C : Type 0} (part : C → Entries → Type 0) → List C → Entries → Type 0
AreParts part [] entries = (s : ℕ) → entries s ≡ []
AreParts part (connection ∷ rest) entries =
    (own : Entries) × (house : Entries) × (others : Entries) × ((s : ℕ) → entries s ≡ own s ++ house s ++ others s)
    × part connection own × ((s : ℕ) → IsHousekeeping (house s)) × AreParts part rest others

-- one call more of a connection was answered
abbrev pub ConnectionsGoOn : Type 0
ConnectionsGoOn =
    (shard : Call → ℕ) (handled : List Handled) (own : Entries) (call : Call) (said : Response) (more : List Noted)
    → IsConnection shard handled None own → Answers call said more
    → IsConnection shard (handled ++ Entered call said ∷ []) None (λ s. own s ++ only_in (shard call) more s)

-- one request more was answered without a turn
abbrev pub StayingAddsNothing : Type 0
StayingAddsNothing =
    (shard : Call → ℕ) (handled : List Handled) (own : Entries) (said : Response)
    → IsConnection shard handled None own → IsConnection shard (handled ++ Stayed said ∷ []) None own

-- the pass was worn out at one call more
abbrev pub ConnectionsWear : Type 0
ConnectionsWear =
    (shard : Call → ℕ) (handled : List Handled) (own : Entries) (call : Call) (looks : List Noted) (round : ℕ)
    → IsConnection shard handled None own → Looking call 0 looks round
    → IsConnection shard handled (Some call) (λ s. own s ++ only_in (shard call) looks s)

-- One connection more, with its housekeeping. A connection stands here for what came of its requests, and the call at
-- which its pass was worn out, if it was.
abbrev pub ConnectionsFollow : Type 0
ConnectionsFollow =
    (shard : Call → ℕ) (connections : List (List Handled × Option Call)) (entries own house : Entries) (handled : List Handled) (worn : Option Call)
    → AreParts (λ c. IsConnection shard c.0 c.1) connections entries → IsConnection shard handled worn own → ((s : ℕ) → IsHousekeeping (house s))
    → AreParts (λ c. IsConnection shard c.0 c.1) (connections ++ (handled, worn) ∷ []) (λ s. entries s ++ own s ++ house s)
