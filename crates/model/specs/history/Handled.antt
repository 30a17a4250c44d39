-- What came of each request of a connection, over the code's entries: each call once, in the order of the requests (a caller's part of a linearizable history).
use Rattle.std.specs.Prelude.{ℕ, ◌+◌, ◌≤◌, ◌≡◌, ◌==◌, filter, is_some, List, [], ◌∷◌, ◌++◌, map, length, Option, Some, None}
use Rattle.model.specs.state.Entry.{Call}
use Rattle.model.specs.step.Asked.{numbers}
use Rattle.model.specs.texts.Texts.{Response}
use Rattle.model.specs.history.Noted.{Noted, EndsInLook}

-- a request's call entered the history and was answered so, or the request was answered without it: its reading or `prepare` refused it, or memory was wanting before its turn
pub data Handled : Type 0 where
  Entered : Call → Response → Handled
  Stayed : Response → Handled

-- entries of one call without a reply, each with the look of its round as the last event, and the round after them
abbrev pub Looking : Call → ℕ → List Noted → ℕ → Type 0
Looking call round [] next = next ≡ round
Looking call round (e ∷ entries) next =
    (e.call ≡ Some call) × (e.round ≡ Some round) × (e.reply ≡ None) × EndsInLook e.events round × Looking call (round + 1) entries next

-- the entries of one call: its looks of rounds 0, 1 and so on, and the entry of the next round with its reply
pub record Answers (call : Call) (said : Response) (entries : List Noted) : Type 0 where
  pub looks : List Noted
  pub round : ℕ
  pub looking : Looking call 0 looks round
  pub last : Noted
  pub whole : entries ≡ looks ++ last ∷ []
  pub call_is : last.call ≡ Some call
  pub round_is : last.round ≡ Some round
  pub reply_is : last.reply ≡ Some said

-- the entries are those of the calls that entered, in order, each once, and there is no other
abbrev pub AnswersEach : List Handled → List Noted → Type 0
AnswersEach [] entries = entries ≡ []
AnswersEach (Entered call said ∷ rest) entries = (own : List Noted) × (others : List Noted) × (entries ≡ own ++ others) × Answers call said own × AnswersEach rest others
AnswersEach (Stayed said ∷ rest) entries = AnswersEach rest entries

-- behind them, where the pass was worn out, the looks of the next call
abbrev pub AnswersOrWears : List Handled → Option Call → List Noted → Type 0
AnswersOrWears handled None entries = AnswersEach handled entries
AnswersOrWears handled (Some call) entries =
    (answered : List Noted) × (looks : List Noted) × (round : ℕ) × (entries ≡ answered ++ looks) × AnswersEach handled answered × Looking call 0 looks round

-- the entries that have a reply
abbrev pub answered_in : List Noted → List Noted
answered_in entries = filter (λ e. is_some e.reply) entries

-- the calls that entered, in order
abbrev pub calls_in : List Handled → List (Option Call)
calls_in [] = []
calls_in (Entered call said ∷ rest) = Some call ∷ calls_in rest
calls_in (Stayed said ∷ rest) = calls_in rest

-- what they were answered
abbrev pub answers_in : List Handled → List (Option Response)
answers_in [] = []
answers_in (Entered call said ∷ rest) = Some said ∷ answers_in rest
answers_in (Stayed said ∷ rest) = answers_in rest

-- the entries with a reply are of the calls that entered, one each and in order, with their replies
abbrev pub AreAnsweredOnce : List Handled → List Noted → Type 0
AreAnsweredOnce handled entries = (map (λ e. e.call) (answered_in entries) ≡ calls_in handled) × (map (λ e. e.reply) (answered_in entries) ≡ answers_in handled)

-- an entry without call: expiry alone
abbrev pub IsHousekeeping : List Noted → Type 0
IsHousekeeping [] = Unit {0}
IsHousekeeping (e ∷ []) = e.call ≡ None
IsHousekeeping (e ∷ f ∷ entries) = ⊥

-- the entries of one caller
abbrev pub noted_by : ℕ → List Noted → List Noted
noted_by caller entries = filter (λ e. e.caller == caller) entries

-- What a pass has seen begins the history, and has all of its own entries.
pub record HasSeen (caller : ℕ) (history seen : List Noted) : Type 0 where
  pub rest : List Noted
  pub whole : history ≡ seen ++ rest
  pub own : noted_by caller rest ≡ []

-- requests that were handled and then one more whose call entered: the entries go on by its own
abbrev pub AnsweringGoesOn : Type 0
AnsweringGoesOn =
    (handled : List Handled) (entries : List Noted) (call : Call) (said : Response) (own : List Noted)
    → AnswersEach handled entries → Answers call said own → AnswersEach (handled ++ Entered call said ∷ []) (entries ++ own)

-- one more that stayed out leaves the entries as they are
abbrev pub StayingLeavesEntries : Type 0
StayingLeavesEntries =
    (handled : List Handled) (entries : List Noted) (said : Response) → AnswersEach handled entries → AnswersEach (handled ++ Stayed said ∷ []) entries

-- what a caller has in a history that goes on is what it had, and the new entries that are its own
abbrev pub NotedGrow : Type 0
NotedGrow = (caller : ℕ) (history more : List Noted) → noted_by caller (history ++ more) ≡ noted_by caller history ++ noted_by caller more

-- each call that entered is answered once, whether or not the pass was worn out behind them
abbrev pub EnteredCallsAreAnsweredOnce : Type 0
EnteredCallsAreAnsweredOnce = (handled : List Handled) (worn : Option Call) (entries : List Noted) → AnswersOrWears handled worn entries → AreAnsweredOnce handled entries

-- there is one entry of housekeeping at most
abbrev pub HouseEntriesAreFew : Type 0
HouseEntriesAreFew = (entries : List Noted) → IsHousekeeping entries → length entries ≤ 1

-- what a pass has seen has all that its caller has in the history
abbrev pub SeenEntriesAreOwn : Type 0
SeenEntriesAreOwn = (caller : ℕ) (history seen : List Noted) → HasSeen caller history seen → noted_by caller history ≡ noted_by caller seen

-- the rounds of the entries of one call are 0, 1 and so on
abbrev pub AnsweredRoundsCountUp : Type 0
AnsweredRoundsCountUp =
    (call : Call) (said : Response) (own : List Noted) → Answers call said own → map (λ (e : Noted). e.round) own ≡ map Some (numbers 0 (length own))
