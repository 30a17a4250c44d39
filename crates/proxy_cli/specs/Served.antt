-- Requests, the replies that they were given, and the entries of the history that these come from.
use Rattle.std.specs.Prelude.{◌≡◌, ◌⊎◌, ◌||◌, ◌==◌, ℕ, ◌+◌, List, [], ◌∷◌, ◌++◌, All, Contains, Bool, true, false, sum_by}
use Rattle.gate_io.specs.Clocks.{Hand}
use Rattle.model.specs.state.Log.{IsLog, Log, TopicPart, Row, rows_in_all}
use Rattle.model.specs.step.Walk.{Item}
use Rattle.model.specs.state.World.{Key}
use Rattle.model.specs.state.Entry.{Call, Entry, shown_to}
use Rattle.model.specs.history.Stored.{HasStored, is_unknown, stored_by}
use Rattle.model.specs.history.Stretch.{Cut, StretchLaw}
use Rattle.broker_link.specs.Stands.{Goes, Stand}
use Rattle.rest_calls.specs.Reading.{Reading, Refusal}
use Rattle.rest_calls.specs.Reading.Read.{Calls}
use Rattle.rest_calls.specs.Responses.{response_in}
use Rattle.rest_calls.specs.Views.{entered}
use Rattle.rest_codes.specs.Response.{response_of}
use Rattle.rest_codes.specs.declared.response.Reply.{Reply}
use Rattle.rest_codes.specs.declared.response.Reply.TheVariants.{Want}
use Rattle.http_conn.specs.declared.request.Request.{Request}
use Rattle.http_conn.specs.Stream.{interim_bytes, max_requests}
use Rattle.desk.specs.Step.{no_expiry}
use Rattle.desk.specs.Runs.{State, IsAnswered, Runs, named_after, state_of}
use Rattle.desk.specs.declared.alone_desk.AloneDesk.{AloneDesk}

-- this reply, or want of memory in its place
abbrev pub OrWant : Reply → Reply → Type 0
OrWant wanted r = (r ≡ wanted) ⊎ (r ≡ Want)

-- the gateway with one caller: its consumers, log, clock and counts, and how many instances it has named
pub record Gateway : Type 0 where
  pub state : State
  pub names_given : ℕ

-- the gateway of a desk whose link stands so, with the clock there
abbrev pub gateway_of : {L : Type 0} → (L → Stand) → AloneDesk L → Hand → Gateway
gateway_of stand desk hand = record { state = state_of stand desk.shard hand; names_given = desk.names_given }

-- the call of a request was answered, and this is its reply, or want of memory in its place
pub record IsCalled (idle caller : ℕ) (plain ticks : Type 0) (advertise : List ℕ) (s t : Gateway) (call : Call) (r : Reply) : Type 0 where
  pub said : Reply
  pub answered : IsAnswered idle caller advertise plain ticks (entered caller s.names_given call) s.state (response_in said) t.state
  pub replied : OrWant said r
  pub named : t.names_given ≡ named_after call s.names_given

-- memory was wanting before the first turn of the call
pub record IsStarved (s t : Gateway) (call : Call) (r : Reply) : Type 0 where
  pub wants : r ≡ Want
  pub same : t.state ≡ s.state
  pub named : t.names_given ≡ named_after call s.names_given

-- One request was answered by these entries, from one state of the gateway to another: it was refused by its reading, met
-- want of memory before the first turn of its call, or its call was answered.
abbrev pub AnswersOne : (idle caller : ℕ) (plain ticks : Type 0) (advertise : List ℕ) → Gateway → Gateway → Request → Reply → List Entry → Type 0
AnswersOne idle caller plain ticks advertise s t request r own =
    (Refusal request r × (own ≡ []) × (t ≡ s))
    ⊎ ((call : Call) × Reading request (Calls call)
    × ((IsStarved s t call r × (own ≡ [])) ⊎ ((called : IsCalled idle caller plain ticks advertise s t call r) × (own ≡ called.answered.own))))

-- Requests were answered in turn, each by its own entries, which lead from a state to the next, and there is no other entry.
-- `one` says of one request that it was answered so: its loop is that of any connection.
abbrev pub AnswersAll : {S E : Type 0} (one : S → S → Request → Reply → List E → Type 0) → S → S → List Request → List Reply → List E → Type 0
AnswersAll one s t [] [] entries = (entries ≡ []) × (t ≡ s)
AnswersAll {S} {E} one s t (request ∷ requests) (r ∷ replies) entries =
    (m : S) × (own : List E) × (others : List E) × (entries ≡ own ++ others) × one s m request r own × AnswersAll one m t requests replies others
AnswersAll one s t [] (r ∷ replies) entries = ⊥
AnswersAll one s t (request ∷ requests) [] entries = ⊥

-- a row that a produce answered as stored is the one that any later reply shows at its topic, partition and offset
abbrev pub ShowWhatIsStored : List Entry → Type 0
ShowWhatIsStored history =
    (before : List Entry) (e : Entry) (between : List Entry) (f : Entry) (after : List Entry) → history ≡ before ++ (e ∷ (between ++ (f ∷ after)))
    → (at : TopicPart) (row : Row) → HasStored e at row → (key : Key) (item : Item) → Contains (shown_to key f) item → item.at ≡ at → item.row.offset ≡ row.offset → item.row ≡ row

-- Where each produce was answered, the rows that the log gained are those told as stored, and those of others.
abbrev pub GainsWhatIsStored : Log → List Entry → Log → Type 0
GainsWhatIsStored a history b =
    All (λ (e : Entry). is_unknown e.call e.reply ≡ false) history → rows_in_all b + a.others ≡ rows_in_all a + b.others + sum_by stored_by history

-- Requests were answered by one run of the model from a state of the gateway to another, in which each stretch of a consumer's
-- replies shows the rows of a partition from the position at its start up to that at its end, and what was stored is shown.
pub record Answering (idle caller : ℕ) (plain ticks : Type 0) (advertise : List ℕ) (s t : Gateway) (requests : List Request) (replies : List Reply) : Type 0 where
  pub history : List Entry
  pub runs : Runs idle caller plain ticks s.state history t.state
  pub served : AnswersAll (AnswersOne idle caller plain ticks advertise) s t requests replies history
  pub stretches : (before : List Entry) (e : Entry) (entries after : List Entry) → history ≡ before ++ (e ∷ (entries ++ after))
      → (cut : Cut idle s.state.world s.state.log before e entries after t.state.log t.state.world) × StretchLaw idle s.state.world s.state.log before e entries after t.state.log t.state.world cut
  pub shown : ShowWhatIsStored history
  pub gained : GainsWhatIsStored s.state.log history t.state.log

-- the desk's link tells a log
abbrev pub IsKnown : {L : Type 0} → (L → Stand) → AloneDesk L → Type 0
IsKnown stand desk = (stand desk.shard.link).tells × IsLog (stand desk.shard.link).log

-- nothing was asked of the desk
abbrev pub IsIdle : {L C : Type 0} → AloneDesk L → C → AloneDesk L → C → Type 0
IsIdle desk clock desk2 clock2 = (desk2 ≡ desk) × (clock2 ≡ clock)

-- the desk's link went on, its consumers are told the address as before, and its clock still tells
abbrev pub DeskGoes : {L C : Type 0} → (L → Stand) → (C → Type 0) → AloneDesk L → C → AloneDesk L → C → Type 0
DeskGoes stand ticks desk clock desk2 clock2 =
    (desk2.shard.advertise ≡ desk.shard.advertise) × Goes (stand desk.shard.link) (stand desk2.shard.link) × (ticks clock → ticks clock2)

-- one request was answered, from a desk and clock to a desk and clock, by caller 0, and nothing expires
abbrev pub Exchanges : {L C : Type 0} → (L → Stand) → (C → Type 0) → (C → Hand) → AloneDesk L → C → AloneDesk L → C → Request → Reply → Type 0
Exchanges stand ticks hand desk clock desk2 clock2 request reply =
    (own : List Entry) × AnswersOne no_expiry 0 (stand desk.shard.link).plain (ticks clock) desk.shard.advertise (gateway_of stand desk (hand clock)) (gateway_of stand desk2 (hand clock2)) request reply own

-- the same of all requests
abbrev pub ExchangesAll : {L C : Type 0} → (L → Stand) → (C → Type 0) → (C → Hand) → AloneDesk L → C → AloneDesk L → C → List Request → List Reply → Type 0
ExchangesAll stand ticks hand desk clock desk2 clock2 requests replies =
    Answering no_expiry 0 (stand desk.shard.link).plain (ticks clock) desk.shard.advertise (gateway_of stand desk (hand clock)) (gateway_of stand desk2 (hand clock2)) requests replies

-- the response to a request closes
abbrev pub closes : ℕ → Request → Bool
closes n request = request.close || (n + 1 == max_requests)

-- the interim response where it is due
abbrev pub interim_if : Bool → List ℕ
interim_if true = interim_bytes
interim_if false = []

-- what is written for the request behind n others: the interim response if it was due, and the response to the reply
abbrev pub exchange_of : ℕ → Request → Reply → List ℕ
exchange_of n request r = interim_if request.expects ++ response_of r (closes n request)

-- what is written for the requests behind n others
abbrev pub responses : ℕ → List Request → List Reply → List ℕ
responses n [] replies = []
responses n (request ∷ requests) [] = []
responses n (request ∷ requests) (r ∷ replies) = exchange_of n request r ++ responses (n + 1) requests replies
