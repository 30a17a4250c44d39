-- A session: what is written for the bytes of its input. `answers` says that requests were answered with replies: that of one
-- caller over one shard here, and any other for a connection of another kind.
use Rattle.std.specs.Prelude.{◌≡◌, ◌⊎◌, ◌<◌, ℕ, ◌+◌, List, [], ◌∷◌, ◌++◌, length, take, Bool, true, false, Option, Some, ⊤, Result, Ok, Err}
use Rattle.std.specs.Io.KnownBytes.{Appends, Consumes}
use Rattle.gate_io.specs.Clocks.{Hand}
use Rattle.broker_link.specs.Made.{empty_log, no_counts}
use Rattle.rest_codes.specs.Response.{response_of}
use Rattle.rest_codes.specs.declared.response.Reply.{Reply}
use Rattle.http_conn.specs.declared.request.ConnNo.{ConnNo}
use Rattle.http_conn.specs.declared.request.ConnNo.TheVariants.{ReadFault, WriteFault, Want}
use Rattle.http_conn.specs.declared.request.Request.{Request}
use Rattle.http_conn.specs.Stream.{DueIs, Ending, Stream, StreamSoFar, Begins, IsBad, IsDue, interim_bytes, is_closed}
use Rattle.http_conn.specs.Stream.Ending.{End, Closed, Limit, CutShort, BadPlace}
use Rattle.model.specs.state.World.{nobody}
use Rattle.desk.specs.Step.{no_expiry}
use Rattle.proxy_cli.specs.Ended.{TellsEnd}
use Rattle.proxy_cli.specs.declared.ended.Ended.{Ended}
use Rattle.proxy_cli.specs.Patience.{ReadsBefore, ReadsBehind, Took}
use Rattle.proxy_cli.specs.Served.{Answering, Gateway, OrWant, closes, exchange_of, interim_if, responses}
use Rattle.command_words.specs.Words.{advertise_of, plans_of, words_of}
use Rattle.command_words.specs.declared.words.Command.{Command}

-- what is written behind the last response: the interim response if it was due for the request in which the input ends, and the
-- response to a bad place
abbrev pub IsLast : Ending → List ℕ → Type 0
IsLast (BadPlace due r) last = (said : Reply) × OrWant r said × (last ≡ interim_if due ++ response_of said true)
IsLast (CutShort due) last = last ≡ interim_if due
IsLast End last = last ≡ []
IsLast Closed last = last ≡ []
IsLast Limit last = last ≡ []

-- a session whose input was read to its end, its limit or its first bad place
pub record Whole (answers : List Request → List Reply → Type 0) (input written : List ℕ) : Type 0 where
  pub requests : List Request
  pub ending : Ending
  pub stream : Stream input requests ending
  pub replies : List Reply
  pub answered : answers requests replies
  pub last : List ℕ
  pub ends : IsLast ending last
  pub output : written ≡ responses 0 requests replies ++ last

-- a session whose read failed: all whole requests of the bytes that it got were answered, and the interim response was written if
-- it is due for what is behind them
pub record Lost (answers : List Request → List Reply → Type 0) (got written : List ℕ) : Type 0 where
  pub requests : List Request
  pub stream : StreamSoFar got requests
  pub replies : List Reply
  pub answered : answers requests replies
  pub due : Bool
  pub is_due : DueIs stream.rest due
  pub output : written ≡ responses 0 requests replies ++ interim_if due

-- a session that found no memory: the first requests of the input were answered, and nothing else was written but an interim
-- response that was due
pub record Starved (answers : List Request → List Reply → Type 0) (input written : List ℕ) : Type 0 where
  pub requests : List Request
  pub rest : List ℕ
  pub begins : Begins 0 input requests rest
  pub replies : List Reply
  pub answered : answers requests replies
  pub asked : Bool
  pub was_due : asked ≡ true → IsDue rest
  pub output : written ≡ responses 0 requests replies ++ interim_if asked

-- the last of the responses, and what is written before it
abbrev pub SplitsLast : ℕ → List Request → List Reply → List ℕ → List ℕ → Type 0
SplitsLast n [] replies before last = ⊥
SplitsLast n (q ∷ qs) [] before last = ⊥
SplitsLast n (q ∷ []) (r ∷ rs) before last = (before ≡ interim_if q.expects) × (last ≡ response_of r (closes n q))
SplitsLast n (q ∷ q2 ∷ qs) (r ∷ rs) before last = (mid : List ℕ) × (before ≡ exchange_of n q r ++ mid) × SplitsLast (n + 1) (q2 ∷ qs) rs mid last

-- the response to a bad place was cut, behind these responses
pub record IsCutRefusal (rest responses before last : List ℕ) : Type 0 where
  pub wanted : Reply
  pub bad : IsBad rest wanted
  pub due : Bool
  pub is_due : DueIs rest due
  pub front : before ≡ responses ++ interim_if due
  pub said : Reply
  pub replied : OrWant wanted said
  pub response : last ≡ response_of said true

-- the interim response was cut, behind these responses
pub record IsCutInterim (rest responses before last : List ℕ) : Type 0 where
  pub due : IsDue rest
  pub front : before ≡ responses
  pub response : last ≡ interim_bytes

-- The response that was cut is that to the last request, and nothing was read once that was whole; or it is that to a bad place
-- behind all requests, of which none closes; or it is the interim response, and nothing was read once that was due.
abbrev pub IsCutResponse : (whole behind early : Type 0) → List ℕ → List Request → List Reply → List ℕ → List ℕ → Type 0
IsCutResponse whole behind early rest requests replies before last =
    (SplitsLast 0 requests replies before last × whole)
    ⊎ ((is_closed requests ≡ false) × ((IsCutRefusal rest (responses 0 requests replies) before last × behind) ⊎ (IsCutInterim rest (responses 0 requests replies) before last × early)))

-- A session whose write failed: n bytes of the last response were written, and its call has had its effect. A body can't foresee which
-- write fails, so whichever did, the request that it answers was read to its end by the last read before it.
pub record CutOff {S : Type 0} (asked : S → Option (List ℕ)) (old new : S) (answers : List Request → List Reply → Type 0) (input written : List ℕ) (n : ℕ) : Type 0 where
  pub requests : List Request
  pub rest : List ℕ
  pub begins : Begins 0 input requests rest
  pub replies : List Reply
  pub answered : answers requests replies
  pub before : List ℕ
  pub last : List ℕ
  pub cut : IsCutResponse (ReadsBefore asked old new input requests) (ReadsBehind true asked old new input requests) (ReadsBehind false asked old new input requests) rest requests replies before last
  pub within : n < length last
  pub output : written ≡ before ++ take n last

-- What is said of a session whose source tells its input, into a sink that tells what it holds.
abbrev pub ServesAll : {S : Type 0} → (left asked : S → Option (List ℕ)) → S → S → (answers : List Request → List Reply → Type 0) → Option (List ℕ) → Option (List ℕ) → Type 0
ServesAll left asked old new answers held held2 =
    (input : List ℕ) → left old ≡ Some input
    → (written : List ℕ) × Appends held held2 written × ((whole : Whole answers input written) × Took left asked old new input whole.requests whole.ending whole.stream.rest)

-- The same, of a call that tells how the session ended.
abbrev pub EndsSo : {S : Type 0} → Ended → (left asked : S → Option (List ℕ)) → S → S → (answers : List Request → List Reply → Type 0) → Option (List ℕ) → Option (List ℕ) → Type 0
EndsSo ended left asked old new answers held held2 =
    (input : List ℕ) → left old ≡ Some input
    → (written : List ℕ) × Appends held held2 written × ((whole : Whole answers input written) × Took left asked old new input whole.requests whole.ending whole.stream.rest × TellsEnd ended whole.requests whole.ending)

abbrev pub ServesSome : (answers : List Request → List Reply → Type 0) → Option (List ℕ) → Option (List ℕ) → Option (List ℕ) → Option (List ℕ) → Type 0
ServesSome answers left left2 held held2 =
    (input : List ℕ) → left ≡ Some input → (got : List ℕ) × (written : List ℕ) × Consumes left left2 got × Appends held held2 written × Lost answers got written

abbrev pub ServesFirst : (answers : List Request → List Reply → Type 0) → Option (List ℕ) → Option (List ℕ) → Option (List ℕ) → Type 0
ServesFirst answers left held held2 = (input : List ℕ) → left ≡ Some input → (written : List ℕ) × Appends held held2 written × Starved answers input written

abbrev pub ServesUntil : {S : Type 0} → (left asked : S → Option (List ℕ)) → S → S → (answers : List Request → List Reply → Type 0) → Option (List ℕ) → Option (List ℕ) → ℕ → Type 0
ServesUntil left asked old new answers held held2 n = (input : List ℕ) → left old ≡ Some input → (written : List ℕ) × Appends held held2 written × CutOff asked old new answers input written n

-- What is said of a connection, by its result.
abbrev pub Serves : {S : Type 0} → (left asked : S → Option (List ℕ)) → S → S → (answers : List Request → List Reply → Type 0) → (held held2 : Option (List ℕ)) → Result Ended ConnNo → Type 0
Serves left asked old new answers held held2 (Ok ended) = EndsSo ended left asked old new answers held held2
Serves left asked old new answers held held2 (Err ReadFault) = ServesSome answers (left old) (left new) held held2
Serves left asked old new answers held held2 (Err (WriteFault n)) = ServesUntil left asked old new answers held held2 n
Serves left asked old new answers held held2 (Err Want) = ServesFirst answers (left old) held held2

-- the gateway at which a session begins: nobody is live, over an empty log of the words' topics
abbrev pub first_gateway : Command → Hand → Gateway
first_gateway command hand = record { state = record { world = nobody; log = empty_log (plans_of command); hand = hand; counts = no_counts }; names_given = 0 }

-- What is said of the requests of a command: they are answered by one run from its first gateway, which ends with the clock as it
-- stands, over a link that never fails.
abbrev pub IsRunOf : Command → (ticks : Type 0) → Hand → Hand → ((answers : List Request → List Reply → Type 0) → Type 0) → Type 0
IsRunOf command ticks hand hand2 says = (t : Gateway) × (t.state.hand ≡ hand2) × says (Answering no_expiry 0 ⊤ ticks (advertise_of command) (first_gateway command hand) t)

-- the same of a session, whose words ask for a command
abbrev pub IsSession : List (List ℕ) → (ticks : Type 0) → Hand → Hand → ((answers : List Request → List Reply → Type 0) → Type 0) → Type 0
IsSession words ticks hand hand2 says = (command : Command) × (words_of words ≡ Some command) × IsRunOf command ticks hand hand2 says
