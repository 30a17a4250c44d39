-- One turn of a session: one request, or why there is no further one.
use Rattle.std.specs.Prelude.{◌≡◌, ◌⊎◌, ◌||◌, ◌<◌, ◌++◌, ℕ, List, [], length, take, Bool, true, false, Option, None, Some, Result, Ok, Err}
use Rattle.std.specs.Io.KnownBytes.{Appends}
use Rattle.rest_codes.specs.Response.{response_of}
use Rattle.rest_codes.specs.declared.response.Reply.{Reply}
use Rattle.http_conn.specs.declared.request.ConnNo.{ConnNo}
use Rattle.http_conn.specs.declared.request.ConnNo.TheVariants.{ReadFault, WriteFault, Want}
use Rattle.http_conn.specs.declared.request.Request.{Request}
use Rattle.http_conn.specs.Next.{Gives, IsWaiting}
use Rattle.http_conn.specs.declared.request.Next.{Next}
use Rattle.http_conn.specs.Stream.{DueIs, Ending, IsRequest, IsCut, IsBad, IsDue, interim_bytes}
use Rattle.http_conn.specs.Stream.Ending.{End, Closed, Limit, CutShort, BadPlace}
use Rattle.http_conn.specs.Told.{Comes, Conn}
use Rattle.proxy_cli.specs.Ended.{IsWhy}
use Rattle.proxy_cli.specs.declared.ended.EndWhy.{EndWhy}
use Rattle.proxy_cli.specs.Served.{OrWant, interim_if}
use Rattle.proxy_cli.specs.Session.{IsLast}

-- one request of what is still to come was answered, the rest is still to come, and the connection is over if the request closes
pub record ServesOne (answers : Request → Reply → Type 0) (all : List ℕ) (conn : Conn) (left : Option (List ℕ)) (before now : Option (List ℕ)) (close : Bool) : Type 0 where
  pub request : Request
  pub reply : Reply
  pub rest : List ℕ
  pub comes : Comes conn.held left rest
  pub over : conn.over ≡ request.close
  pub fresh : conn.continued ≡ false
  pub is : IsRequest all request rest
  pub answered : answers request reply
  pub wrote : Appends before now (interim_if request.expects ++ response_of reply (request.close || close))

-- why no request follows
abbrev pub EndsAs : List ℕ → Ending → Type 0
EndsAs all End = all ≡ []
EndsAs all Closed = ⊥
EndsAs all Limit = ⊥
EndsAs all (CutShort due) = DueIs all due × IsCut all
EndsAs all (BadPlace due r) = DueIs all due × IsBad all r

-- there is no further request, for this reason, and what is still to come stays
pub record EndsHere (why : EndWhy) (all : List ℕ) (left : Option (List ℕ)) (before now : Option (List ℕ)) : Type 0 where
  pub held : List ℕ
  pub comes : Comes held left all
  pub ending : Ending
  pub is_why : IsWhy why ending
  pub ends : EndsAs all ending
  pub last : List ℕ
  pub is_last : IsLast ending last
  pub wrote : Appends before now last

-- the first n bytes of these were written, and not all
abbrev pub CutAt : ℕ → List ℕ → Option (List ℕ) → Option (List ℕ) → Type 0
CutAt n bytes before now = (n < length bytes) × Appends before now (take n bytes)

-- these were written, and the first n bytes of those behind them, but not all
abbrev pub CutBehind : List ℕ → ℕ → List ℕ → Option (List ℕ) → Option (List ℕ) → Type 0
CutBehind front n bytes before now = (n < length bytes) × Appends before now (front ++ take n bytes)

-- the response to a reply of which this is so was written, or its first bytes were
abbrev pub Sends : (says : Reply → Type 0) → Bool → (before now : Option (List ℕ)) → Result Unit ConnNo → Type 0
Sends says close before now (Ok done) = (said : Reply) × says said × Appends before now (response_of said close)
Sends says close before now (Err (WriteFault n)) = (said : Reply) × says said × CutAt n (response_of said close) before now
Sends says close before now (Err ReadFault) = ⊥
Sends says close before now (Err Want) = ⊥

-- a request was answered, and its response was cut
pub record CutsReply (answers : Request → Reply → Type 0) (n : ℕ) (all : List ℕ) (before now : Option (List ℕ)) (close : Bool) : Type 0 where
  pub request : Request
  pub reply : Reply
  pub rest : List ℕ
  pub is : IsRequest all request rest
  pub answered : answers request reply
  pub cut : CutBehind (interim_if request.expects) n (response_of reply (request.close || close)) before now

-- the response to a bad place was cut
pub record CutsRefusal (n : ℕ) (all : List ℕ) (before now : Option (List ℕ)) : Type 0 where
  pub wanted : Reply
  pub bad : IsBad all wanted
  pub due : Bool
  pub is_due : DueIs all due
  pub said : Reply
  pub replied : OrWant wanted said
  pub cut : CutBehind (interim_if due) n (response_of said true) before now

-- the interim response was written if it is due for these bytes
abbrev pub WritesInterim : List ℕ → (before now : Option (List ℕ)) → Type 0
WritesInterim bytes before now = (due : Bool) × DueIs bytes due × Appends before now (interim_if due)

-- nothing was written, or the interim response, which is due for these bytes
abbrev pub MayWriteInterim : List ℕ → (before now : Option (List ℕ)) → Type 0
MayWriteInterim bytes before now = (asked : Bool) × (asked ≡ true → IsDue bytes) × Appends before now (interim_if asked)

-- What is found at the front of what is still to come, once the interim response is written if it is due, by the result. `early`
-- says that nothing was read once it was due.
abbrev pub Finds : (early : Type 0) → Conn → Conn → (left left2 before now : Option (List ℕ)) → Result Next ConnNo → Type 0
Finds early conn conn2 left left2 before now (Ok next) =
    (all : List ℕ) → Comes conn.held left all → WritesInterim all before now × ((rest : List ℕ) × Comes conn2.held left2 rest × Gives true all next rest)
Finds early conn conn2 left left2 before now (Err ReadFault) =
    (all : List ℕ) → Comes conn.held left all → Comes conn2.held left2 all × IsWaiting conn2.held × WritesInterim conn2.held before now
Finds early conn conn2 left left2 before now (Err (WriteFault n)) = early × ((all : List ℕ) → Comes conn.held left all → IsDue all × CutAt n interim_bytes before now)
Finds early conn conn2 left left2 before now (Err Want) = (all : List ℕ) → Comes conn.held left all → MayWriteInterim all before now

-- the interim response was cut
abbrev pub CutsInterim : (early : Type 0) → ℕ → List ℕ → (before now : Option (List ℕ)) → Type 0
CutsInterim early n all before now = early × IsDue all × CutAt n interim_bytes before now

-- One turn by its result. `answers` says that a request was answered, `idle` that nothing was asked of the desk, and `early` that
-- nothing was read once the interim response was due.
abbrev pub Turns : (answers : Request → Reply → Type 0) (idle early : Type 0) → Conn → Conn → (left left2 before now : Option (List ℕ)) → Bool → Result (Option EndWhy) ConnNo → Type 0
Turns answers idle early conn conn2 left left2 before now close (Ok None) = (all : List ℕ) → Comes conn.held left all → ServesOne answers all conn2 left2 before now close
Turns answers idle early conn conn2 left left2 before now close (Ok (Some why)) = idle × ((all : List ℕ) → Comes conn.held left all → EndsHere why all left2 before now)
Turns answers idle early conn conn2 left left2 before now close (Err (WriteFault n)) =
    (all : List ℕ) → Comes conn.held left all → CutsReply answers n all before now close ⊎ ((CutsRefusal n all before now ⊎ CutsInterim early n all before now) × idle)
Turns answers idle early conn conn2 left left2 before now close (Err ReadFault) =
    idle × ((all : List ℕ) → Comes conn.held left all → Comes conn2.held left2 all × IsWaiting conn2.held × WritesInterim conn2.held before now)
Turns answers idle early conn conn2 left left2 before now close (Err Want) = idle × ((all : List ℕ) → Comes conn.held left all → MayWriteInterim all before now)
