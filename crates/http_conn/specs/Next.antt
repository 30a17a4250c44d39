-- What stands at the front of the bytes that are still to come.
use Rattle.std.specs.Prelude.{◌≡◌, ◌⊎◌, ◌++◌, ◌<◌, ⊤, List, [], ℕ, Bool, true, false, ◌==◌, length, Option, Result, Ok, Err}
use Rattle.std.specs.List.{list_any}
use Rattle.http_conn.specs.Stream.{IsRequest, IsCut, IsCutHead, IsBad, IsDue}
use Rattle.http_conn.specs.Told.{Comes, Conn}
use Rattle.http_head.specs.Head.{max_head}
use Rattle.http_conn.specs.declared.request.ConnNo.{ConnNo}
use Rattle.http_conn.specs.declared.request.ConnNo.TheVariants.{ReadFault, WriteFault, Want}
use Rattle.http_conn.specs.declared.request.Next.{Next}
use Rattle.http_conn.specs.declared.request.Request.{Request}
use Rattle.http_conn.specs.declared.request.Next.TheVariants.{Ready, Continue, End, CutShort, Bad}

-- the interim response isn't due, or `Continue` was given for it
abbrev pub IsSettled : Bool → List ℕ → Type 0
IsSettled continued bytes = IsDue bytes → continued ≡ true

-- The bytes give this, and the rest is still to come. `continued` says that `Continue` was given for the request at the front.
abbrev pub Gives : Bool → List ℕ → Next → List ℕ → Type 0
Gives continued all (Ready request) rest = IsRequest all request rest × IsSettled continued all
Gives continued all Continue rest = IsDue all × (continued ≡ false) × (rest ≡ all)
Gives continued all End rest = (all ≡ []) × (rest ≡ [])
Gives continued all CutShort rest = IsCut all × IsSettled continued all × (rest ≡ all)
Gives continued all (Bad reply) rest = IsBad all reply × IsSettled continued all × (rest ≡ all)

-- after a read that failed: what is held is no whole request, and no bad place
abbrev pub IsWaiting : List ℕ → Type 0
IsWaiting held = (held ≡ []) ⊎ IsCut held

-- the last byte of a line
abbrev pub is_line_end : ℕ → Bool
is_line_end b = b == 10

-- no line ends in what is behind the start
abbrev pub IsInLine : List ℕ → List ℕ → Type 0
IsInLine start held = (more : List ℕ) × (held ≡ start ++ more) × (list_any is_line_end more ≡ false)

-- behind the start there are fewer bytes than are wanted in all
abbrev pub IsShort : List ℕ → ℕ → List ℕ → Type 0
IsShort start total held = ((more : List ℕ) × (held ≡ start ++ more)) × (length held < total)

-- no head is whole yet, and one may still come
abbrev pub IsHeadless : List ℕ → Type 0
IsHeadless held = (held ≡ []) ⊎ IsCutHead held

-- What is held waits, or it is a front without a whole head and behind it a line without its end, shorter than the longest head;
-- and the interim response isn't due, or `Continue` was given.
abbrev pub NeedsMore : Bool → List ℕ → Type 0
NeedsMore continued held =
    (IsWaiting held ⊎ (((start : List ℕ) × IsHeadless start × IsInLine start held) × (length held < max_head))) × IsSettled continued held

-- in the line behind the start, below the longest head
abbrev pub IsInHead : List ℕ → List ℕ → Type 0
IsInHead start held = IsInLine start held × (length held < max_head)

-- nothing comes behind it: a request that closes is the last one
abbrev pub is_last : Next → Bool
is_last (Ready request) = request.close
is_last Continue = false
is_last End = true
is_last CutShort = true
is_last (Bad reply) = true

-- it asks for the interim response
abbrev pub is_continue : Next → Bool
is_continue (Ready request) = false
is_continue Continue = true
is_continue End = false
is_continue CutShort = false
is_continue (Bad reply) = false

-- What is given, by the result: what stands at the front of all that is still to come, and what then follows; or, after a read that
-- failed, that no whole request and no bad place is held, so each request that came before was given by an earlier call. Then what
-- was due is still due.
abbrev pub GivesSo : Bool → List ℕ → List ℕ → (left left2 : Option (List ℕ)) → Result Next ConnNo → Type 0
GivesSo continued held held2 left left2 (Ok next) =
    (all : List ℕ) → Comes held left all → (rest : List ℕ) × Comes held2 left2 rest × Gives continued all next rest
GivesSo continued held held2 left left2 (Err ReadFault) =
    (all : List ℕ) → Comes held left all → Comes held2 left2 all × IsWaiting held2 × IsSettled continued held2 × (IsDue held → IsDue held2)
GivesSo continued held held2 left left2 (Err (WriteFault n)) = ⊥
GivesSo continued held held2 left left2 (Err Want) = ⊤

-- whether the connection is over, and whether it gave `Continue` last
abbrev pub StandsSo : Conn → Result Next ConnNo → Type 0
StandsSo conn (Ok next) = (conn.over ≡ is_last next) × (conn.continued ≡ is_continue next)
StandsSo conn (Err e) = conn.over ≡ true

-- what is held gives something without a read: a whole request, or `Continue`
abbrev pub IsAtHand : Bool → List ℕ → Type 0
IsAtHand continued held = ((request : Request) × (rest : List ℕ) × IsRequest held request rest) ⊎ (IsDue held × (continued ≡ false))
