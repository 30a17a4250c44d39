-- When a session last read its source, seen by what the source had left as that read began.
use Rattle.std.specs.Prelude.{◌≡◌, ◌⊎◌, ℕ, List, ◌∷◌, ◌++◌, Option, Bool, true}
use Rattle.http_conn.specs.declared.request.Request.{Request}
use Rattle.http_conn.specs.Stream.{Begins, Ending}
use Rattle.http_conn.specs.Stream.Ending.{End, Closed, Limit, CutShort, BadPlace}
use Rattle.http_conn.specs.Told.{Comes}
use Rattle.http_conn.specs.Next.{NeedsMore}

-- That read began behind these first requests of the input, when what was held of the bytes behind them needed more. `continued`
-- says that the interim response may have been written by then.
pub record AskedBehind (continued : Bool) (asked : Option (List ℕ)) (input : List ℕ) (requests : List Request) : Type 0 where
  pub rest : List ℕ
  pub begins : Begins 0 input requests rest
  pub held : List ℕ
  pub comes : Comes held asked rest
  pub needs : NeedsMore continued held

-- it began behind those of these requests that stand in front of one of them, so before the last of them was whole
pub record AskedBefore (asked : Option (List ℕ)) (input : List ℕ) (requests : List Request) : Type 0 where
  pub firsts : List Request
  pub next : Request
  pub others : List Request
  pub parts : requests ≡ firsts ++ (next ∷ others)
  pub behind : AskedBehind true asked input firsts

-- nothing was read, or the last read began before the last of these requests was whole
abbrev pub ReadsBefore : {S : Type 0} → (S → Option (List ℕ)) → S → S → List ℕ → List Request → Type 0
ReadsBefore asked old new input requests = (new ≡ old) ⊎ AskedBefore (asked new) input requests

-- or behind all of them, when it wasn't to be seen yet what follows
abbrev pub ReadsBehind : {S : Type 0} → Bool → (S → Option (List ℕ)) → S → S → List ℕ → List Request → Type 0
ReadsBehind continued asked old new input requests = ReadsBefore asked old new input requests ⊎ AskedBehind continued (asked new) input requests

-- the last read of a connection that ended so: none began behind the last request if its response closes
abbrev pub ReadsTo : {S : Type 0} → (S → Option (List ℕ)) → S → S → List ℕ → List Request → Ending → Type 0
ReadsTo asked old new input requests Closed = ReadsBefore asked old new input requests
ReadsTo asked old new input requests Limit = ReadsBefore asked old new input requests
ReadsTo asked old new input requests End = ReadsBehind true asked old new input requests
ReadsTo asked old new input requests (CutShort due) = ReadsBehind true asked old new input requests
ReadsTo asked old new input requests (BadPlace due reply) = ReadsBehind true asked old new input requests

-- What a session took from its source: what is left there is, behind what was held, the rest of the input.
pub record Took {S : Type 0} (left asked : S → Option (List ℕ)) (old new : S) (input : List ℕ) (requests : List Request) (ending : Ending) (rest : List ℕ) : Type 0 where
  pub held : List ℕ
  pub comes : Comes held (left new) rest
  pub reads : ReadsTo asked old new input requests ending
