-- How a connection ended where nothing failed, told by the requests that stand in its bytes and by their ending.
use Rattle.std.specs.Prelude.{◌≡◌, List, length}
use Rattle.http_conn.specs.declared.request.Request.{Request}
use Rattle.http_conn.specs.Stream.{Ending}
use Rattle.http_conn.specs.Stream.Ending.{End, CutShort, BadPlace, Limit, Closed}
use Rattle.proxy_cli.specs.declared.ended.Ended.{Ended}
use Rattle.proxy_cli.specs.declared.ended.EndWhy.{EndWhy}
use Rattle.proxy_cli.specs.declared.ended.EndWhy.TheVariants.{End as AtTheEnd, CutShort as InARequest, BadPlace as AtABadPlace, Limit as AtTheLimit, Closed as AtAClose}

-- the reason is this ending
abbrev pub IsWhy : EndWhy → Ending → Type 0
IsWhy AtTheEnd End = Unit {0}
IsWhy InARequest (CutShort due) = Unit {0}
IsWhy AtABadPlace (BadPlace due reply) = Unit {0}
IsWhy AtTheLimit Limit = Unit {0}
IsWhy AtAClose Closed = Unit {0}
IsWhy why ending = ⊥

-- so many requests stand in the bytes, and the reason is how they end
pub record TellsEnd (ended : Ended) (requests : List Request) (ending : Ending) : Type 0 where
  pub count : ended.requests ≡ length requests
  pub why : IsWhy ended.why ending
