-- The status that a session ends with.
use Rattle.std.specs.Prelude.{◌≡◌, ◌⊎◌, ℕ, Result, Ok, Err}
use Rattle.http_conn.specs.declared.request.ConnNo.{ConnNo}
use Rattle.http_conn.specs.declared.request.ConnNo.TheVariants.{ReadFault, WriteFault, Want}
use Rattle.proxy_cli.specs.declared.ended.Ended.{Ended}

abbrev pub served_status : Result Ended ConnNo → ℕ
served_status (Ok ended) = 0
served_status (Err ReadFault) = 3
served_status (Err (WriteFault n)) = 4
served_status (Err Want) = 7

abbrev pub IsStatus : ℕ → Type 0
IsStatus status = (status ≡ 0) ⊎ ((status ≡ 2) ⊎ ((status ≡ 3) ⊎ ((status ≡ 4) ⊎ (status ≡ 7))))
