-- What a run of a session owes, by the status that it ends with.
use Rattle.std.specs.Prelude.{◌≡◌, ◌⊎◌, ℕ, List, Option, None}
use Rattle.gate_io.specs.Clocks.{Hand}
use Rattle.gate_io.specs.Counts.{Rose}
use Rattle.proxy_cli.specs.Causes.{SinkFailed}
use Rattle.proxy_cli.specs.Session.{IsSession, ServesAll, ServesFirst, ServesSome, ServesUntil}
use Rattle.proxy_cli.specs.Status.{IsStatus}
use Rattle.command_words.specs.Words.{words_of}

-- `left`, `asked` and `broken` are what a source tells, `held`, `failed` and `stalled` what a sink does, `ticks` and `hand` what a
-- clock does; `given` are the words.
pub record SessionRan {S K C : Type 0} (left asked : S → Option (List ℕ)) (broken : S → ℕ) (held : K → Option (List ℕ)) (failed stalled : K → ℕ) (ticks : C → Type 0) (hand : C → Hand) (given : List (List ℕ)) (source source2 : S) (sink sink2 : K) (clock clock2 : C) (status : ℕ) : Type 0 where
  -- Every reply is that of its request in one legal run, each call once and in order, and nothing was read behind the last one.
  pub output : status ≡ 0 → IsSession given (ticks clock) (hand clock) (hand clock2) (λ answers. ServesAll left asked source source2 answers (held sink) (held sink2))
  -- What stands where the source, the sink or memory failed.
  pub lost : status ≡ 3 → IsSession given (ticks clock) (hand clock) (hand clock2) (λ answers. ServesSome answers (left source) (left source2) (held sink) (held sink2))
  pub cut : status ≡ 4 → IsSession given (ticks clock) (hand clock) (hand clock2) (λ answers. (n : ℕ) × ServesUntil left asked source source2 answers (held sink) (held sink2) n)
  pub starved : status ≡ 7 → (sink2 ≡ sink) ⊎ IsSession given (ticks clock) (hand clock) (hand clock2) (λ answers. ServesFirst answers (left source) (held sink) (held sink2))
  -- Each status but 0 and 7 has its cause, and words that don't read leave all as it was.
  pub words : status ≡ 2 → words_of given ≡ None
  pub unread : words_of given ≡ None → (status ≡ 2) ⊎ (status ≡ 7)
  pub untouched : words_of given ≡ None → (sink2 ≡ sink) × (source2 ≡ source)
  pub read : status ≡ 3 → Rose (broken source) (broken source2)
  pub write : status ≡ 4 → SinkFailed failed stalled sink sink2
  pub known : IsStatus status
