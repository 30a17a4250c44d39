-- Whether each record names a partition that its topic has.
use Rattle.std.specs.Prelude.{ℕ, List, Bool, nat_lt}
use Rattle.std.specs.List.{list_all}
use Rattle.rest_calls.specs.declared.call.Row.{Row}
use Rattle.producer.specs.Payloads.{number_in}

-- each record's partition is one of so many
abbrev pub are_within : ℕ → List Row → Bool
are_within count rows = list_all (λ r. nat_lt (number_in r) count) rows
