-- The records of a request as the model has them.
use Rattle.std.specs.Prelude.{ℕ, List, map, nat_abs, option_map}
use Rattle.model.specs.state.Entry.{Payload}
use Rattle.model.specs.step.Produced.{chosen, or_named, partition_of}
use Rattle.rest_calls.specs.Views.{bytes_of, given_of}
use Rattle.rest_calls.specs.declared.call.Row.{Row}

-- the partition that the record names, or 0
abbrev pub number_in : Row → ℕ
number_in r = or_named (option_map nat_abs r.partition) 0

-- the partition, of n, of the record at this index of a request
abbrev pub number_at : (n index : ℕ) → Row → ℕ
number_at n index r = or_named (option_map nat_abs r.partition) (partition_of (bytes_of r.key) index n)

-- the record at this index, for a topic of n partitions
abbrev pub payload_at : (n index : ℕ) → Row → Payload
payload_at n index r = record { partition = number_at n index r; key = bytes_of r.key; value = bytes_of r.value }

-- the records of a request, for a topic of n partitions
abbrev pub payloads_of : ℕ → List Row → List Payload
payloads_of n rows = chosen n 0 (map given_of rows)
