-- A record in the bytes as the record that it is.
use Rattle.std.specs.Prelude.{option_map}
use Rattle.record_batch.specs.declared.record.Row.{Row}
use Rattle.broker_link.specs.declared.link.Stored.{Stored}
use Rattle.record_batch.specs.declared.read.Head.{Head}
use Rattle.record_batch.specs.Batch.{Fields}

-- what the references of a row show
abbrev pub seen : Row → Stored
seen row = record { offset = row.offset; key = option_map (λ p. p.now) row.key; value = option_map (λ p. p.now) row.value }

-- what a head shows
abbrev pub fields_seen : Head → Fields
fields_seen head = record { base = head.base; magic = head.magic; crc = head.crc; summed = head.summed.now; attributes = head.attributes; count = head.count }
