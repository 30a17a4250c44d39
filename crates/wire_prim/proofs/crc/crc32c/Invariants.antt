use Rattle.std.proofs.Common.{◌≡◌, ◌^◌, ◌-◌, fold, take, length}
use Rattle.wire_prim.specs.Crc.{byte_step}
use Rattle.wire_prim.proofs.crc.crc32c.Given as goal

abbrev pub invariant-loop-chunk : goal.invariant-loop-chunk
invariant-loop-chunk l = fold byte_step l.crc l.rest ≡ fold byte_step (2 ^ 32 - 1) l.bytes

abbrev pub decreases-loop-chunk : goal.decreases-loop-chunk
decreases-loop-chunk l = length l.rest

abbrev pub invariant-loop-byte : goal.invariant-loop-byte
invariant-loop-byte l = l.crc ≡ fold byte_step l.initial.crc (take l.byte-index l.byte-items)
