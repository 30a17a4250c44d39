use Rattle.wire_prim.specs.Crc.{zero_bytes}
use Rattle.wire_prim.proofs.Linear.{byte_step-looked_up}
use Rattle.wire_prim.proofs.crc.after_byte.Goals as goal

pub returns : goal.returns
unfolding zero_bytes
returns c = byte_step-looked_up c.args.crc c.args.byte _ c.ranges.byte.fits c.part.ensures
