use Rattle.wire_prim.proofs.TableRows.{looked_up}
use Rattle.wire_prim.proofs.crc.part.Goals as goal

pub returns : goal.returns
returns c = looked_up c.args.behind c.args.byte _ _ c.requires c.ranges.byte.fits
