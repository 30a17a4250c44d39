use Rattle.std.proofs.Common.{◌∙◌, ap, sym, fold, rules}
use Rattle.std.specs.Int.Bits.{bit_xor}
use Rattle.wire_prim.specs.Crc.{byte_step}
use Rattle.wire_prim.proofs.Linear.{fold-word}
use Rattle.wire_prim.proofs.Eights.{eight_are}
use Rattle.wire_prim.proofs.crc.after_eight.Goals as goal

pub returns : goal.returns
returns c =
    rw (
      c.part-first.ensures,
      c.part-second.ensures,
      c.part-third.ensures,
      c.part-fourth.ensures,
      c.part.ensures,
      c.part-2.ensures,
      c.part-3.ensures,
      c.part-4.ensures,
    ) (fold-word c.args.crc (bit_xor c.args.crc c.from_le_bytes.result) _ _ _ _ _ _ _ _ c.ranges.crc.fits (search rules) (search rules) (search rules) (search rules) (ap (bit_xor c.args.crc) c.from_le_bytes.ensures)
    ∙ ap (fold byte_step c.args.crc) (sym (eight_are c.args.bytes.now c.told-bytes)))
