use Rattle.std.proofs.Common.{arith, sym, ◌∙◌}
use Rattle.json_token.proofs.CharWalks.{plain_more}
use Rattle.json_token.proofs.chars.plain_blocks.Goals as goal

pub loop-at-preserved : goal.loop-at-preserved
loop-at-preserved c = record {
  inside = omega arith;
  plain = plain_more c.args.bytes.now c.loop-at.at _ (omega arith) c.loop-at.invariant.plain (sym c.are_plain.ensures ∙ c.if-are_plain.true);
}
