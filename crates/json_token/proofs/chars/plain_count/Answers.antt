use Rattle.std.proofs.Common.{arith, sym, ◌∙◌}
use Rattle.json_token.proofs.CharWalks.{plain_one}
use Rattle.json_token.proofs.chars.plain_count.Goals as goal

pub loop-at-preserved : goal.loop-at-preserved
loop-at-preserved c = record {
  inside = omega arith;
  plain = plain_one c.args.bytes.now c.loop-at.at (omega arith) c.loop-at.invariant.plain (sym c.is_plain.ensures ∙ c.if-is_plain.true);
}
