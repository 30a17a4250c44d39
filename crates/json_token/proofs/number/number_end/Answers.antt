use Rattle.std.proofs.Common.{◌<◌, length, arith, sym, ◌∙◌}
use Rattle.json_token.proofs.NumberWalks.{Leads-more}
use Rattle.json_token.proofs.number.number_end.Goals as goal

pub loop-i-preserved : goal.loop-i-preserved
loop-i-preserved c =
    let inside : c.loop-i.i < length c.args.bytes.now = omega arith in
    Leads-more _ _ _ _ _ inside c.loop-i.invariant (sym c.next_part.ensures ∙ c.in-Some.is)
