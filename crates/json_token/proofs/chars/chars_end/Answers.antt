use Rattle.std.proofs.Common.{arith, sym, ◌∙◌}
use Rattle.json_token.proofs.CharWalks.{Leads-more, own_more}
use Rattle.json_token.proofs.chars.chars_end.Goals as goal

pub loop-at-preserved : goal.loop-at-preserved
loop-at-preserved c =
    let l = c.loop-at in
    record {
      inside = c.plain_end-at-in-loop-at.ensures.inside;
      leads = c.plain_end-at-in-loop-at.ensures.leads _ (Leads-more _ _ _ c.args.bytes.now l.at (omega arith) l.invariant.leads (sym c.next_inside.ensures ∙ c.in-Some.is));
      plain = λ e. c.plain_end-at-in-loop-at.ensures.plain (own_more c.args.bytes.now l.at l.escapes (omega arith) l.invariant.plain e);
    }
