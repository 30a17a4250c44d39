use Rattle.std.proofs.Common.{length, ap, ◌∙◌}
use Rattle.instance.proofs.resets.set_back.Goals as goal

pub reset_events-requires-clause-same : goal.reset_events-requires-clause-same
reset_events-requires-clause-same g c = ap length c.as_slice.ensures ∙ c.in_ok-told.ensures.same

pub put_told-requires-clause-same : goal.put_told-requires-clause-same
put_told-requires-clause-same g c = ap length c.as_slice-2.ensures ∙ c.in_ok-told.ensures.same
