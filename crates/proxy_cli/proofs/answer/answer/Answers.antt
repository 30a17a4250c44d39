use Rattle.std.proofs.Common.{refl, inl, inr, []}
use Rattle.rest_calls.specs.Views.{asked_of}
use Rattle.desk.specs.Runs.{state_of}
use Rattle.proxy_cli.proofs.answer.answer.Goals as goal

pub returns-in-Ok-clause-answered : goal.returns-in-Ok-clause-answered
returns-in-Ok-clause-answered g c = λ known. elim (c.answer.ensures.answered known.0 known.1) [
  | inl x ↦ (x.own, inr (asked_of c.in-Ok.call, c.in-Ok.ensures.reads, inr (record { said = c.answer.result; answered = x; replied = inl refl; named = c.answer.ensures.names_given }, refl)))
  | inr stays ↦ (
    [],
    inr (
      asked_of c.in-Ok.call,
      c.in-Ok.ensures.reads,
      inl (
        record {
          wants = stays.wants;
          same = λ i. state_of g.L.Link.stand (stays.shard_same i) (g.C.Clock.hand (stays.clock_same i));
          named = c.answer.ensures.names_given;
        },
        refl,
      ),
    ),
  )
]

pub returns-in-Err-clause-answered : goal.returns-in-Err-clause-answered
returns-in-Err-clause-answered g c = λ known. ([], inl (c.in-Err.ensures.refused, refl, refl))
