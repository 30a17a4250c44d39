use Rattle.std.proofs.Common.{◌∙◌, refl, inl, inr}
use Rattle.rest_codes.specs.declared.response.Reply.TheVariants.{Want}
use Rattle.proxy_cli.proofs.Sending.{sends_bytes}
use Rattle.proxy_cli.proofs.session.send.Goals as goal

pub returns-in-Ok-clause-sent : goal.returns-in-Ok-clause-sent
returns-in-Ok-clause-sent g c = sends_bytes _ _ _ _ c.args.reply.now c.as_slice.result.now (inl refl) (c.as_slice.ensures.value ∙ c.in-Ok.ensures) c.send.result c.send.ensures.ok c.send.ensures.cut c.send.ensures.only

pub returns-in-Err-clause-sent : goal.returns-in-Err-clause-sent
returns-in-Err-clause-sent g c = sends_bytes _ _ _ _ Want _ (inr refl) c.want_response.ensures _ c.send-in-Err.ensures.ok c.send-in-Err.ensures.cut c.send-in-Err.ensures.only
