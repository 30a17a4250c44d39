use Rattle.std.proofs.Common.{◌∙◌, arith, ap, sym, subst, Err}
use Rattle.std.proofs.lemmas.Result.{err_from_is_err_and}
use Rattle.broker_link.specs.Produced.{AreParts}
use Rattle.producer.specs.Payloads.{payloads_of}
use Rattle.producer.proofs.Groups.{are_parts}
use Rattle.producer.proofs.Choosing.{as_many}
use Rattle.producer.proofs.Sending.{sent, told_of, unanswered, unsent, untold}
use Rattle.producer.proofs.send.send_parts.Goals as goal

pub returns-in_err-parts : goal.returns-in_err-parts
returns-in_err-parts g c =
    let from = err_from_is_err_and c.from_residual.result c.from_residual.ensures.1 in
    unsent c.args.now c.args.topic.now c.args.count c.args.rows (g.L.Link.stand c.args.link.now) c.from_residual.result (from.1 ∙ ap (λ e. Err e) from.2)

pub produce-requires : goal.produce-requires
produce-requires g c =
    subst AreParts (sym (c.as_slice.ensures.value ∙ c.in_ok-parts.ensures.parts)) (are_parts (payloads_of c.args.count c.args.rows) (omega (arith, as_many c.args.count c.args.rows, c.requires.some)))

pub returns-in_err-placed : goal.returns-in_err-placed
returns-in_err-placed g c =
    let from = err_from_is_err_and c.from_residual-in_err-placed.result c.from_residual-in_err-placed.ensures.1 in
    let here = c.in_err-placed.ensures in
    unanswered c.args.now c.args.topic.now c.args.count c.args.rows (g.L.Link.stand c.args.link.now) (g.L.Link.stand c.produce.new.self) c.as_slice.result.now c.from_residual-in_err-placed.result _
    (from.1 ∙ ap (λ e. Err e) from.2) (c.as_slice.ensures.value ∙ c.in_ok-parts.ensures.parts) here.goes here.asked here.failed here.plainly

pub returns-in_err-told : goal.returns-in_err-told
returns-in_err-told g c =
    let from = err_from_is_err_and c.from_residual-in_err-told.result c.from_residual-in_err-told.ensures.1 in
    let here = c.in_ok-placed.ensures in
    untold c.args.now c.args.topic.now c.args.count c.args.rows (g.L.Link.stand c.args.link.now) (g.L.Link.stand c.produce.new.self) c.as_slice.result.now c.in_ok-placed.placed c.from_residual-in_err-told.result
    (from.1 ∙ ap (λ e. Err e) from.2) (c.as_slice.ensures.value ∙ c.in_ok-parts.ensures.parts) here.goes here.asked here.placed

pub returns : goal.returns
returns g c =
    let here = c.in_ok-placed.ensures in
    sent c.args.now c.args.topic.now c.args.count c.args.rows (g.L.Link.stand c.args.link.now) (g.L.Link.stand c.produce.new.self) c.as_slice.result.now c.in_ok-placed.placed c.in_ok-told.told c.requires.few
    (c.as_slice.ensures.value ∙ c.in_ok-parts.ensures.parts)
    (told_of c.args.count c.args.rows c.in_ok-placed.placed c.as_slice-3.result.now c.in_ok-parts.numbers.items c.as_slice-2.result.now c.in_ok-told.told c.in_ok-told.ensures c.as_slice-3.ensures c.as_slice-2.ensures.value c.in_ok-parts.ensures.numbers)
    here.goes here.asked here.placed here.order here.based here.codes here.lacked
