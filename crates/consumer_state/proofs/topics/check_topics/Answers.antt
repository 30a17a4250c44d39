use Rattle.std.proofs.Common.{ap, sym, ◌∙◌, arith, map, Err}
use Rattle.std.proofs.lemmas.List.{length-map}
use Rattle.std.proofs.lemmas.Result.{err_from_is_err_and}
use Rattle.broker_link.specs.Fetching.{at_of}
use Rattle.consumer_state.specs.declared.topics.AssignNo.{AssignNo}
use Rattle.consumer_state.proofs.Lacking.{fits_sooner, none_lacking, pass_later, pass_sooner}
use Rattle.consumer_state.proofs.Linking.{counts_kept, goes_on}
use Rattle.consumer_state.proofs.topics.check_topics.Goals as goal

pub returns-in_err-check_place-clause-code : goal.returns-in_err-check_place-clause-code
returns-in_err-check_place-clause-code g c = λ tells is.
    let a = (g.L.Link.stand c.args.link.now).log in
    let m = (g.L.Link.stand c.loop-place.link).log in
    let goes = c.loop-place.invariant.goes in
    let keeps = goes.keeps tells in
    let p = err_from_is_err_and c.from_residual.result c.from_residual.ensures.1 in
    let fits = c.check_place.ensures.code (goes.telling tells) (goes.is_log tells is) (pass_later a m (map at_of c.args.parts.now) _ keeps.0 (c.loop-place.invariant.pass tells is)) in
    rw p.1 (fits_sooner (Unit {0}) (Unit {0}) a m (map at_of c.args.parts.now) c.loop-place.place c.check_place.result p.0 keeps.0 (c.in_err-check_place.was ∙ ap (λ (e : AssignNo). Err e) (sym p.2)) fits)

pub loop-place-preserved : goal.loop-place-preserved
loop-place-preserved g c =
    let a = (g.L.Link.stand c.args.link.now).log in
    let m = (g.L.Link.stand c.loop-place.link).log in
    let goes = c.loop-place.invariant.goes in
    record {
      goes = goes_on (g.L.Link.stand c.args.link.now) (g.L.Link.stand c.loop-place.link) (g.L.Link.stand c.check_place.new.link) goes c.check_place.ensures.goes;
      kept = counts_kept (g.L.Link.stand c.args.link.now).counts (g.L.Link.stand c.loop-place.link).counts (g.L.Link.stand c.check_place.new.link).counts c.loop-place.invariant.kept c.check_place.ensures.caused.kept;
      pass = λ tells is.
          let keeps = goes.keeps tells in
          let fits = c.in_ok-check_place.ensures.code (goes.telling tells) (goes.is_log tells is) (pass_later a m (map at_of c.args.parts.now) _ keeps.0 (c.loop-place.invariant.pass tells is)) in
          pass_sooner a m (map at_of c.args.parts.now) _ keeps.0 fits;
    }

pub returns-clause-code : goal.returns-clause-code
returns-clause-code g c = λ tells is.
    none_lacking (g.L.Link.stand c.args.link.now).log (map at_of c.args.parts.now) c.loop-place.place (omega (arith, length-map c.args.parts.now at_of)) (c.loop-place.invariant.pass tells is)
