use Rattle.std.proofs.Common.{◌∙◌, ◌+◌, refl, ap, sym, subst, arith}
use Rattle.std.specs.Prelude.{◌==◌}
use Rattle.broker_link.proofs.Going.{goes_nowhere, goes_on}
use Rattle.http_conn.specs.Stream.{max_requests}
use Rattle.http_conn.specs.Told.{Conn}
use Rattle.proxy_cli.specs.Served.{Exchanges, ExchangesAll}
use Rattle.proxy_cli.proofs.Answered.{exchanges_none, exchanges_more, exchanges_same}
use Rattle.proxy_cli.proofs.Progress.{Progress, progress_start, progress_more, progress_end, progress_limit, progress_closed, same_held, starved_first}
use Rattle.proxy_cli.proofs.Serving.{serves_failed}
use Rattle.proxy_cli.proofs.session.serve_stream.Goals as goal

pub returns-in-Err-clause-serves : goal.returns-in-Err-clause-serves
returns-in-Err-clause-serves g c = λ known input told.
    starved_first g.S.Source.left g.S.Source.asked c.args.source.now (ExchangesAll g.L.Link.stand g.C.Clock.tells g.C.Clock.hand c.args.desk.now c.args.clock.now c.args.desk.now c.args.clock.now) input (g.K.Sink.held c.args.sink.now)
    (exchanges_none g.L.Link.stand g.C.Clock.tells g.C.Clock.hand c.args.desk.now c.args.clock.now) told

pub returns-in-Err-new-clause-serves : goal.returns-in-Err-new-clause-serves
returns-in-Err-new-clause-serves g c = λ known input told.
    starved_first g.S.Source.left g.S.Source.asked c.args.source.now (ExchangesAll g.L.Link.stand g.C.Clock.tells g.C.Clock.hand c.args.desk.now c.args.clock.now c.args.desk.now c.args.clock.now) input (g.K.Sink.held c.args.sink.now)
    (exchanges_none g.L.Link.stand g.C.Clock.tells g.C.Clock.hand c.args.desk.now c.args.clock.now) told

pub loop-count-init : goal.loop-count-init
loop-count-init g c = record {
  fresh = ap (λ (k : Conn). k.continued) c.in-Ok.ensures;
  goes = (refl, goes_nowhere (g.L.Link.stand c.args.desk.now.shard.link), λ ticks. ticks);
  progress = λ known input told.
      let none = ExchangesAll g.L.Link.stand g.C.Clock.tells g.C.Clock.hand c.args.desk.now c.args.clock.now c.args.desk.now c.args.clock.now in
      subst (λ (k : Conn). Progress g.S.Source.left g.S.Source.asked c.args.source.now c.args.source.now none input (g.K.Sink.held c.args.sink.now) (g.K.Sink.held c.args.sink.now) 0 k) (sym c.in-Ok.ensures)
      (progress_start g.S.Source.left g.S.Source.asked c.args.source.now none input (g.K.Sink.held c.args.sink.now) (exchanges_none g.L.Link.stand g.C.Clock.tells g.C.Clock.hand c.args.desk.now c.args.clock.now) told);
  counts = (omega arith, (omega arith, omega arith));
}

pub loop-count-preserved : goal.loop-count-preserved
loop-count-preserved g c =
    let before = c.loop-count.invariant in
    let said = c.in-Ok-None.ensures in
    record {
      fresh = said.fresh;
      goes = (
        said.goes.0 ∙ before.goes.0,
        goes_on (g.L.Link.stand c.args.desk.now.shard.link) (g.L.Link.stand c.loop-count.desk.shard.link) (g.L.Link.stand c.serve_one.new.desk.shard.link) before.goes.1 said.goes.1,
        λ ticks. said.goes.2 (before.goes.2 ticks),
      );
      progress = λ known input told.
          let turn = rw c.in-Ok-None.field-0-is at (said.turn (before.goes.1.telling known.0, before.goes.1.is_log known.0 known.1)) in
          progress_more g.S.Source.left g.S.Source.asked c.args.source.now c.loop-count.source c.serve_one.new.source _ _ (Exchanges g.L.Link.stand g.C.Clock.tells g.C.Clock.hand c.loop-count.desk c.loop-count.clock c.serve_one.new.desk c.serve_one.new.clock) input _ _ _ c.loop-count.count _ _ (c.loop-count.count + 1 == max_requests) c.loop-count-test.true (sym c.is_over.ensures ∙ c.if-is_over.false)
          (before.progress known input told)
          (exchanges_more g.L.Link.stand g.C.Clock.tells g.C.Clock.hand c.args.desk.now c.loop-count.desk c.serve_one.new.desk c.args.clock.now c.loop-count.clock c.serve_one.new.clock before.goes.0 before.goes.1.plainly before.goes.2)
          (λ all comes. turn all comes) said.patient refl;
      counts = (omega (arith, before.counts.0, said.counts.0), (omega (arith, before.counts.1.0, said.counts.1.0), omega (arith, before.counts.1.1, said.counts.1.1)));
    }

pub returns-in-Ok-Some-clause-serves : goal.returns-in-Ok-Some-clause-serves
returns-in-Ok-Some-clause-serves g c = λ known input told.
    let before = c.loop-count.invariant in
    let ended = rw c.in-Ok-Some.field-0-is at (c.in-Ok-Some.ensures.turn (before.goes.1.telling known.0, before.goes.1.is_log known.0 known.1)) in
    progress_end g.S.Source.left g.S.Source.asked c.args.source.now c.loop-count.source c.serve_one.new.source _ input _ _ _ _ _ c.in-Ok-Some.why c.loop-count-test.true (sym c.is_over.ensures ∙ c.if-is_over.false)
    (same_held g.S.Source.left g.S.Source.asked c.args.source.now c.loop-count.source _ _ input _ _ _ _ _ refl (exchanges_same g.L.Link.stand g.C.Clock.tells g.C.Clock.hand c.args.desk.now c.loop-count.desk c.serve_one.new.desk c.args.clock.now c.loop-count.clock c.serve_one.new.clock ended.0.0 ended.0.1) (before.progress known input told)) c.in-Ok-Some.ensures.patient ended.1

pub returns-then-is_over-clause-serves : goal.returns-then-is_over-clause-serves
returns-then-is_over-clause-serves g c = λ known input told.
    progress_closed g.S.Source.left g.S.Source.asked c.args.source.now c.loop-count.source _ input _ _ _ _ c.loop-count-test.true (sym c.is_over.ensures ∙ c.if-is_over.true) (c.loop-count.invariant.progress known input told)

pub returns-clause-serves : goal.returns-clause-serves
returns-clause-serves g c = λ known input told. progress_limit g.S.Source.left g.S.Source.asked c.args.source.now c.loop-count.source _ input _ _ _ _ (c.loop-count.invariant.progress known input told) (omega arith)

pub returns-in-Err-serve_one-clause-serves : goal.returns-in-Err-serve_one-clause-serves
returns-in-Err-serve_one-clause-serves g c = λ known.
    let before = c.loop-count.invariant in
    serves_failed g.S.Source.left g.S.Source.asked c.args.source.now c.loop-count.source c.serve_one.new.source _ _ (Exchanges g.L.Link.stand g.C.Clock.tells g.C.Clock.hand c.loop-count.desk c.loop-count.clock c.serve_one.new.desk c.serve_one.new.clock) _ _ _ _ c.loop-count.count c.loop-count.connection c.serve_one.new.connection (c.loop-count.count + 1 == max_requests) c.loop-count-test.true (sym c.is_over.ensures ∙ c.if-is_over.false)
    (λ input told. before.progress known input told)
    (exchanges_more g.L.Link.stand g.C.Clock.tells g.C.Clock.hand c.args.desk.now c.loop-count.desk c.serve_one.new.desk c.args.clock.now c.loop-count.clock c.serve_one.new.clock before.goes.0 before.goes.1.plainly before.goes.2)
    (λ idle. exchanges_same g.L.Link.stand g.C.Clock.tells g.C.Clock.hand c.args.desk.now c.loop-count.desk c.serve_one.new.desk c.args.clock.now c.loop-count.clock c.serve_one.new.clock idle.0 idle.1)
    c.in-Err-serve_one.ensures.patient refl c.in-Err-serve_one.e
    (c.in-Err-serve_one.ensures.turn (before.goes.1.telling known.0, before.goes.1.is_log known.0 known.1))
