use Rattle.std.proofs.Common.{◌+◌, subst, sym}
use Rattle.broker_link.specs.Reads.{IsTaking}
use Rattle.broker_link.proofs.Taking.{taken_so_far, taking_all, taking_next, taking_none, taking_stops, tested}
use Rattle.broker_link.proofs.reading.take_rows.Goals as goal

pub returns-then-not-takes-clause-taken : goal.returns-then-not-takes-clause-taken
returns-then-not-takes-clause-taken c = taken_so_far c.args.base c.args.records.now c.loop-i.i c.loop-i.rows c.args.bound.now c.loop-i.bound c.loop-i.invariant

pub loop-i-preserved : goal.loop-i-preserved
loop-i-preserved c =
    let row = c.in_ok-row_at.field-0 in
    subst (λ rows. IsTaking c.args.base c.args.records.now (c.loop-i.i + 1) rows c.args.bound.now c.takes.new.self) (sym c.in_ok-push.ensures.ok)
    (taking_next c.args.base c.args.records.now c.loop-i.i c.index-records-i.result c.loop-i.rows row c.args.bound.now c.loop-i.bound c.takes.new.self c.takes.result c.loop-i-test.true c.index-records-i.is c.requires c.loop-i.invariant
    c.in_ok-row_at.ensures.offset c.in_ok-row_at.ensures.key c.in_ok-row_at.ensures.value
    (tested c.args.base c.args.records.now c.loop-i.i c.index-records-i.result c.loop-i.bound c.takes.new.self c.size_of.result c.takes.result c.index-records-i.is c.size_of.ensures c.takes.ensures.takes c.takes.ensures.left c.takes.ensures.begun)
    c.if-not-takes.false)

pub loop-i-init : goal.loop-i-init
loop-i-init c = taking_none c.args.base c.args.records.now c.args.bound.now _ c.new-rows.ensures

pub returns-then-not-takes-clause-fills : goal.returns-then-not-takes-clause-fills
returns-then-not-takes-clause-fills c =
    taking_stops c.args.base c.args.records.now c.loop-i.i c.index-records-i.result c.loop-i.rows c.args.bound.now c.loop-i.bound c.takes.new.self c.takes.result c.loop-i-test.true c.loop-i.invariant
    (tested c.args.base c.args.records.now c.loop-i.i c.index-records-i.result c.loop-i.bound c.takes.new.self c.size_of.result c.takes.result c.index-records-i.is c.size_of.ensures c.takes.ensures.takes c.takes.ensures.left c.takes.ensures.begun)
    c.if-not-takes.true

pub returns-clause-fills : goal.returns-clause-fills
returns-clause-fills c = taking_all c.args.base c.args.records.now c.loop-i.i c.loop-i.rows c.args.bound.now c.loop-i.bound c.loop-i-test.false c.loop-i.invariant
