use Rattle.std.proofs.Common.{◌+◌, List, take, [], sym, subst, arith}
use Rattle.std.proofs.lemmas.List.{take_all}
use Rattle.model.specs.state.Log.{Log, Topic}
use Rattle.broker_link.specs.Stored.{ArePut, SomePut, log_of}
use Rattle.broker_link.specs.declared.link.PartRecords.{PartRecords}
use Rattle.broker_link.proofs.topics.MemTopics.put_parts.Goals as goal
use Rattle.broker_link.proofs.Answered.{put_first, put_next, some_of, on_err}

pub loop-part-init : goal.loop-part-init
loop-part-init c =
    subst (ArePut (log_of c.args.self.now.list.items) (log_of c.args.self.now.list.items) c.args.topic.now []) (sym c.new-placed.ensures) (put_first c.args.self.now.list.items c.args.topic.now)

pub loop-part-preserved : goal.loop-part-preserved
loop-part-preserved c =
    let a : Log = log_of c.args.self.now.list.items in
    let b : Log = log_of c.put_part.new.self.list.items in
    let i = c.loop-part.part-index in
    subst (ArePut a b c.args.topic.now (take (i + 1) c.args.parts.now)) (sym c.in_ok-push.ensures.ok)
    (put_next a (log_of c.loop-part.self.list.items) b c.args.topic.now c.args.parts.now i c.loop-part.placed c.part-item.result c.in_ok-one.one c.loop-part-test.true c.part-item.is
    c.loop-part.invariant c.in_ok-one.ensures.ok)

pub returns-in_err-one-clause-err : goal.returns-in_err-one-clause-err
returns-in_err-one-clause-err c =
    let a : Log = log_of c.args.self.now.list.items in
    on_err c.from_residual.result _
    (subst (λ (ts : List Topic). SomePut a (log_of ts) c.args.topic.now c.args.parts.now) (sym c.in_err-one.ensures.err)
    (some_of a (log_of c.loop-part.self.list.items) c.args.topic.now c.args.parts.now c.loop-part.part-index c.loop-part.placed c.loop-part.invariant))

pub returns-in_err-push-clause-err : goal.returns-in_err-push-clause-err
returns-in_err-push-clause-err c =
    let a : Log = log_of c.args.self.now.list.items in
    let b : Log = log_of c.put_part.new.self.list.items in
    let i = c.loop-part.part-index in
    on_err c.from_residual-in_err-push.result _
    (some_of a b c.args.topic.now c.args.parts.now (i + 1) _
    (put_next a (log_of c.loop-part.self.list.items) b c.args.topic.now c.args.parts.now i c.loop-part.placed c.part-item.result c.in_ok-one.one c.loop-part-test.true c.part-item.is
    c.loop-part.invariant c.in_ok-one.ensures.ok))

pub returns-clause-ok : goal.returns-clause-ok
returns-clause-ok c =
    let a : Log = log_of c.args.self.now.list.items in
    let b : Log = log_of c.loop-part.self.list.items in
    subst (λ (ps : List PartRecords). ArePut a b c.args.topic.now ps c.loop-part.placed) (take_all c.loop-part.part-index c.args.parts.now (omega (arith, c.loop-part-test.false))) c.loop-part.invariant
