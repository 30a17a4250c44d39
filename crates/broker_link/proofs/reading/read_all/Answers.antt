use Rattle.std.proofs.Common.{◌+◌, List, subst, sym, take}
use Rattle.model.specs.state.Log.{Log}
use Rattle.broker_link.specs.Reads.{IsReading}
use Rattle.broker_link.specs.Stored.{log_of}
use Rattle.broker_link.specs.declared.fetch.Fetched.{Fetched}
use Rattle.broker_link.proofs.Taking.{read_next}
use Rattle.broker_link.proofs.reading.read_all.Goals as goal

pub loop-ask-preserved : goal.loop-ask-preserved
loop-ask-preserved c =
    let log : Log = log_of c.args.topics.now.list.items in
    let i = c.loop-ask.ask-index in
    subst (λ (all : List Fetched). IsReading log c.args.max_bytes (take (i + 1) c.args.asks.now) all c.read_one.new.bound) (sym c.in_ok-push.ensures.ok)
    (read_next log c.args.max_bytes c.loop-ask.bound c.read_one.new.bound c.args.asks.now i c.loop-ask.fetched c.ask-item.result c.in_ok-read_one.field-0 c.loop-ask-test.true c.ask-item.is c.loop-ask.invariant
    c.in_ok-read_one.ensures.fetched c.in_ok-read_one.ensures.got c.in_ok-read_one.ensures.fills)
