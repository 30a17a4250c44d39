use Rattle.std.proofs.Common.{rules, nat_abs, w32, w64, ap, refl}
use Rattle.std.proofs.lemmas.Int.{to_z-of_z}
use Rattle.std.specs.Prelude.{[]}
use mir.Val.{SFits}
use Rattle.model.specs.state.Log.{Log}
use Rattle.broker_link.specs.Stored.{log_of}
use Rattle.broker_link.specs.declared.fetch.FetchFrom.{FetchFrom}
use Rattle.broker_link.proofs.Taking.{asked_there, fetched_if, fills_if, got_if, lacking_there}
use Rattle.broker_link.proofs.reading.read_one.Goals as goal

pub returns-in-Some-clause-fetched : goal.returns-in-Some-clause-fetched
returns-in-Some-clause-fetched c =
    let fits : SFits w64 c.args.ask.now.offset = search rules in
    fetched_if c.read.result c.in-Some.records.now _ c.args.ask.now (ap nat_abs (to_z-of_z w64 c.args.ask.now.offset fits)) c.read.ensures.is

pub returns-in-Some-clause-got : goal.returns-in-Some-clause-got
returns-in-Some-clause-got c =
    let log : Log = log_of c.args.topics.now.list.items in
    let ask : FetchFrom = c.args.ask.now in
    let fits : SFits w64 ask.offset = search rules in
    let whole : SFits w32 ask.partition = search rules in
    got_if log c.read.result c.in-Some.records.now _ ask (ap nat_abs (to_z-of_z w64 ask.offset fits))
    (asked_there log ask c.in-Some.records.now c.as_str.result.now _ c.as_str.ensures (to_z-of_z w32 ask.partition whole) c.in-Some.ensures.value) c.read.ensures.is

pub returns-in-Some-clause-fills : goal.returns-in-Some-clause-fills
returns-in-Some-clause-fills c =
    let log : Log = log_of c.args.topics.now.list.items in
    let ask : FetchFrom = c.args.ask.now in
    let fits : SFits w64 ask.offset = search rules in
    let whole : SFits w32 ask.partition = search rules in
    fills_if log c.read.result c.in-Some.records.now _ ask c.args.bound.now c.read.new.bound (ap nat_abs (to_z-of_z w64 ask.offset fits))
    (asked_there log ask c.in-Some.records.now c.as_str.result.now _ c.as_str.ensures (to_z-of_z w32 ask.partition whole) c.in-Some.ensures.value) c.read.ensures.fills

pub returns-in-None-clause-fetched : goal.returns-in-None-clause-fetched
returns-in-None-clause-fetched c =
    let fits : SFits w64 c.args.ask.now.offset = search rules in
    fetched_if c.read-in-None.result [] _ c.args.ask.now (ap nat_abs (to_z-of_z w64 c.args.ask.now.offset fits)) c.read-in-None.ensures.is

pub returns-in-None-clause-fills : goal.returns-in-None-clause-fills
returns-in-None-clause-fills c =
    let log : Log = log_of c.args.topics.now.list.items in
    let ask : FetchFrom = c.args.ask.now in
    let fits : SFits w64 ask.offset = search rules in
    let whole : SFits w32 ask.partition = search rules in
    fills_if log c.read-in-None.result [] _ ask c.args.bound.now c.read-in-None.new.bound (ap nat_abs (to_z-of_z w64 ask.offset fits))
    (lacking_there log ask c.as_str.result.now _ c.as_str.ensures (to_z-of_z w32 ask.partition whole) (c.in-None.ensures.lacks refl)) c.read-in-None.ensures.fills
