use Rattle.std.proofs.Common.{◌∙◌, subst, sym, Some, None}
use Rattle.model.specs.state.World.{Key}
use Rattle.rest_calls.specs.Views.{asked_of}
use Rattle.instance.specs.Views.{events_in}
use Rattle.desk.specs.Consumers.{Puts}
use Rattle.desk.proofs.Calls.{kept_calls, taken_calls, others_of, key_here}
use Rattle.desk.proofs.shard.Shard.call_live.Goals as goal

pub returns-then-not-has_deleted-clause-calls : goal.returns-then-not-has_deleted-clause-calls
returns-then-not-has_deleted-clause-calls g c = λ advertise key act is.
    let old = c.args.self.now in
    let a = g.L.Link.stand old.link in
    let b = g.L.Link.stand c.act.new.link in
    kept_calls old.instances.groups c.act.new.self.groups (asked_of c.args.call.now) key act advertise c.args.moment c.args.round a.tells a.plain a.counts b.counts a.log (events_in c.in-Some.outcome) c.in-Some.outcome.reply b.log
    old.instances.keyed is c.in-Some.ensures.does (sym c.has_deleted.ensures ∙ c.if-not-has_deleted.true)

pub returns-then-not-has_deleted-clause-others : goal.returns-then-not-has_deleted-clause-others
returns-then-not-has_deleted-clause-others g c = λ key act is.
    let does = c.in-Some.ensures.does in
    others_of c.args.self.now.instances.groups c.act.new.self.groups (asked_of c.args.call.now) key act (Some does.live) is does.puts

pub returns-clause-calls : goal.returns-clause-calls
returns-clause-calls g c = λ advertise key act is.
    let old = c.args.self.now in
    let call = asked_of c.args.call.now in
    let a = g.L.Link.stand old.link in
    let b = g.L.Link.stand c.act.new.link in
    let mid = c.act.new.self.groups in
    let left = c.remove.new.self.groups in
    taken_calls old.instances.groups mid left call key act advertise c.args.moment c.args.round a.tells a.plain a.counts b.counts a.log (events_in c.in-Some.outcome) c.in-Some.outcome.reply b.log
    old.instances.keyed is c.in-Some.ensures.does (sym c.has_deleted.ensures ∙ c.if-not-has_deleted.false)
    (subst (λ (k : Key). Puts mid k None left) (key_here call c.group_of.result.now c.name_of.result.now c.group_of.ensures c.name_of.ensures) c.remove.ensures.removed)

pub returns-clause-others : goal.returns-clause-others
returns-clause-others g c = λ key act is.
    let call = asked_of c.args.call.now in
    let does = c.in-Some.ensures.does in
    let removed = subst (λ (k : Key). Puts c.act.new.self.groups k None c.remove.new.self.groups) (key_here call c.group_of.result.now c.name_of.result.now c.group_of.ensures c.name_of.ensures) c.remove.ensures.removed in
    λ other apart. others_of c.act.new.self.groups c.remove.new.self.groups call key act None is removed other apart ∙ others_of c.args.self.now.instances.groups c.act.new.self.groups call key act (Some does.live) is does.puts other apart
