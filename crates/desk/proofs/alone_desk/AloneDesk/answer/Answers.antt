use Rattle.std.proofs.Common.{◌∙◌, ◌≡◌, ap, sym, subst, inl}
use Rattle.model.specs.state.Entry.{Call as Asked}
use Rattle.rest_calls.specs.Responses.{response_in}
use Rattle.rest_calls.specs.Views.{asked_of, entered, PartitionsFit}
use Rattle.desk.specs.Step.{no_expiry}
use Rattle.desk.specs.Runs.{IsAnswered, state_of}
use Rattle.desk.proofs.NamingLemmas.{named_still, whose_is}
use Rattle.desk.proofs.alone_desk.AloneDesk.answer.Goals as goal

pub produce-requires-clause-fit : goal.produce-requires-clause-fit
produce-requires-clause-fit g c =
    subst PartitionsFit (sym c.see-call.ensures.call ∙ c.in-Produce.is) (named_still c.args.call c.in-Ok.call c.args.self.now.names_given c.in-Ok.ensures.entered c.in-Ok.ensures.same c.requires.fit)

pub look_until_answered-requires : goal.look_until_answered-requires
look_until_answered-requires g c = record { whose = whose_is c.see-call.result.call c.in_default.not-Produce c.in_default.not-Ask }

pub returns-in_default : goal.returns-in_default
returns-in_default g c =
    let old = c.args.self.now in
    let new = c.look_until_answered.new in
    let said = c.look_until_answered.ensures in
    let asked_is : asked_of c.in-Ok.call ≡ entered 0 old.names_given (asked_of c.args.call) = c.in-Ok.ensures.entered in
    let seen_is : asked_of c.see-call.result.call ≡ entered 0 old.names_given (asked_of c.args.call) = ap asked_of c.see-call.ensures.call ∙ asked_is in
    record {
      answered = λ told log. inl (
          subst (λ (call : Asked). IsAnswered no_expiry 0 old.shard.advertise (g.L.Link.stand old.shard.link).plain (g.C.Clock.tells c.args.clock.now) call
          (state_of g.L.Link.stand old.shard (g.C.Clock.hand c.args.clock.now)) (response_in c.look_until_answered.result) (state_of g.L.Link.stand new.self.shard (g.C.Clock.hand new.clock))) seen_is (said.answered told log));
      names_given = said.names_given ∙ c.name_unnamed.ensures.names_given;
      advertise = said.advertise;
      goes = said.goes;
      ticking = said.ticking;
    }
