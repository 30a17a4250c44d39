use Rattle.std.proofs.Common.{◌≡◌, sym, subst, to_z, of_z, w16, arith, ℤ}
use Rattle.std.proofs.lemmas.Int.{to_z-of_z}
use Rattle.model.specs.state.Entry.Reply.{Broker}
use Rattle.broker_link.specs.Replies.{link_reply}
use Rattle.broker_link.specs.declared.link.LinkNo.{LinkNo}
use Rattle.rest_replies.specs.Failure.{SaysOrWant}
use Rattle.rest_replies.proofs.failure.link_failure.Goals as goal

pub returns-in-Fault : goal.returns-in-Fault
returns-in-Fault c = record { says = subst (λ (e : LinkNo). SaysOrWant (link_reply e) c.link_fault.result) (sym c.in-Fault.is) c.link_fault.ensures.says }

pub returns-in-Refused : goal.returns-in-Refused
returns-in-Refused c =
    let same : to_z w16 (of_z w16 c.in-Refused.code) ≡ c.in-Refused.code = grind (arith, to_z-of_z) in
    record {
      says = subst (λ (e : LinkNo). SaysOrWant (link_reply e) c.broker_refusal.result) (sym c.in-Refused.is)
          (subst (λ (code : ℤ). SaysOrWant (Broker code) c.broker_refusal.result) same c.broker_refusal.ensures.says);
    }
