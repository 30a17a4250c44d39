use Rattle.std.proofs.Common.{List, map, sym, subst}
use Rattle.model.specs.state.Entry.Reply.{Listed}
use Rattle.rest_calls.specs.declared.call.Call.{Call}
use Rattle.rest_replies.specs.Failure.{SaysOrWant}
use Rattle.instance.specs.Telling.{TellsSo}
use Rattle.broker_link.specs.Places.{at_in}
use Rattle.broker_link.specs.declared.place.Place.{Place as CodePlace}
use Rattle.instance.proofs.instance.told.Goals as goal

pub returns-in-Assignments : goal.returns-in-Assignments
returns-in-Assignments c = record {
  says = subst (λ (call : Call). TellsSo (map at_in c.args.consumer.now.assignment.items) call c.listed.result) (sym c.in-Assignments.is)
      (subst (λ (l : List CodePlace). SaysOrWant (Listed (map at_in l)) c.listed.result) c.as_slice.ensures.value c.listed.ensures.says);
}
