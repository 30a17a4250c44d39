-- What the calls of a live consumer that ask the link nothing are answered (Confluent REST Proxy API v2, consumers).
use Rattle.std.specs.Prelude.{⊤, List, []}
use Rattle.model.specs.state.Log.{TopicPart}
use Rattle.model.specs.state.Entry.Reply.{Done, Listed, Refused}
use Rattle.rest_calls.specs.declared.call.Call.{Call}
use Rattle.rest_calls.specs.declared.call.Call.TheVariants.{Create, Delete, Assignments, Subscription}
use Rattle.rest_codes.specs.declared.response.Reply.{Reply}
use Rattle.rest_replies.specs.Failure.{SaysOrWant}
use Rattle.rest_replies.specs.Subscription.{SaysSubscribed}

-- a Create finds the consumer live, a Delete is done, the assignment is listed, and no topic is subscribed to
abbrev pub TellsSo : List TopicPart → Call → Reply → Type 0
TellsSo ats (Create group name settings) reply = SaysOrWant (Refused 40902) reply
TellsSo ats (Delete group instance) reply = SaysOrWant Done reply
TellsSo ats (Assignments group instance) reply = SaysOrWant (Listed ats) reply
TellsSo ats (Subscription group instance) reply = SaysSubscribed [] reply
TellsSo ats call reply = ⊤

-- a call of a consumer that asks the link nothing and moves nothing
abbrev pub AsksNothing : Call → Type 0
AsksNothing (Create group name settings) = ⊤
AsksNothing (Delete group instance) = ⊤
AsksNothing (Assignments group instance) = ⊤
AsksNothing (Subscription group instance) = ⊤
AsksNothing call = ⊥
