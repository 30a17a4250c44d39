-- What a question owes, over a link (Confluent REST Proxy API v2, brokers, topics and partitions).
use Rattle.std.specs.Prelude.{ℕ, ◌≡◌, List, Some}
use Rattle.model.specs.state.Forms.{Forms}
use Rattle.model.specs.state.Log.{IsLog}
use Rattle.model.specs.state.Entry.{Question, Reply}
use Rattle.model.specs.state.Entry.Call.{Ask}
use Rattle.model.specs.step.Step.{IsAnswered}
use Rattle.model.specs.texts.Texts.{response_of}
use Rattle.broker_link.specs.Replies.{IsCounted, IsGood}
use Rattle.broker_link.specs.Stands.{Stand}
use Rattle.rest_calls.specs.Responses.{response_in}
use Rattle.rest_codes.specs.declared.response.Reply.{Reply as CodeReply}
use Rattle.topic_reads.specs.Heard.{IsHeard}

-- The reply says what the model allows, where the link tells its log. It has its cause in the counts, and over a plain link that tells
-- its log it is no failure of the link.
pub record Asks (question : Question) (a : Stand) (said : CodeReply) (b : Stand) : Type 0 where
  pub reply : Reply
  pub says : (advertise : List ℕ) (forms : Forms) → response_in said ≡ response_of advertise forms (Ask question) reply
  pub counted : IsCounted a.counts b.counts reply
  pub answered : a.tells → IsLog a.log → IsAnswered question a.log b.log (Some reply)
  pub heard : IsHeard a reply
  pub good : a.plain → a.tells → IsLog a.log → IsGood reply
