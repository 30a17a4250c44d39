-- What sending a request's records leaves of a link, and what it answers: Apache Kafka protocol guide, Produce.
use Rattle.std.specs.Prelude.{ℕ, ◌≡◌, true, List, All, map, Result, IfOk, IfErr, OnErr}
use Rattle.std.specs.List.{list_any}
use Rattle.gate_io.specs.Counts.{Rose}
use Rattle.model.specs.history.Legal.{is_failed}
use Rattle.model.specs.step.Produced.{Answered, Unknown}
use Rattle.broker_link.specs.Stands.{Calls, IsOnceAtMost, Stand}
use Rattle.broker_link.specs.declared.link.LinkNo.{LinkNo}
use Rattle.broker_link.specs.declared.link.LinkNo.TheVariants.{Want}
use Rattle.rest_calls.specs.declared.call.Row.{Row}
use Rattle.rest_replies.specs.Answer.{placed_of}
use Rattle.rest_replies.specs.declared.answer.Told.{Told}
use Rattle.producer.specs.Payloads.{payloads_of}
use Rattle.producer.specs.Plain.{TellsPlainly}

-- A link that stood as `a` and stands as `b` was sent the records at this moment, for a topic of n partitions, by one call at most. Where it tells its log, each
-- record is answered by where it stands, and after a failure each partition has all of its records or none. A plain link refuses
-- nothing but what its log lacks, and fails only for want of memory.
pub record Sends (now : ℕ) (topic : List ℕ) (n : ℕ) (rows : List Row) (a b : Stand) (result : Result (List Told) LinkNo) : Type 0 where
  pub goes : Calls a b result
  pub asked : IsOnceAtMost now a.produces b.produces
  pub answered : a.tells → IfOk result (λ told. Answered a.log b.log topic (payloads_of n rows) (map placed_of told))
  pub unknown : a.tells → OnErr result (Unknown a.log b.log topic (payloads_of n rows))
  pub whose : IfOk result (λ told. map (λ t. t.partition) told ≡ map (λ p. p.partition) (payloads_of n rows))
  pub lacked : a.plain → a.tells → IfOk result (All (TellsPlainly a.log topic))
  pub codes : IfOk result (λ told. list_any is_failed (map placed_of told) ≡ true → Rose a.counts.refusals b.counts.refusals)
  pub plainly : a.plain → IfErr result (λ e. e ≡ Want)
