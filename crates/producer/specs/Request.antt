-- What a produce does, where the link tells it.
use Rattle.std.specs.Prelude.{ℕ, List, Some}
use Rattle.model.specs.state.Log.{IsLog}
use Rattle.model.specs.state.Entry.{Reply}
use Rattle.model.specs.step.Step.{ProduceEnds}
use Rattle.broker_link.specs.Replies.{IsGood}
use Rattle.broker_link.specs.Stands.{Stand}
use Rattle.rest_calls.specs.Views.{batch_of}
use Rattle.rest_calls.specs.declared.call.Batch.{Batch}

-- where the link tells a log, the produce ends as the model has it
abbrev pub EndsTold : Stand → Stand → List ℕ → Batch → Reply → Type 0
EndsTold a b topic batch reply = a.tells → IsLog a.log → ProduceEnds a.log b.log topic (batch_of batch) (Some reply)

-- a plain link that tells a log fails no produce and refuses no record
abbrev pub IsGoodPlainly : Stand → Reply → Type 0
IsGoodPlainly a reply = a.plain → a.tells → IsLog a.log → IsGood reply
