use Rattle.std.proofs.Common.{rules, ◌≡◌, ◌∙◌, ◌++◌, ◌∷◌, [], ap, subst, List, ℕ, length}
use Rattle.std.specs.Prelude.{All, reverse}
use Rattle.std.specs.Vec.{vec_len}
use Rattle.std.proofs.lemmas.List.Elements.{All-head}
use Rattle.broker_link.specs.declared.link.NewRecord.{NewRecord}
use Rattle.broker_link.specs.declared.link.PartRecords.{PartRecords}
use Rattle.model.specs.state.Entry.{Payload}
use Rattle.rest_calls.specs.Views.{PartitionFits}
use Rattle.rest_calls.specs.declared.call.Row.{Row}
use Rattle.producer.specs.Groups.{put_in}
use Rattle.producer.specs.Payloads.{number_at, payload_at}
use Rattle.producer.proofs.Choosing.{turn_more, turn_start}
use Rattle.producer.proofs.ReversedLemmas.{reversed_last}
use Rattle.producer.proofs.by_part.group.Goals as goal

pub loop-row-init : goal.loop-row-init
loop-row-init c = turn_start c.args.count c.args.rows c.in_ok-left.left.items c.new-parts.result.items c.in_ok-numbers.numbers.items c.requires.fit c.in_ok-left.ensures c.new-parts.ensures.items c.in_ok-numbers.ensures.items

pub put_record-requires : goal.put_record-requires
put_record-requires c =
    let last = reversed_last c.loop-row.left.items c.pop.new.self.items c.in-Some.row c.in-Some.ensures.items in
    c.number_of-number.ensures.low (All-head PartitionFits c.in-Some.row (reverse c.pop.new.self.items) (subst (λ (rs : List Row). All PartitionFits rs) last c.loop-row.invariant.fit))

pub loop-row-preserved : goal.loop-row-preserved
loop-row-preserved c =
    let row : Row = c.in-Some.row in
    let parts : List PartRecords = c.loop-row.parts.items in
    let numbers : List ℕ = c.loop-row.numbers.items in
    let size : vec_len c.loop-row.numbers ≡ length numbers = search rules in
    let number : c.number_of-number.result ≡ number_at c.args.count (length numbers) row = c.number_of-number.ensures.value ∙ ap (λ (i : ℕ). number_at c.args.count i row) (c.len-in-Some.ensures ∙ size) in
    let same : payload_on c.number_of-number.result c.new_record.result ≡ payload_at c.args.count (length numbers) row =
    ap (λ (n : ℕ). payload_on n c.new_record.result) number ∙ ap (λ (new : NewRecord). payload_on (number_at c.args.count (length numbers) row) new) c.new_record.ensures in
    turn_more c.args.count c.args.rows c.loop-row.left.items c.pop.new.self.items row parts c.put_record.new.parts.items numbers c.push.new.self.items c.in-Some.ensures.items
    (c.in_ok-put_record.ensures ∙ ap (λ (q : Payload). put_in q parts) same) (c.in_ok-push.ensures.items ∙ ap (λ (n : ℕ). numbers ++ n ∷ []) number) c.loop-row.invariant
  where
    payload_on : ℕ → NewRecord → Payload
    payload_on n new = record { partition = n; key = new.key; value = new.value }
