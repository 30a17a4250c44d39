use Rattle.std.proofs.Common.{◌≡◌, []}
use Rattle.std.specs.Prelude.{◌≢◌, All}
use Rattle.broker_link.specs.declared.script.Foreign.{Foreign}
use Rattle.broker_link.specs.Stored.{log_with, OthersCame}
use Rattle.broker_link.proofs.script.add_others.Given as goal

abbrev pub invariant-loop-one : goal.invariant-loop-one
invariant-loop-one l = record {
  came : OthersCame (log_with l.fn.topics.list.items l.fn.others) (log_with l.topics.list.items l.others);
  none : l.list ≡ [] → (l.topics.list.items ≡ l.fn.topics.list.items) × (l.others ≡ l.fn.others);
  unnamed : All (λ (other : Foreign). other.call ≢ l.call) l.list → (l.topics.list.items ≡ l.fn.topics.list.items) × (l.others ≡ l.fn.others);
}
