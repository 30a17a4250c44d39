use Rattle.std.proofs.Common.{◌≡◌, drop}
use Rattle.command_words.specs.Topics.{are_apart}
use Rattle.command_words.proofs.topic.are_apart.Given as goal

abbrev pub invariant-loop-place : goal.invariant-loop-place
invariant-loop-place l = are_apart (drop l.place l.topics) ≡ are_apart l.topics
