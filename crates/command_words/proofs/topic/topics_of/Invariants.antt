use Rattle.std.proofs.Common.{◌≡◌, drop, map}
use Rattle.command_words.specs.Topics.{topics_of}
use Rattle.command_words.proofs.Behind.{behind}
use Rattle.command_words.proofs.topic.topics_of.Given as goal

abbrev pub invariant-loop-word : goal.invariant-loop-word
invariant-loop-word l = behind l.topics.items (drop l.word-index l.words) ≡ topics_of (map (λ w. w.now) l.words)
