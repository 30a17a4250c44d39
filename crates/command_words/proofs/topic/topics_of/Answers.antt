use Rattle.std.proofs.Common.{ap, Some, sym, ◌∙◌}
use Rattle.command_words.proofs.Behind.{behind_none, behind_refused, behind_more, behind_all}
use Rattle.command_words.proofs.topic.topics_of.Goals as goal

pub loop-word-init : goal.loop-word-init
loop-word-init c = behind_none c.in_ok-topics.topics.items c.args.words.now c.in_ok-topics.ensures.items

pub returns-in_default : goal.returns-in_default
returns-in_default c =
    behind_refused c.loop-word.topics.items c.args.words.now c.loop-word.word-index _ c.loop-word-test.true (sym c.in_default.is ∙ c.in_ok-topic.ensures)
    ∙ c.loop-word.invariant

pub loop-word-preserved : goal.loop-word-preserved
loop-word-preserved c =
    behind_more c.loop-word.topics.items c.push.new.self.items c.in-Some.topic c.args.words.now c.loop-word.word-index _ c.loop-word-test.true
    (sym c.in-Some.is ∙ c.in_ok-topic.ensures) c.in_ok-push.ensures.items
    ∙ c.loop-word.invariant

pub returns : goal.returns
returns c = ap Some c.from_vec.ensures ∙ behind_all c.loop-word.topics.items c.args.words.now c.loop-word.word-index c.loop-word-test.false ∙ c.loop-word.invariant
