use Rattle.std.proofs.Common.{◌≡◌, ℕ, List, get_or, subst, sym}
use Rattle.std.specs.Prelude.{string_bytes}
use Rattle.rest_replies.proofs.TopicsLemmas.{texts_more, texts_whole}
use Rattle.rest_replies.proofs.topics.array.Goals as goal

pub loop-i-preserved : goal.loop-i-preserved
loop-i-preserved c =
    texts_more c.args.texts.now c.loop-i.i c.as_str.result.now (string_bytes c.loop-i.text) (string_bytes c.put_next.new.text) c.loop-i-test.true (subst (λ (t : List ℕ). t ≡ get_or c.args.texts.now c.loop-i.i t) (sym c.as_str.ensures) c.index-texts-i.is) c.loop-i.invariant c.in_ok-put_next.ensures

pub returns : goal.returns
returns c = texts_whole c.args.texts.now c.loop-i.i (string_bytes c.loop-i.text) (string_bytes c.push_str.new.self) c.loop-i-test.false c.loop-i.invariant c.in_ok-push_str.ensures.bytes
