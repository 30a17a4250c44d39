use Rattle.std.proofs.Common.{List, ℕ, sym, subst}
use Rattle.std.specs.Prelude.{IsUtf8}
use Rattle.http_head.proofs.AskedLemmas.{asked_is_text}
use Rattle.http_head.proofs.asked.asked_text.Goals as goal

pub text_of-requires : goal.text_of-requires
text_of-requires c = subst (λ (l : List ℕ). IsUtf8 l) (sym c.asked_in.ensures) (asked_is_text c.args.target.now c.requires)
