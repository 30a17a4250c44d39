use Rattle.std.proofs.Common.{inr, refl, sym, subst, List, ℕ}
use Rattle.httparse.specs.Grammar.{NeverHasSection}
use Rattle.body_read.proofs.ChunkLaws.{whole_front}
use Rattle.body_read.proofs.trailers.short_end.Goals as goal

pub returns-in-Lost : goal.returns-in-Lost
returns-in-Lost c =
    let whole = whole_front c.args.bytes.now c.requires.short in
    inr (inr (subst (λ (l : List ℕ). NeverHasSection l) (sym whole) c.in-Lost.ensures, refl))
