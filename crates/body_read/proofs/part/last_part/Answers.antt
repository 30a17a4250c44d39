use Rattle.std.proofs.Common.{arith, sym, subst, List, ℕ, drop, inl, inr, length-drop}
use Rattle.std.proofs.lemmas.List.{take_rest}
use Rattle.body_read.specs.Chunks.{TrailersAre, Piece}
use Rattle.body_read.proofs.part.last_part.Goals as goal

pub returns-in-Bad : goal.returns-in-Bad
returns-in-Bad c =
    let line = c.requires.line in
    let rest : List ℕ = drop c.args.len c.args.bytes.now in
    let end : TrailersAre rest (Piece.Bad c.in-Bad.code) =
    subst (λ (b : List ℕ). TrailersAre b (Piece.Bad c.in-Bad.code)) (take_rest c.args.bytes.now c.args.len) c.in-Bad.ensures in
    inr (line.2, rest, line.3, inl (sym line.4, end))

pub returns-in-Cut : goal.returns-in-Cut
returns-in-Cut c =
    let line = c.requires.line in
    let rest : List ℕ = drop c.args.len c.args.bytes.now in
    let end : TrailersAre rest Piece.Cut = subst (λ (b : List ℕ). TrailersAre b Piece.Cut) (take_rest c.args.bytes.now c.args.len) c.in-Cut.ensures in (
      inr (line.2, rest, line.3, inl (sym line.4, end)),
      omega (arith, end.0, line.0, line.1, length-drop c.args.len c.args.bytes.now),
    )
