use Rattle.std.proofs.Common.{◌≡◌, ◌+◌, ◌-◌, arith, ap, ◌∙◌, subst, take, drop}
use Rattle.std.proofs.lemmas.List.{take_rest}
use Rattle.json_token.specs.Chars.{has_backslash}
use Rattle.json_token.specs.Scans.{ScansChars, MarksEscapes}
use Rattle.json_token.specs.declared.scan.Scan.{Scan}
use Rattle.json_token.proofs.TokenEndLemmas.{quoted_ends, quoted_breaks, quoted_cut}
use Rattle.json_token.proofs.token.string_end.Goals as goal

pub returns-in-End-clause-ok : goal.returns-in-End-clause-ok
returns-in-End-clause-ok c =
    let P : Scan → Type 0 = λ s. ScansChars (drop (c.args.place + 1) c.args.bytes.now) s in
    quoted_ends _ _ _ c.requires.inside c.requires.quote (subst P c.in-End.is (rw take_rest at c.chars_end-scan.ensures.scan))

pub returns-in-End-clause-escapes : goal.returns-in-End-clause-escapes
returns-in-End-clause-escapes c = λ e.
    let w = drop (c.args.place + 1) c.args.bytes.now in
    let P : Scan → Type 0 = λ s. MarksEscapes w s c.chars_end-scan.result.1 in
    let n : c.args.place + 1 + c.in-End.len + 1 - 1 - (c.args.place + 1) ≡ c.in-End.len = omega arith in
    ap (λ i. has_backslash (take i w)) n ∙ subst P c.in-End.is (rw take_rest at c.chars_end-scan.ensures.escapes) e

pub returns-in-Bad-clause-err : goal.returns-in-Bad-clause-err
returns-in-Bad-clause-err c =
    let P : Scan → Type 0 = λ s. ScansChars (drop (c.args.place + 1) c.args.bytes.now) s in
    quoted_breaks _ _ _ c.requires.inside c.requires.quote (subst P c.in-Bad.is (rw take_rest at c.chars_end-scan.ensures.scan))

pub returns-in-Short-clause-err : goal.returns-in-Short-clause-err
returns-in-Short-clause-err c =
    let P : Scan → Type 0 = λ s. ScansChars (drop (c.args.place + 1) c.args.bytes.now) s in
    quoted_cut _ _ c.requires.inside c.requires.quote (subst P c.in-Short.is (rw take_rest at c.chars_end-scan.ensures.scan))
