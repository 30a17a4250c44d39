use Rattle.std.proofs.Common.{◌≡◌, rules}
use Rattle.std.proofs.lemmas.List.{take_rest}
use Rattle.json_token.specs.declared.chars.Inside.TheVariants.{Plain}
use Rattle.json_token.proofs.CharWalks.{plain_passed, own_passed}
use Rattle.json_token.proofs.chars.plain_end.Goals as goal

pub returns-clause-leads : goal.returns-clause-leads
returns-clause-leads c = let h : c.args.inside ≡ Plain = search rules in λ p. plain_passed p c.args.inside _ _ _ h (rw take_rest at c.plain_run.ensures.plain)

pub returns-clause-plain : goal.returns-clause-plain
returns-clause-plain c = own_passed c.args.bytes.now c.args.place c.plain_run.result (rw take_rest at c.plain_run.ensures.plain)
