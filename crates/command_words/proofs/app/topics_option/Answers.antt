use Rattle.std.proofs.Common.{ap, codes, true, ◌≡◌, ◌∙◌, Option, Some, None, IsSomeAnd}
use Rattle.clap.specs.Lexer.{usize_max}
use Rattle.clap.specs.Words.{Rule, new_rule, rule_of}
use Rattle.clap.specs.declared.builder.action.ArgAction.TheVariants.{Append}
use Rattle.clap.specs.declared.builder.arg.Arg.{Arg}
use Rattle.clap.specs.declared.builder.range.ValueRange.{ValueRange}
use Rattle.command_words.proofs.app.topics_option.Goals as goal

some_is : (o : Option ValueRange) (x : ValueRange) → IsSomeAnd o (λ v. v ≡ x) → o ≡ Some x
some_is (Some v) x h = ap Some h
some_is None x h = absurd h

pub returns : goal.returns
returns c =
    let held = c.num_args.result.num_vals in
    let range : held ≡ Some (record { start_inclusive = 1; end_inclusive = usize_max }) = some_is _ _ c.num_args.ensures.1 in
    record {
      rule = ap rule_of c.required.ensures
          ∙ ap (λ (a : Arg). rule_of (record a { required = true })) c.num_args.ensures.0
          ∙ ap (λ (a : Arg). rule_of (record a { num_vals = held; required = true })) c.action.ensures
          ∙ ap (λ (r : Rule). record r { action = Some Append; range = held; required = true }) c.new.ensures.rule
          ∙ ap (λ (v : Option ValueRange). record (new_rule (codes "topics")) { action = Some Append; range = v; required = true }) range;
      local = ap (λ (a : Arg). a.global) c.required.ensures ∙ ap (λ (a : Arg). a.global) c.num_args.ensures.0
          ∙ ap (λ (a : Arg). a.global) c.action.ensures ∙ c.new.ensures.optional.1;
    }
