use Rattle.std.proofs.Common.{◌≡◌, length, true, false, sym, ap, ◌∙◌}
use Rattle.std.specs.Prelude.{nat_le}
use Rattle.avro_schema.specs.Canonical.{canonical_form}
use Rattle.avro_schema.proofs.Finished.{root_inside, whole_is}
use Rattle.avro_schema.proofs.Answered.{short_ends, long_ends}
use Rattle.avro_schema.proofs.read.finish.Goals as goal

pub is_short-requires-clause-inside : goal.is_short-requires-clause-inside
is_short-requires-clause-inside c = root_inside c.args.parts c.args.root c.requires.0 c.requires.1

pub returns-in-Ok-true : goal.returns-in-Ok-true
returns-in-Ok-true c = λ t f.
    let test : nat_le (length (canonical_form t)) 65536 ≡ true = ap (λ u. nat_le (length (canonical_form u)) 65536) (sym (whole_is c.args.parts c.args.root t f)) ∙ sym c.in-Ok-true.ensures.ok ∙ c.in-Ok-true.field-0-test in
    short_ends t c.whole.result test (c.whole.ensures t f)

pub returns-in-Ok-false : goal.returns-in-Ok-false
returns-in-Ok-false c = λ t f.
    let test : nat_le (length (canonical_form t)) 65536 ≡ false = ap (λ u. nat_le (length (canonical_form u)) 65536) (sym (whole_is c.args.parts c.args.root t f)) ∙ sym c.in-Ok-false.ensures.ok ∙ c.in-Ok-false.field-0-test in
    long_ends t test
