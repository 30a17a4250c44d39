use Rattle.std.proofs.Common.{List, ℕ, Option, nat_abs, option_map, subst}
use Rattle.forms.specs.declared.format.Format.{Format}
use Rattle.rest_calls.specs.Body.{produced_by}
use Rattle.rest_calls.specs.Reading.{records_in}
use Rattle.rest_calls.specs.Reads.{Reads}
use Rattle.rest_calls.specs.Views.{givens_of}
use Rattle.rest_calls.proofs.sent.records_in.Goals as goal

pub returns-in-Some-clause-reads : goal.returns-in-Some-clause-reads
returns-in-Some-clause-reads c =
    let to = option_map nat_abs c.args.to in
    let result = c.read_body.result in
    subst (λ (named : Option Format). Reads givens_of result (records_in named to c.args.request.now.body)) c.in-Some.ensures
    (subst (λ (body : List ℕ). Reads givens_of result (produced_by c.in-Some.format to body)) c.as_slice.ensures c.read_body.ensures.reads)
