use Rattle.std.proofs.Common.{rules, ◌≡◌, ◌∙◌, ℕ, List, Option, Some, subst, w32, to_z, of_z}
use Rattle.std.specs.Prelude.{ℤ, pos, nat_abs}
use Rattle.std.proofs.lemmas.Int.{to_z-of_z}
use mir.Val.{SFits}
use Rattle.model.specs.state.Entry.{Given}
use Rattle.rest_calls.specs.Reading.{records_in}
use Rattle.rest_calls.specs.Reads.{Fails}
use Rattle.rest_calls.specs.Views.{givens_of}
use Rattle.rest_routes.specs.Media.{format_in}
use Rattle.rest_calls.proofs.Records.{produce_fails, produce_reads}
use Rattle.rest_calls.proofs.sent.produce_to.Goals as goal

pub returns-in-Ok-clause-reads : goal.returns-in-Ok-clause-reads
returns-in-Ok-clause-reads c =
    let fits : SFits w32 c.value.result = search rules in
    let number : to_z w32 (of_z w32 c.value.result) ≡ pos c.args.number = to_z-of_z w32 c.value.result fits ∙ c.value.ensures.value in
    let found : ℕ → Option (List Given) = λ to. records_in (format_in c.args.request.now.content_type) (Some to) c.args.request.now.body in
    produce_reads c.args.topic (found c.args.number) c.in-Ok.batch
    (subst (λ (p : ℤ). found (nat_abs p) ≡ Some (givens_of c.in-Ok.batch)) number c.in-Ok.ensures.reads)

pub returns-in-Err-clause-reads : goal.returns-in-Err-clause-reads
returns-in-Err-clause-reads c =
    let fits : SFits w32 c.value.result = search rules in
    let number : to_z w32 (of_z w32 c.value.result) ≡ pos c.args.number = to_z-of_z w32 c.value.result fits ∙ c.value.ensures.value in
    let found : ℕ → Option (List Given) = λ to. records_in (format_in c.args.request.now.content_type) (Some to) c.args.request.now.body in
    produce_fails c.args.topic (found c.args.number) c.in-Err.e
    (subst (λ (p : ℤ). Fails c.in-Err.e (found (nat_abs p))) number c.in-Err.ensures.reads)
