-- Want of memory may stand in the place of any reply.
use Rattle.std.proofs.Common.{ℕ, List, refl, inl, inr, Option, None, Some, sym, subst, append-nil}
use Rattle.std.specs.Prelude.{[]}
use Rattle.std.specs.Io.KnownBytes.{Appends}
use Rattle.model.specs.state.Entry.{Call, Entry}
use Rattle.http_conn.specs.declared.request.Request.{Request}
use Rattle.rest_codes.specs.declared.response.Reply.{Reply}
use Rattle.rest_codes.specs.declared.response.Reply.TheVariants.{Want}
use Rattle.proxy_cli.specs.Served.{AnswersOne, IsCalled, IsStarved, Gateway, OrWant}

called_wants : (idle caller : ℕ) (plain ticks : Type 0) (advertise : List ℕ) (s t : Gateway) (call : Call) (r : Reply) → IsCalled idle caller plain ticks advertise s t call r → IsCalled idle caller plain ticks advertise s t call Want
called_wants idle caller plain ticks advertise s t call r called = record { said = called.said; answered = called.answered; replied = inr refl; named = called.named }

starved_wants : (s t : Gateway) (call : Call) (r : Reply) → IsStarved s t call r → IsStarved s t call Want
starved_wants s t call r starved = record { wants = refl; same = starved.same; named = starved.named }

answered_wants : (idle caller : ℕ) (plain ticks : Type 0) (advertise : List ℕ) (s t : Gateway) (request : Request) (r : Reply) (own : List Entry)
    → AnswersOne idle caller plain ticks advertise s t request r own → AnswersOne idle caller plain ticks advertise s t request Want own
unfolding called_wants
answered_wants idle caller plain ticks advertise s t request r own (inl refused) = inl (inl refl, refused.1, refused.2)
answered_wants idle caller plain ticks advertise s t request r own (inr (call, reading, inl starved)) = inr (call, reading, inl (starved_wants s t call r starved.0, starved.1))
answered_wants idle caller plain ticks advertise s t request r own (inr (call, reading, inr called)) = inr (call, reading, inr (called_wants idle caller plain ticks advertise s t call r called.0, called.1))

-- nothing appended
pub nothing_appended : (known : Option (List ℕ)) → Appends known known []
nothing_appended None = tt
nothing_appended (Some xs) = sym (append-nil xs)

-- a reply that was answered, or want of memory in its place
pub answered_or_want : (idle caller : ℕ) (plain ticks : Type 0) (advertise : List ℕ) (s t : Gateway) (request : Request) (r said : Reply) (own : List Entry)
    → AnswersOne idle caller plain ticks advertise s t request r own → OrWant r said → AnswersOne idle caller plain ticks advertise s t request said own
answered_or_want idle caller plain ticks advertise s t request r said own answered (inl same) = subst (λ (x : Reply). AnswersOne idle caller plain ticks advertise s t request x own) (sym same) answered
answered_or_want idle caller plain ticks advertise s t request r said own answered (inr want) =
    subst (λ (x : Reply). AnswersOne idle caller plain ticks advertise s t request x own) (sym want) (answered_wants idle caller plain ticks advertise s t request r own answered)
