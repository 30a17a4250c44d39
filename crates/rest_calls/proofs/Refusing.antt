-- From where a request is sent, and what its place says of it, to its refusal.
use Rattle.std.proofs.Common.{◌≡◌, ◌∙◌, ◌⊎◌, ℕ, Bool, true, false, inl, inr, refl, sym, subst}
use Rattle.http_conn.specs.declared.request.Request.{Request}
use Rattle.rest_codes.specs.declared.response.Reply.{Reply}
use Rattle.rest_codes.specs.declared.response.Reply.TheVariants.{Want, NoMethod}
use Rattle.rest_codes.specs.Errors.{refusal_of}
use Rattle.rest_routes.specs.Place.{Sent, Nowhere, Lacks, At, sent_of}
use Rattle.rest_routes.specs.declared.place.Place.{Place}
use Rattle.rest_routes.specs.Media.{is_acceptable, is_supported}
use Rattle.rest_calls.specs.Reading.{Read, Reading, ReadingAt, ReadingIn, Refusal, Refuses, LacksMethod, Unless}

-- the reply of a code, or want of memory
pub refuses : (request : Request) (reply : Reply) (code : ℕ) → ((reply ≡ refusal_of code) ⊎ (reply ≡ Want)) → Reading request (Refuses code) → Refusal request reply
refuses request reply code (inl is) reads = inr (Refuses code, is, reads)
refuses request reply code (inr want) reads = inl want

pub nowhere : (request : Request) → sent_of request ≡ Nowhere → Reading request (Refuses 404)
nowhere request sent = subst (λ (s : Sent). ReadingIn s request (Refuses 404)) (sym sent) refl

pub lacking : (request : Request) (place : ℕ) → sent_of request ≡ Lacks place → Refusal request (NoMethod place)
lacking request place sent = inr (LacksMethod place, refl, subst (λ (s : Sent). ReadingIn s request (LacksMethod place)) (sym sent) refl)

-- what a place says of a request that is sent to it
pub sent_there : (request : Request) (place : Place) (read : Read) → sent_of request ≡ At place → ReadingIn (At place) request read → Reading request read
sent_there request place read sent reads = subst (λ (s : Sent). ReadingIn s request read) (sym sent) reads

unless_not : (is : Bool) (code : ℕ) (says : Read → Type 0) → is ≡ false → Unless is code says (Refuses code)
unless_not false code says fails = refl
unless_not true code says fails = absurd cc

unless_so : (is : Bool) (code : ℕ) (says : Read → Type 0) (read : Read) → is ≡ true → says read → Unless is code says read
unless_so true code says read so reads = reads
unless_so false code says read so reads = absurd cc

pub unaccepted : (request : Request) (place : Place) (r : Bool) → sent_of request ≡ At place → r ≡ is_acceptable place request.accept → r ≡ false → Reading request (Refuses 406)
unaccepted request place r sent is fails =
    sent_there request place (Refuses 406) sent
    (unless_not (is_acceptable place request.accept) 406 (λ read. Unless (is_supported place request) 415 (ReadingAt place request) read) (sym is ∙ fails))

pub unsupported : (request : Request) (place : Place) (r q : Bool) → sent_of request ≡ At place → r ≡ is_acceptable place request.accept → r ≡ true → q ≡ is_supported place request → q ≡ false → Reading request (Refuses 415)
unsupported request place r q sent is so does fails =
    sent_there request place (Refuses 415) sent
    (unless_so (is_acceptable place request.accept) 406 (λ read. Unless (is_supported place request) 415 (ReadingAt place request) read) (Refuses 415) (sym is ∙ so)
    (unless_not (is_supported place request) 415 (ReadingAt place request) (sym does ∙ fails)))

pub read_there : (request : Request) (place : Place) (r q : Bool) (read : Read) → sent_of request ≡ At place → r ≡ is_acceptable place request.accept → r ≡ true → q ≡ is_supported place request → q ≡ true
    → ReadingAt place request read → Reading request read
read_there request place r q read sent is so does reads_it reads =
    sent_there request place read sent
    (unless_so (is_acceptable place request.accept) 406 (λ x. Unless (is_supported place request) 415 (ReadingAt place request) x) read (sym is ∙ so)
    (unless_so (is_supported place request) 415 (ReadingAt place request) read (sym does ∙ reads_it) reads))
