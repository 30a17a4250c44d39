-- From one record or header, to several.
use Rattle.std.specs.Prelude.{int_lt}
use Rattle.std.proofs.lemmas.Bool.{true≢false}
use Rattle.std.proofs.Common.{◌≡◌, ℕ, false, negsuc, nat_abs, suc, ◌+◌, ◌-◌, ◌<◌, length, take, drop, ℤ, pos, Result, Ok, Err, true, nat_le, refl, sym, ap, ◌∙◌, arith, length-append}
use Rattle.std.proofs.Math.Seq.{take-append_seam, drop-append_seam}
use Rattle.std.proofs.lemmas.Bool.Decides.{leb_tells}
use Rattle.wire_prim.specs.Reading.{Reading, Takes}
use Rattle.broker_link.specs.declared.link.Stored.{Stored}
use Rattle.record_batch.specs.Read.{Gives, onward}
use Rattle.record_batch.specs.Record.{header_at, headers_at, body_at, body_of}
use Rattle.record_batch.proofs.ReadLemmas.{reading_is}

-- one of the headers that are left
pub one_header : (count counter : ℕ) (at behind : Reading) (done : Unit {0}) → counter < count → header_at at ≡ Ok (done, behind)
    → headers_at (count - counter) at ≡ headers_at (count - (counter + 1)) behind
one_header count counter at behind done left is =
    let one : count - counter ≡ suc (count - (counter + 1)) = omega arith in
    ap (λ n. headers_at n at) one ∙ rw is refl

-- a body of as many bytes as its length says
body_framed : (place : ℕ) (base low : ℤ) (n : ℕ) (at new part : Reading) → Takes part.left at new → length part.left ≡ n → part.place ≡ at.place
    → body_of place base low (pos n) at ≡ onward (body_at base low part) (λ row end. Ok (row, new))
body_framed place base low n at new part taken size same =
    let fits : nat_le n (length at.left) ≡ true = grind (arith, leb_tells, ap length taken.left, length-append part.left new.left) in
    let front : take n at.left ≡ part.left = ap (λ m. take m at.left) (sym size) ∙ ap (take (length part.left)) taken.left ∙ take-append_seam part.left new.left in
    let back : drop n at.left ≡ new.left = ap (λ m. drop m at.left) (sym size) ∙ ap (drop (length part.left)) taken.left ∙ drop-append_seam part.left new.left in
    let whole : record { place = at.place; left = take n at.left } ≡ part = reading_is part _ _ (sym same) front in
    let end : record { place = at.place + n; left = drop n at.left } ≡ new = reading_is new _ _ (omega (arith, taken.place)) back in
    rw (fits, whole, end) refl

pub body_gives : {T : Type 0} (view : T → Stored) (result : Result T ℕ) (place : ℕ) (base low seen : ℤ) (n : ℕ) (at new part part' : Reading) → seen ≡ pos n
    → Takes part.left at new → length part.left ≡ n → part.place ≡ at.place → Gives view result (body_at base low part) part'
    → Gives view result (body_of place base low seen at) new
body_gives view (Ok row) place base low seen n at new part part' is taken long same gives =
    ap (λ z. body_of place base low z at) is ∙ body_framed place base low n at new part taken long same ∙ ap (λ r. onward r (λ row end. Ok (row, new))) gives
body_gives view (Err fault) place base low seen n at new part part' is taken long same gives =
    ap (λ z. body_of place base low z at) is ∙ body_framed place base low n at new part taken long same ∙ ap (λ r. onward r (λ row end. Ok (row, new))) gives

pub pos_of : (z : ℤ) → int_lt z (pos 0) ≡ false → z ≡ pos (nat_abs z)
pos_of (pos n) test = refl
pos_of (negsuc n) test = absurd (true≢false test)
