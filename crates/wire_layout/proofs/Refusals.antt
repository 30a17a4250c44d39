-- From bytes that don't read, or read with bytes left over, to the answer about the whole message.
use Rattle.std.proofs.Common.{◌≡◌, ℕ, ◌-◌, List, [], length, Ok, Err, sym, ap, ◌∙◌, arith, append-nil, ◌⊎◌, inl, inr}
use Rattle.wire_prim.specs.declared.error.PrimNo.{PrimNo}
use Rattle.wire_prim.specs.declared.error.PrimNo.TheVariants.{Short, TooLong, BadUtf8, Negative, Want}
use Rattle.wire_layout.specs.declared.error.WireNo.{WireNo}
use Rattle.wire_layout.specs.declared.error.WireNo.TheVariants.{Prim, Rest, Want as NoMemory}
use Rattle.wire_layout.specs.Layout.{Layout, Reach, left_of, without_place}
use Rattle.wire_layout.specs.Laid.{IsLaid}
use Rattle.wire_layout.specs.Whole.{IsRead, refusal_of}

-- a spelling is read to its end
whole_read : {M : Type 0} (layout : Layout M) → IsLaid layout → (m : M) (whole : List ℕ) → layout.fits m → whole ≡ layout.spelling m → layout.behind whole ≡ Ok []
whole_read layout laid m whole fits is = ap layout.behind (is ∙ sym (append-nil (layout.spelling m))) ∙ laid.back m fits []

pub refused : {M : Type 0} (layout : Layout M) → IsLaid layout → (whole left : List ℕ) (cause : PrimNo) → layout.behind whole ≡ Err (cause, left) → IsRead layout whole (Err (Prim cause))
refused layout laid whole left cause behind = record {
  value = tt;
  fits = tt;
  answer = ap without_place behind;
  exact = λ m fits is. let read = whole_read layout laid m whole fits is in cc (read, behind);
}

pub not_read : {M : Type 0} (layout : Layout M) → IsLaid layout → (whole left : List ℕ) (cause : PrimNo) → (cause ≡ Want) ⊎ (layout.behind whole ≡ Err (cause, left)) → IsRead layout whole (Err (refusal_of cause))
not_read layout laid whole left Short why = elim why [ inl want ↦ absurd (cc want) | inr behind ↦ refused layout laid whole left Short behind ]
not_read layout laid whole left TooLong why = elim why [ inl want ↦ absurd (cc want) | inr behind ↦ refused layout laid whole left TooLong behind ]
not_read layout laid whole left BadUtf8 why = elim why [ inl want ↦ absurd (cc want) | inr behind ↦ refused layout laid whole left BadUtf8 behind ]
not_read layout laid whole left Negative why = elim why [ inl want ↦ absurd (cc want) | inr behind ↦ refused layout laid whole left Negative behind ]
not_read layout laid whole left Want why = record { value = tt; fits = tt; answer = tt; exact = λ m fits is. tt }

-- the place is that of what is left
pub placed_refusal : (cause : PrimNo) (why : WireNo) (place : ℕ) (reach : Reach) (whole left : List ℕ) → why ≡ refusal_of cause → place ≡ length whole - length left → (cause ≡ Want) ⊎ (reach ≡ Err (cause, left))
    → (why ≡ NoMemory) ⊎ (place ≡ length whole - length (left_of reach))
placed_refusal cause why place reach whole left is at (inl want) = inl (is ∙ ap refusal_of want)
placed_refusal cause why place reach whole left is at (inr stops) = inr (at ∙ ap (λ r. length whole - length (left_of r)) (sym stops))

pub left_over : {M : Type 0} (layout : Layout M) → IsLaid layout → (whole rest : List ℕ) (n : ℕ) → layout.behind whole ≡ Ok rest → n ≡ length rest → (n ≡ 0 → ⊥) → IsRead layout whole (Err (Rest n))
left_over layout laid whole rest n behind size some = record {
  value = tt;
  fits = tt;
  answer = rw behind (sym size, omega arith);
  exact = λ m fits is. let read = whole_read layout laid m whole fits is in let none : rest ≡ [] = cc (read, behind) in some (size ∙ ap length none);
}
