-- From the items of a message, to the message.
use Rattle.std.proofs.Common.{◌≡◌, ◌++◌, refl, sym, ap, ◌∙◌, append_assoc}
use Rattle.wire_layout.specs.Layout.{Layout, field, fixed, nothing, ◌&◌}
use Rattle.wire_layout.specs.Laid.{Tells, IsLaid}

-- a field is told by its item
pub told : {M T : Type 0} {get : M → T} {item : Layout T} → IsLaid item → Tells get (field get item)
told {get = get} laid = record {
  back = λ m fits. laid.back (get m) fits;
  once = λ a b r s fits fits' same. laid.once (get a) (get b) r s fits fits' same;
}

-- a field that is always the same is told by nothing
pub fixed_told : {M T : Type 0} (get : M → T) (value : T) → Tells get (fixed get value)
fixed_told get value = record {
  back = λ m fits rest. refl;
  once = λ a b r s fits fits' same. (fits ∙ sym fits', same);
}

-- of no fields there is one
pub nothing_told : {M : Type 0} → Tells {V = Unit {0}} (λ (m : M). tt) nothing
nothing_told = record {
  back = λ m fits rest. refl;
  once = λ a b r s fits fits' same. (refl, same);
}

infixr 5 ◌⊗◌
-- fields in turn are told each
pub ◌⊗◌ : {M V W : Type 0} {look : M → V} {more : M → W} {first others : Layout M} → Tells look first → Tells more others → Tells {V = V × W} (λ m. (look m, more m)) (first & others)
◌⊗◌ {V = V} {W = W} {look = look} {more = more} {first = first} {others = others} tells tell = record {
  back = λ m fits rest. rw (append_assoc, tells.back m fits.0) (tell.back m fits.1 rest);
  once = λ a b r s fits fits' same.
      let front = tells.once a b (others.spelling a ++ r) (others.spelling b ++ s) fits.0 fits'.0
      (sym (append_assoc (first.spelling a) (others.spelling a) r) ∙ same ∙ append_assoc (first.spelling b) (others.spelling b) s) in
      let back = tell.once a b r s fits.1 fits'.1 front.1 in
      let one : V × W = (look a, more a) in
      let other : V × W = (look b, more b) in
      let both : one ≡ other = cc (front.0, back.0) in
      (both, back.1);
}

-- a message is told where its fields are
pub all_told : {M V : Type 0} {look : M → V} {layout : Layout M} → Tells look layout → (make : V → M) → ((m : M) → make (look m) ≡ m) → IsLaid layout
all_told tells make made = record {
  back = tells.back;
  once = λ a b r s fits fits' same.
      let both = tells.once a b r s fits fits' same in
      (sym (made a) ∙ ap make both.0 ∙ made b, both.1);
}
