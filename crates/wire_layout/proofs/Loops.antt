-- From the items so far and the next one, to those items with it.
use Rattle.std.proofs.Common.{◌≡◌, ℕ, suc, ◌+◌, ◌-◌, ◌<◌, List, [], ◌∷◌, ◌++◌, length, take, get_or, Ok, Err, refl, sym, ap, ◌∙◌, subst, arith, append_assoc, append-nil, length-append, ◌⊎◌, inl, inr}
use Rattle.std.proofs.lemmas.List.{take_more}
use Rattle.wire_prim.specs.declared.error.PrimNo.{PrimNo}
use Rattle.wire_prim.specs.declared.error.PrimNo.TheVariants.{Want}
use Rattle.wire_prim.specs.Reading.{Reading, Takes}
use Rattle.wire_layout.specs.Layout.{Reach, behind_many, spelled, each}

pub spelled_more : {T : Type 0} (spelling : T → List ℕ) (items : List T) (item : T) → spelled spelling (items ++ item ∷ []) ≡ spelled spelling items ++ spelling item
spelled_more spelling [] item = append-nil (spelling item)
spelled_more spelling (x ∷ xs) item = ap (λ l. spelling x ++ l) (spelled_more spelling xs item) ∙ sym (append_assoc (spelling x) (spelled spelling xs) (spelling item))

pub each_more : {T : Type 0} (fits : T → Type 0) (items : List T) (item : T) → each fits items → fits item → each fits (items ++ item ∷ [])
each_more fits [] item all one = (one, tt)
each_more fits (x ∷ xs) item all one = (all.0, each_more fits xs item all.1 one)

-- one more item is written
pub put_more : {T : Type 0} (spelling : T → List ℕ) (items : List T) (i : ℕ) (item : T) (start before after : List ℕ) → i < length items → item ≡ get_or items i item
    → before ≡ start ++ spelled spelling (take i items) → after ≡ before ++ spelling item → after ≡ start ++ spelled spelling (take (i + 1) items)
put_more spelling items i item start before after inside is so_far now =
    let front : take (i + 1) items ≡ take i items ++ item ∷ [] = take_more items i item inside ∙ ap (λ x. take i items ++ x ∷ []) (sym is) in
    now ∙ ap (λ l. l ++ spelling item) so_far ∙ append_assoc start (spelled spelling (take i items)) (spelling item)
    ∙ ap (λ l. start ++ l) (sym (spelled_more spelling (take i items) item)) ∙ ap (λ l. start ++ spelled spelling l) (sym front)

pub fits_more : {T : Type 0} (fits : T → Type 0) (items : List T) (i : ℕ) (item : T) → i < length items → item ≡ get_or items i item
    → each fits (take i items) → fits item → each fits (take (i + 1) items)
fits_more fits items i item inside is all one =
    let front : take (i + 1) items ≡ take i items ++ item ∷ [] = take_more items i item inside ∙ ap (λ x. take i items ++ x ∷ []) (sym is) in
    subst (λ l. each fits l) (sym front) (each_more fits (take i items) item all one)

-- one more item is read
pub taken_more : {T : Type 0} (spelling : T → List ℕ) (items : List T) (item : T) (start before after : Reading) → Takes (spelled spelling items) start before → Takes (spelling item) before after
    → Takes (spelled spelling (items ++ item ∷ [])) start after
taken_more spelling items item start before after so_far now =
    let whole = spelled_more spelling items item in
    let taken : Takes (spelled spelling items ++ spelling item) start after = record { left = so_far.left ∙ ap (λ l. spelled spelling items ++ l) now.left ∙ sym (append_assoc (spelled spelling items) (spelling item) after.left); place = omega (arith, so_far.place, now.place, length-append (spelled spelling items) (spelling item)) } in
    subst (λ l. Takes l start after) (sym whole) taken

many_left : (count i : ℕ) → i < count → count - i ≡ suc (count - (i + 1))
many_left count i below = omega arith

pub many_more : (count i : ℕ) (item : List ℕ → Reach) (start before after : List ℕ) → i < count → behind_many count item start ≡ behind_many (count - i) item before → item before ≡ Ok after
    → behind_many count item start ≡ behind_many (count - (i + 1)) item after
many_more count i item start before after below so_far now = so_far ∙ rw (many_left count i below, now) refl

many_stops : (count i : ℕ) (item : List ℕ → Reach) (start before left : List ℕ) (cause : PrimNo) → i < count → behind_many count item start ≡ behind_many (count - i) item before → item before ≡ Err (cause, left)
    → behind_many count item start ≡ Err (cause, left)
many_stops count i item start before left cause below so_far now = so_far ∙ rw (many_left count i below, now) refl

pub many_refused : (count i : ℕ) (item : List ℕ → Reach) (start before left : List ℕ) (cause : PrimNo) → i < count → behind_many count item start ≡ behind_many (count - i) item before → (cause ≡ Want) ⊎ (item before ≡ Err (cause, left))
    → (cause ≡ Want) ⊎ (behind_many count item start ≡ Err (cause, left))
many_refused count i item start before left cause below so_far (inl want) = inl want
many_refused count i item start before left cause below so_far (inr now) = inr (many_stops count i item start before left cause below so_far now)
