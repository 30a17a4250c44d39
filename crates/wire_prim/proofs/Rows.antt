-- For loops over the rows of an array: from one more row, to all of them.
use Rattle.std.proofs.Common.{◌≡◌, ℕ, suc, ◌+◌, ◌-◌, ◌<◌, List, ◌++◌, Ok, Err, sym, ap, ◌∙◌, arith, append_assoc, length-append, refl}
use Rattle.wire_prim.specs.declared.error.PrimNo.{PrimNo}
use Rattle.wire_prim.specs.Reading.{Reading, Takes}
use Rattle.wire_prim.specs.Behind.{Behind, behind_many}

-- one of the rows that are left is read
pub many_more : (count counter : ℕ) (row : List ℕ → Behind) (left behind : List ℕ) → counter < count → row left ≡ Ok behind
    → behind_many (count - counter) row left ≡ behind_many (count - (counter + 1)) row behind
many_more count counter row left behind some is =
    let one : count - counter ≡ suc (count - (counter + 1)) = omega arith in
    ap (λ n. behind_many n row left) one ∙ rw is refl

-- or it is not
pub many_bad : (count counter : ℕ) (row : List ℕ → Behind) (left : List ℕ) (cause : PrimNo) → counter < count → row left ≡ Err cause
    → behind_many (count - counter) row left ≡ Err cause
many_bad count counter row left cause some is =
    let one : count - counter ≡ suc (count - (counter + 1)) = omega arith in
    ap (λ n. behind_many n row left) one ∙ rw is refl

-- items in turn are one
pub Takes-more : (run item : List ℕ) (old mid new : Reading) → Takes run old mid → Takes item mid new → Takes (run ++ item) old new
Takes-more run item old mid new first second = record {
  left = first.left ∙ ap (λ l. run ++ l) second.left ∙ sym (append_assoc run item new.left);
  place = omega (arith, first.place, second.place, length-append run item);
}
