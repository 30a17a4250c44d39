-- From the bytes of a varint, to its length and its number.
use Rattle.std.proofs.Common.{◌≡◌, ℕ, zero, suc, ◌+◌, ◌-◌, ◌*◌, ◌/◌, ◌%◌, ◌^◌, ◌<◌, ◌≤◌, min, List, [], ◌∷◌, ◌++◌, length, take, drop, Ok, true, false, nat_le, refl, sym, ap, ◌∙◌, subst, inl, inr, arith, length-drop, length-take, get_or, drop-cons, pow-suc, append_assoc, nat_lt, slice_set}
use Rattle.std.proofs.Math.Nat.{pow-le-pow_right}
use Rattle.std.proofs.lemmas.Bool.{cases_Bool, cases_lt}
use Rattle.std.proofs.lemmas.List.{take_more_set}
use Rattle.std.proofs.lemmas.Bool.Decides.{leb_tells}
use Rattle.wire_prim.specs.Varint.{lead, behind_run, run_of, groups_of}

-- nine groups are less than 2^64
pub nine_groups : (size number : ℕ) → size ≤ 9 → number < 128 ^ size → number < 2 ^ 64
nine_groups size number few below =
    let most : 128 ^ size ≤ 128 ^ 9 = pow-le-pow_right {n = 128} (omega arith) {i = size} {j = 9} few in
    omega arith

-- eight groups are less than 2^56
pub eight_groups : (size number : ℕ) → size ≤ 8 → number < 128 ^ size → number < 2 ^ 56
eight_groups size number few below =
    let most : 128 ^ size ≤ 128 ^ 8 = pow-le-pow_right {n = 128} (omega arith) {i = size} {j = 8} few in
    omega arith

pub lead_le : (bytes : List ℕ) → lead bytes ≤ length bytes
lead_le [] = omega arith
lead_le (byte ∷ bytes) = elim (cases_Bool (nat_le 128 byte)) [ inl more ↦ rw more (omega (arith, lead_le bytes)) | inr last ↦ rw last (omega arith) ]

pub lead_take : (n : ℕ) (bytes : List ℕ) → lead (take n bytes) ≡ min n (lead bytes)
lead_take zero bytes = omega arith
lead_take (suc n) [] = omega arith
lead_take (suc n) (byte ∷ bytes) =
    elim (cases_Bool (nat_le 128 byte)) [ inl more ↦ rw (more, lead_take n bytes) (omega arith) | inr last ↦ rw last (omega arith) ]

-- the run stands within the front that was looked at
pub lead_front : (limit : ℕ) (bytes : List ℕ) → lead (take (min limit (length bytes)) bytes) ≡ min limit (lead bytes)
lead_front limit bytes = lead_take (min limit (length bytes)) bytes ∙ omega (arith, lead_le bytes)

-- a run that ends in time
pub run_ends : (bytes : List ℕ) → lead bytes < length bytes → length (run_of bytes) ≡ suc (lead (run_of bytes))
run_ends bytes inside = omega (arith, length-take {A = ℕ} (suc (lead bytes)) bytes, lead_take (suc (lead bytes)) bytes)

pub behind_ended : (limit : ℕ) (bytes : List ℕ) → lead bytes < limit → lead bytes < length bytes → behind_run limit bytes ≡ Ok (drop (suc (lead bytes)) bytes)
behind_ended limit bytes few inside = grind (arith, leb_tells)

-- a byte below 128 ends the run
pub lead_found : (front : List ℕ) (index : ℕ) → lead front ≡ index + lead (drop index front) → index < length front → get_or front index 0 < 128 → lead front ≡ index
lead_found front index is inside last =
    let small : nat_le 128 (get_or front index 0) ≡ false = grind (arith, leb_tells) in
    let none : lead (drop index front) ≡ 0 = ap lead (drop-cons front index 0 inside) ∙ rw small refl in
    omega arith

-- without one the run is all there is
pub lead_whole : (front : List ℕ) (index : ℕ) → lead front ≡ index + lead (drop index front) → length front ≤ index → index ≤ length front → lead front ≡ length front
lead_whole front index is past within =
    let none : lead (drop index front) ≡ 0 = omega (arith, lead_le (drop index front), length-drop index front) in
    omega arith

-- a number of more than one group leaves room for the next
pub room_left : (more count number : ℕ) → count ≤ more → number < 128 ^ (more - count + 1) → 128 ≤ number → count + 1 ≤ more
room_left more count number within small large =
    elim (cases_lt count more) [
      | inl below ↦ omega arith
      | inr above ↦ let one : more - count + 1 ≡ 1 = omega arith in let least : number < 128 ^ 1 = subst (λ k. number < 128 ^ k) one small in absurd (omega arith)
    ]

pub one_group_less : (more count number : ℕ) → count + 1 ≤ more → number < 128 ^ (more - count + 1) → number / 128 < 128 ^ (more - (count + 1) + 1)
one_group_less more count number room small =
    let one : more - count + 1 ≡ suc (more - (count + 1) + 1) = omega arith in
    let small' = subst (λ k. number < 128 ^ k) one small in
    let product : 128 ^ suc (more - (count + 1) + 1) ≡ 128 ^ (more - (count + 1) + 1) * 128 = pow-suc 128 (more - (count + 1) + 1) in
    omega (arith, product, small')

pub groups_stop : (more number : ℕ) → number < 128 → groups_of more number ≡ number ∷ []
groups_stop zero number last = refl
groups_stop (suc more) number last = let test : nat_lt number 128 ≡ true = grind (arith, leb_tells) in rw test refl

pub groups_go : (more number : ℕ) → 128 ≤ number → groups_of (suc more) number ≡ (128 + number % 128) ∷ groups_of more (number / 128)
groups_go more number large = let test : nat_lt number 128 ≡ false = grind (arith, leb_tells) in rw test refl

-- one more group is written
pub groups_written : (more count number : ℕ) (groups whole : List ℕ) → count + 1 ≤ more → count < length groups → 128 ≤ number
    → take count groups ++ groups_of (more - count) number ≡ whole
    → take (count + 1) (slice_set groups count (128 + number % 128)) ++ groups_of (more - (count + 1)) (number / 128) ≡ whole
groups_written more count number groups whole room inside large written =
    let rest = groups_of (more - (count + 1)) (number / 128) in
    let one : more - count ≡ suc (more - (count + 1)) = omega arith in
    let go = ap (λ k. groups_of k number) one ∙ groups_go (more - (count + 1)) number large in
    ap (λ t. t ++ rest) (take_more_set groups count (128 + number % 128) inside) ∙ append_assoc (take count groups) ((128 + number % 128) ∷ []) rest
    ∙ ap (λ t. take count groups ++ t) (sym go) ∙ written

-- the last group is written
pub groups_ended : (more count number : ℕ) (groups whole : List ℕ) → count < length groups → number < 128
    → take count groups ++ groups_of (more - count) number ≡ whole → take (count + 1) (slice_set groups count number) ≡ whole
groups_ended more count number groups whole inside last written =
    take_more_set groups count number inside ∙ ap (λ t. take count groups ++ t) (sym (groups_stop (more - count) number last)) ∙ written

-- the groups of a number that has two
pub groups_two : (more number : ℕ) → number < 128 ^ (more + 1) → 128 ≤ number → number < 16384 → groups_of more number ≡ (128 + number % 128) ∷ number / 128 ∷ []
groups_two zero number small large few = absurd (omega arith)
groups_two (suc more) number small large few = groups_go more number large ∙ ap (λ t. (128 + number % 128) ∷ t) (groups_stop more (number / 128) (omega arith))
