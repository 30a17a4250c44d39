-- From the spellings of an integer of variable length, back to it, and to the shortest one.
use Rattle.std.proofs.Common.{◌≡◌, ℕ, zero, suc, ◌+◌, ◌*◌, ◌/◌, ◌%◌, ◌^◌, ◌<◌, ◌≤◌, List, [], ◌∷◌, ◌++◌, length, take, drop, Ok, ℤ, pos, negsuc, true, false, nat_le, nat_lt, FitsSigned, refl, sym, ap, ◌∙◌, subst, inl, inr, arith, length-append, pow-suc}
use Rattle.std.specs.Int.{w32, w64}
use Rattle.std.proofs.Math.Seq.{take-append_seam, drop-append_seam}
use Rattle.std.proofs.lemmas.Bool.{cases_lt}
use Rattle.std.proofs.lemmas.Bool.Decides.{leb_tells}
use Rattle.wire_prim.specs.Laws.{ReadsBack}
use Rattle.wire_prim.specs.Varint.{lead, grouped, run_of, zigzag, unzigzag, groups_of, varint_at, varint_bytes, varlong_bytes, behind_run, behind_bounded, behind_varint, behind_varlong, IsVarint}
use Rattle.wire_prim.proofs.VarintLemmas.{behind_ended, groups_stop, groups_go}

more_leads : (byte : ℕ) (bytes : List ℕ) → 128 ≤ byte → lead (byte ∷ bytes) ≡ suc (lead bytes)
more_leads byte bytes high = let test : nat_le 128 byte ≡ true = grind (arith, leb_tells) in rw test refl

last_leads : (byte : ℕ) (bytes : List ℕ) → byte < 128 → lead (byte ∷ bytes) ≡ 0
last_leads byte bytes low = let test : nat_le 128 byte ≡ false = grind (arith, leb_tells) in rw test refl

-- bytes behind a run don't lengthen it
lead-append : (item rest : List ℕ) → length item ≡ suc (lead item) → lead (item ++ rest) ≡ lead item
lead-append [] rest ends = absurd (omega arith)
lead-append (byte ∷ bytes) rest ends =
    elim (cases_lt byte 128) [
      | inl low ↦ last_leads byte (bytes ++ rest) low ∙ sym (last_leads byte bytes low)
      | inr high ↦
          let inner : length bytes ≡ suc (lead bytes) = omega (arith, more_leads byte bytes high) in
          more_leads byte (bytes ++ rest) high ∙ ap suc (lead-append bytes rest inner) ∙ sym (more_leads byte bytes high)
    ]

-- the run at the front of a spelling with anything behind it
run_found : (item rest : List ℕ) → length item ≡ suc (lead item) → run_of (item ++ rest) ≡ item
run_found item rest ends = ap (λ n. take (suc n) (item ++ rest)) (lead-append item rest ends) ∙ ap (λ n. take n (item ++ rest)) (sym ends) ∙ take-append_seam item rest

bounded_reads : (limit bound : ℕ) (item rest : List ℕ) → length item ≡ suc (lead item) → length item ≤ limit → grouped item < bound → behind_bounded limit bound (item ++ rest) ≡ Ok rest
bounded_reads limit bound item rest ends within small =
    let same = lead-append item rest ends in
    let few : lead (item ++ rest) < limit = omega arith in
    let inside : lead (item ++ rest) < length (item ++ rest) = omega (arith, length-append item rest) in
    let back : drop (suc (lead (item ++ rest))) (item ++ rest) ≡ rest = ap (λ n. drop (suc n) (item ++ rest)) same ∙ ap (λ n. drop n (item ++ rest)) (sym ends) ∙ drop-append_seam item rest in
    let ran : behind_run limit (item ++ rest) ≡ Ok rest = behind_ended limit (item ++ rest) few inside ∙ ap (λ r. Ok r) back in
    let fits : nat_lt (grouped (run_of (item ++ rest))) bound ≡ true = rw (run_found item rest ends) (grind (arith, leb_tells)) in
    rw (ran, fits) refl

unzigzag-zigzag : (value : ℤ) → unzigzag (zigzag value) ≡ value
unzigzag-zigzag (pos n) =
    let even : 2 * n % 2 ≡ 0 = omega arith in
    let half : 2 * n / 2 ≡ n = omega arith in
    rw (even, half) refl
unzigzag-zigzag (negsuc n) =
    let odd : (2 * n + 1) % 2 ≡ 1 = omega arith in
    let half : (2 * n + 1) / 2 ≡ n = omega arith in
    rw (odd, half) refl

zigzag_fits32 : (value : ℤ) → FitsSigned w32 value → zigzag value < 2 ^ 32
zigzag_fits32 (pos n) fits = let small : n < 2 ^ 31 = fits.sfits in omega arith
zigzag_fits32 (negsuc n) fits = let small : n < 2 ^ 31 = fits.sfits in omega arith

zigzag_fits64 : (value : ℤ) → FitsSigned w64 value → zigzag value < 2 ^ 64
zigzag_fits64 (pos n) fits = let small : n < 2 ^ 63 = fits.sfits in omega arith
zigzag_fits64 (negsuc n) fits = let small : n < 2 ^ 63 = fits.sfits in omega arith

pub varint_at_front : (limit : ℕ) (value : ℤ) (item rest : List ℕ) → IsVarint limit value item → varint_at (item ++ rest) ≡ value
varint_at_front limit value item rest is = ap (λ run. unzigzag (grouped run)) (run_found item rest is.ends) ∙ ap unzigzag is.number ∙ unzigzag-zigzag value

pub varint_reads : (value : ℤ) (item : List ℕ) → FitsSigned w32 value → IsVarint 5 value item → ReadsBack item behind_varint
varint_reads value item fits is rest = bounded_reads 5 (2 ^ 32) item rest is.ends is.within (omega (arith, is.number, zigzag_fits32 value fits))

pub varlong_reads : (value : ℤ) (item : List ℕ) → FitsSigned w64 value → IsVarint 10 value item → ReadsBack item behind_varlong
varlong_reads value item fits is rest = bounded_reads 10 (2 ^ 64) item rest is.ends is.within (omega (arith, is.number, zigzag_fits64 value fits))

-- the groups spell their number
record Spelled (k n : ℕ) (item : List ℕ) : Type 0 where
  ends : length item ≡ suc (lead item)
  within : length item ≤ suc k
  number : grouped item ≡ n

one_group : (k n : ℕ) → n < 128 → Spelled k n (n ∷ [])
one_group k n low = record { ends = ap suc (sym (last_leads n [] low)); within = omega arith; number = omega arith }

groups_spell : (k n : ℕ) → n < 128 ^ suc k → Spelled k n (groups_of k n)
groups_spell zero n small = one_group zero n (omega arith)
groups_spell (suc k) n small =
    elim (cases_lt n 128) [
      | inl low ↦ subst (Spelled (suc k) n) (sym (groups_stop (suc k) n low)) (one_group (suc k) n low)
      | inr high ↦
          let product : 128 ^ suc (suc k) ≡ 128 ^ suc k * 128 = pow-suc 128 (suc k) in
          let inner = groups_spell k (n / 128) (omega arith) in
          let rest = groups_of k (n / 128) in
          let leads = more_leads (128 + n % 128) rest (omega arith) in
          let low : (128 + n % 128) % 128 ≡ n % 128 = omega arith in
          let whole : Spelled (suc k) n ((128 + n % 128) ∷ rest) = record {
            ends = ap suc inner.ends ∙ ap suc (sym leads);
            within = omega (arith, inner.within);
            number = ap (λ x. x + 128 * grouped rest) low ∙ ap (λ x. n % 128 + 128 * x) inner.number ∙ omega arith;
          } in
          subst (Spelled (suc k) n) (sym (groups_go k n high)) whole
    ]

-- no spelling has fewer bytes
groups_shortest : (k : ℕ) (item : List ℕ) → length item ≡ suc (lead item) → length (groups_of k (grouped item)) ≤ length item
groups_shortest zero item ends = omega arith
groups_shortest (suc k) [] ends = absurd (omega arith)
groups_shortest (suc k) (byte ∷ bytes) ends =
    let n = grouped (byte ∷ bytes) in
    elim (cases_lt n 128) [
      | inl low ↦ let one = ap length (groups_stop (suc k) n low) in omega arith
      | inr high ↦
          elim (cases_lt byte 128) [
            | inl last ↦
                let none : length bytes ≡ 0 = omega (arith, last_leads byte bytes last) in
                elim bytes as (λ bs. length bs ≡ 0 → 128 ≤ grouped (byte ∷ bs) → length (groups_of (suc k) n) ≤ length (byte ∷ bytes)) [
                  | [] ↦ λ _ h. absurd (omega arith)
                  | ◌∷◌ b bs ↦ λ h _. absurd (omega arith)
                ] none high
            | inr leads ↦
                let inner : length bytes ≡ suc (lead bytes) = omega (arith, more_leads byte bytes leads) in
                let next : n / 128 ≡ grouped bytes = omega arith in
                let go = ap length (groups_go k n high ∙ ap (λ m. (128 + n % 128) ∷ groups_of k m) next) in
                omega (arith, groups_shortest k bytes inner)
          ]
    ]

pub varint_spelled : (value : ℤ) → FitsSigned w32 value → IsVarint 5 value (varint_bytes value)
varint_spelled value fits =
    let spelled = groups_spell 4 (zigzag value) (omega (arith, zigzag_fits32 value fits)) in
    record { ends = spelled.ends; within = spelled.within; number = spelled.number }

pub varlong_spelled : (value : ℤ) → FitsSigned w64 value → IsVarint 10 value (varlong_bytes value)
varlong_spelled value fits =
    let spelled = groups_spell 9 (zigzag value) (omega (arith, zigzag_fits64 value fits)) in
    record { ends = spelled.ends; within = spelled.within; number = spelled.number }

pub varint_shortest : (limit : ℕ) (value : ℤ) (item : List ℕ) → IsVarint limit value item → length (varint_bytes value) ≤ length item
varint_shortest limit value item is = subst (λ n. length (groups_of 4 n) ≤ length item) is.number (groups_shortest 4 item is.ends)

pub varlong_shortest : (limit : ℕ) (value : ℤ) (item : List ℕ) → IsVarint limit value item → length (varlong_bytes value) ≤ length item
varlong_shortest limit value item is = subst (λ n. length (groups_of 9 n) ≤ length item) is.number (groups_shortest 9 item is.ends)
