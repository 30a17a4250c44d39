-- A number in decimal is a number of JSON, and its digits spell it.
use Rattle.std.proofs.Common.{◌≡◌, ℕ, zero, suc, ◌+◌, ◌-◌, ◌*◌, ◌/◌, ◌%◌, ◌^◌, ◌<◌, ◌≤◌, List, [], ◌∷◌, ◌++◌, length, Bool, true, false, cond, ◌&&◌, Ok, Err, ◌⊎◌, inl, inr, refl, sym, ap, ◌∙◌, subst, arith, length-append}
use Rattle.std.specs.Prelude.{fold, decimal, nat_le}
use Rattle.std.proofs.lemmas.Fmt.{decimal_by_steps}
use Rattle.std.proofs.lemmas.Bool.Decides.{nat_tests}
use Rattle.std.proofs.lemmas.List.{append-nil}
use Rattle.json_token.specs.Number.{is_digit, is_leading, IsNumber}
use Rattle.json_token.specs.Grammar.{AreDigits, IsNumeral}
use Rattle.json_token.specs.Integer as integer
use Rattle.json_token.proofs.NumberGrammar.{numeral_number}
use Rattle.avro_schema.specs.Reading.{are_digits, digits_size}
use Rattle.avro_names.specs.declared.error.SchemaNo.TheVariants.{BadType}

-- the first digit isn't 0
record Leading (ds : List ℕ) : Type 0 where
  first : ℕ
  rest : List ℕ
  is : ds ≡ first ∷ rest
  leads : is_leading first ≡ true
  digits : AreDigits rest

record Numeral (n : ℕ) (ds : List ℕ) : Type 0 where
  value : integer.decimal ds ≡ n
  digits : are_digits ds ≡ true
  some : 0 < length ds
  naught : n ≡ 0 → ds ≡ 48 ∷ []
  above : 0 < n → Leading ds

fold_push : (acc : ℕ) (ds : List ℕ) (d : ℕ) → fold (λ n x. n * 10 + (x - 48)) acc (ds ++ (d ∷ [])) ≡ fold (λ n x. n * 10 + (x - 48)) acc ds * 10 + (d - 48)
fold_push acc [] d = refl
fold_push acc (x ∷ ds) d = fold_push (acc * 10 + (x - 48)) ds d

both : (a b c : Bool) → (a && b) ≡ true → (b ≡ true → c ≡ true) → (a && c) ≡ true
both true b c h f = f h
both false b c h f = h

digits_push : (ds : List ℕ) (d : ℕ) → are_digits ds ≡ true → is_digit d ≡ true → are_digits (ds ++ (d ∷ [])) ≡ true
digits_push [] d h e = ap (λ t. t && true) e
digits_push (x ∷ ds) d h e = both (is_digit x) (are_digits ds) (are_digits (ds ++ (d ∷ []))) h (λ more. digits_push ds d more e)

more_digits : (ds : List ℕ) (d : ℕ) → AreDigits ds → is_digit d ≡ true → AreDigits (ds ++ (d ∷ []))
more_digits [] d h e = (e, tt)
more_digits (x ∷ ds) d h e = (h.0, more_digits ds d h.1 e)

small_digit : (d : ℕ) → d < 10 → is_digit (48 + d) ≡ true
small_digit d h = grind (arith, nat_tests)

small_leading : (d : ℕ) → 0 < d → d < 10 → is_leading (48 + d) ≡ true
small_leading d p h = grind (arith, nat_tests)

one_digit : (n : ℕ) → n < 10 → Numeral n ((48 + n) ∷ [])
one_digit n h = record {
  value = omega arith;
  digits = ap (λ t. t && true) (small_digit n h);
  some = omega arith;
  naught = λ e. ap (λ k. (48 + k) ∷ []) e;
  above = λ p. record { first = 48 + n; rest = []; is = refl; leads = small_leading n p h; digits = tt };
}

leading_push : (ds : List ℕ) (d : ℕ) → Leading ds → is_digit d ≡ true → Leading (ds ++ (d ∷ []))
leading_push ds d l e = record { first = l.first; rest = l.rest ++ (d ∷ []); is = ap (λ xs. xs ++ (d ∷ [])) l.is; leads = l.leads; digits = more_digits l.rest d l.digits e }

one_more : (n : ℕ) (ds : List ℕ) → 10 ≤ n → Numeral (n / 10) ds → Numeral n (ds ++ ((48 + n % 10) ∷ []))
one_more n ds h p =
    let small : n % 10 < 10 = omega arith in
    let high : 0 < n / 10 = omega arith in
    let digit = small_digit (n % 10) small in
    let pushed = fold_push 0 ds (48 + n % 10) in
    let value = p.value in
    let size = length-append ds ((48 + n % 10) ∷ []) in
    record {
      value = omega arith;
      digits = digits_push ds (48 + n % 10) p.digits digit;
      some = omega arith;
      naught = λ e. absurd (omega arith);
      above = λ q. leading_push ds (48 + n % 10) (p.above high) digit;
    }

numeral : (n : ℕ) → n < 2 ^ 64 → Numeral n (decimal n)
numeral n h = decimal_by_steps (λ k ds. Numeral k ds) one_digit one_more n h

numeral_cases : (n : ℕ) → (n ≡ 0) ⊎ (0 < n)
numeral_cases zero = inl refl
numeral_cases (suc n) = inr (omega arith)

spelled_by : (n : ℕ) (ds : List ℕ) → Numeral n ds → ((n ≡ 0) ⊎ (0 < n)) → IsNumeral ds
spelled_by n ds p (inl e) = inl (inl ([], p.naught e, inl (inl refl)))
spelled_by n ds p (inr h) =
    let l = p.above h in
    inl (inr (l.first, l.rest, [], l.is ∙ ap (λ xs. l.first ∷ xs) (sym (append-nil l.rest)), l.leads, l.digits, inl (inl refl)))

pub decimal_number : (n : ℕ) → n < 2 ^ 64 → IsNumber (decimal n)
decimal_number n h = numeral_number (decimal n) (spelled_by n (decimal n) (numeral n h) (numeral_cases n))

small_size : (n : ℕ) → n ≤ 1048576 → nat_le n 1048576 ≡ true
small_size n h = grind (arith, nat_tests)

size_by : (n : ℕ) (ds : List ℕ) → Numeral n ds → n ≤ 1048576 → digits_size ds ≡ Ok n
size_by n [] p h = absurd (let some = p.some in omega arith)
size_by n (d ∷ ds) p h =
    ap (λ t. cond (t && nat_le (integer.decimal (d ∷ ds)) 1048576) (Ok (integer.decimal (d ∷ ds))) (Err BadType)) p.digits
    ∙ ap (λ k. cond (nat_le k 1048576) (Ok k) (Err BadType)) p.value ∙ ap (λ t. cond t (Ok n) (Err BadType)) (small_size n h)

pub size_again : (n : ℕ) → n ≤ 1048576 → digits_size (decimal n) ≡ Ok n
size_again n h = size_by n (decimal n) (numeral n (omega arith)) h

big_size : (n : ℕ) → nat_le n 1048576 ≡ true → n ≤ 1048576
big_size n h = grind (arith, nat_tests)

size_test : (n k : ℕ) (t : Bool) → nat_le n 1048576 ≡ t → cond t (Ok n) (Err BadType) ≡ Ok k → k ≤ 1048576
size_test n k false e h = absurd cc
size_test n k true e h = let same : n ≡ k = cc in let P : ℕ → Type 0 = λ x. x ≤ 1048576 in subst P same (big_size n e)

size_cases : (a : Bool) (n k : ℕ) → cond (a && nat_le n 1048576) (Ok n) (Err BadType) ≡ Ok k → k ≤ 1048576
size_cases false n k h = absurd cc
size_cases true n k h = size_test n k (nat_le n 1048576) refl h

pub size_bound : (s : List ℕ) (k : ℕ) → digits_size s ≡ Ok k → k ≤ 1048576
size_bound [] k h = absurd cc
size_bound (b ∷ bs) k h = size_cases (are_digits (b ∷ bs)) (integer.decimal (b ∷ bs)) k h
