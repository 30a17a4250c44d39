-- Numbered records, one more at the end.
use Rattle.std.proofs.Common.{◌≡◌, ℕ, ◌+◌, ◌<◌, List, [], ◌∷◌, ◌++◌, length, take, get_or, ap, ◌∙◌, arith, length-take}
use Rattle.std.proofs.lemmas.List.{length-append, take_more}
use Rattle.model.specs.state.Log.{Row}
use Rattle.broker_link.specs.Produced.{numbered}
use Rattle.broker_link.specs.Stored.{appended, part_of}
use Rattle.broker_link.specs.declared.link.NewRecord.{NewRecord}

abbrev pub row_at : ℕ → NewRecord → Row
row_at offset r = record { offset = offset; key = r.key; value = r.value }

pub numbered-append : (base : ℕ) (xs : List NewRecord) (y : NewRecord)
    → numbered base (xs ++ y ∷ []) ≡ numbered base xs ++ row_at (base + length xs) y ∷ []
numbered-append base [] y = ap (λ n. row_at n y ∷ []) (omega arith)
numbered-append base (x ∷ xs) y =
    let e : base + 1 + length xs ≡ base + length (x ∷ xs) = omega arith in
    ap (λ l. row_at base x ∷ l) (numbered-append (base + 1) xs y ∙ ap (λ n. numbered (base + 1) xs ++ row_at n y ∷ []) e)

pub numbered-more : (base i : ℕ) (xs : List NewRecord) (d : NewRecord) → i < length xs
    → numbered base (take (i + 1) xs) ≡ numbered base (take i xs) ++ row_at (base + i) (get_or xs i d) ∷ []
numbered-more base i xs d below =
    ap (numbered base) (take_more xs i d below) ∙ numbered-append base (take i xs) (get_or xs i d)
    ∙ ap (λ n. numbered base (take i xs) ++ row_at (base + n) (get_or xs i d) ∷ []) (omega (arith, length-take {A = NewRecord} i xs))

pub numbered-appended : (base : ℕ) (xs ys : List NewRecord) → numbered base (xs ++ ys) ≡ numbered base xs ++ numbered (base + length xs) ys
numbered-appended base [] ys = ap (λ n. numbered n ys) (omega arith)
numbered-appended base (x ∷ xs) ys =
    let e : base + 1 + length xs ≡ base + length (x ∷ xs) = omega arith in
    ap (λ l. record { offset = base; key = x.key; value = x.value } ∷ l) (numbered-appended (base + 1) xs ys ∙ ap (λ n. numbered (base + 1) xs ++ numbered n ys) e)

pub appended_is : (xs ys : List NewRecord) → part_of (xs ++ ys) ≡ appended (part_of xs) ys
unfolding appended
appended_is xs ys =
    ap (λ (n : ℕ). record { start = 0; end = n; rows = numbered 0 (xs ++ ys) }) (length-append xs ys)
    ∙ ap (λ (rows : List Row). record { start = 0; end = length xs + length ys; rows = rows }) (numbered-appended 0 xs ys ∙ ap (λ (n : ℕ). numbered 0 xs ++ numbered n ys) (omega arith))
