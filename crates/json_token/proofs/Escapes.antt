-- What escapes stand for, by the bytes behind a backslash.
use Rattle.std.proofs.Common.{◌≡◌, ℕ, ◌+◌, ◌<◌, ◌≤◌, List, [], ◌∷◌, ◌++◌, length, take, drop, get_or, true, false, cond, ◌==◌, refl, sym, ap, ◌∙◌, append_assoc, arith}
use Rattle.std.proofs.lemmas.Bool.Decides.{nat_tests}
use Rattle.std.proofs.lemmas.List.{drop_more, drop-drop, append-nil, drop_all, take-append-drop}
use Rattle.json_token.specs.Chars.{content, content_behind, backslash, letter_u, high, short_escape, code_unit, pair_of, is_high, char_bytes, has_backslash}
use Rattle.json_token.proofs.CharWalks.{neither}

pub unit_short : (s : List ℕ) → length s < 4 → content_behind letter_u s ≡ []
unfolding content_behind
unit_short [] h = refl
unit_short (a ∷ []) h = refl
unit_short (a ∷ (b ∷ [])) h = refl
unit_short (a ∷ (b ∷ (c ∷ []))) h = refl
unit_short (a ∷ (b ∷ (c ∷ (d ∷ s)))) h = absurd (omega arith)

pub unit_long : (s : List ℕ) → 4 ≤ length s → let u = code_unit (get_or s 0 0) (get_or s 1 0) (get_or s 2 0) (get_or s 3 0) in content_behind letter_u s ≡ cond (is_high u) (content_behind (high u) (drop 4 s)) (char_bytes u ++ content (drop 4 s))
unfolding content_behind
unit_long [] h = absurd (omega arith)
unit_long (a ∷ []) h = absurd (omega arith)
unit_long (a ∷ (b ∷ [])) h = absurd (omega arith)
unit_long (a ∷ (b ∷ (c ∷ []))) h = absurd (omega arith)
unit_long (a ∷ (b ∷ (c ∷ (d ∷ s)))) h = refl

pub low_short : (k : ℕ) (s : List ℕ) → length s < 6 → content_behind (high k) s ≡ []
unfolding content_behind
low_short k [] h = refl
low_short k (a ∷ []) h = refl
low_short k (a ∷ (b ∷ [])) h = refl
low_short k (a ∷ (b ∷ (c ∷ []))) h = refl
low_short k (a ∷ (b ∷ (c ∷ (d ∷ [])))) h = refl
low_short k (a ∷ (b ∷ (c ∷ (d ∷ (e ∷ []))))) h = refl
low_short k (a ∷ (b ∷ (c ∷ (d ∷ (e ∷ (f ∷ s)))))) h = absurd (omega arith)

pub low_long : (k : ℕ) (s : List ℕ) → 6 ≤ length s → content_behind (high k) s ≡ char_bytes (pair_of k (code_unit (get_or s 2 0) (get_or s 3 0) (get_or s 4 0) (get_or s 5 0))) ++ content (drop 6 s)
unfolding content_behind
low_long k [] h = absurd (omega arith)
low_long k (a ∷ []) h = absurd (omega arith)
low_long k (a ∷ (b ∷ [])) h = absurd (omega arith)
low_long k (a ∷ (b ∷ (c ∷ []))) h = absurd (omega arith)
low_long k (a ∷ (b ∷ (c ∷ (d ∷ [])))) h = absurd (omega arith)
low_long k (a ∷ (b ∷ (c ∷ (d ∷ (e ∷ []))))) h = absurd (omega arith)
low_long k (a ∷ (b ∷ (c ∷ (d ∷ (e ∷ (f ∷ s)))))) h = refl

pub content_nil : content [] ≡ []
unfolding content_behind
content_nil = refl

pub escape_nil : content_behind backslash [] ≡ []
unfolding content_behind
escape_nil = refl

pub escape_u : (s : List ℕ) → 0 < length s → get_or s 0 0 ≡ 117 → content_behind backslash s ≡ content_behind letter_u (drop 1 s)
unfolding content_behind
escape_u [] h e = absurd (omega arith)
escape_u (x ∷ s) h e = ap (λ y. cond (y == 117) (content_behind letter_u s) (short_escape y ∷ content s)) e ∙ refl

pub escape_short : (s : List ℕ) → 0 < length s → (get_or s 0 0 == 117) ≡ false → content_behind backslash s ≡ short_escape (get_or s 0 0) ∷ content (drop 1 s)
unfolding content_behind
escape_short [] h e = absurd (omega arith)
escape_short (x ∷ s) h e = ap (λ t. cond t (content_behind letter_u s) (short_escape x ∷ content s)) e

pub content_escape : (s : List ℕ) (at : ℕ) → at < length s → get_or s at 0 ≡ 92 → content (drop at s) ≡ content_behind backslash (drop (at + 1) s)
unfolding content_behind
content_escape s at h e = ap content (drop_more s at 0 h) ∙ ap (λ y. cond (y == 92) (content_behind backslash (drop (at + 1) s)) (y ∷ content (drop (at + 1) s))) e

pub content_other : (s : List ℕ) (at : ℕ) → at < length s → (get_or s at 0 == 92) ≡ false → content (drop at s) ≡ get_or s at 0 ∷ content (drop (at + 1) s)
unfolding content_behind
content_other s at h e = ap content (drop_more s at 0 h) ∙ ap (λ t. cond t (content_behind backslash (drop (at + 1) s)) (get_or s at 0 ∷ content (drop (at + 1) s))) e

-- nothing is left
pub content_all : (s : List ℕ) (n : ℕ) → length s ≤ n → content (drop n s) ≡ []
content_all s n h = ap content (drop_all n s h) ∙ content_nil

join_after : (out now more rest tail : List ℕ) → now ≡ out ++ more → tail ≡ more ++ rest → now ++ rest ≡ out ++ tail
join_after out now more rest tail e f = ap (λ x. x ++ rest) e ∙ (append_assoc out more rest ∙ ap (λ x. out ++ x) (sym f))

pub short_ok : (out s tail : List ℕ) (n : ℕ) → length s ≤ n → tail ≡ [] → out ++ content (drop n s) ≡ out ++ tail
short_ok out s tail n h e = ap (λ x. out ++ x) (content_all s n h ∙ sym e)

pub low_ok : (out now s : List ℕ) (k c : ℕ) → 6 ≤ length s → now ≡ out ++ char_bytes c → c ≡ pair_of k (code_unit (get_or s 2 0) (get_or s 3 0) (get_or s 4 0) (get_or s 5 0)) → now ++ content (drop 6 s) ≡ out ++ content_behind (high k) s
low_ok out now s k c h e f = join_after out now (char_bytes c) (content (drop 6 s)) (content_behind (high k) s) e (low_long k s h ∙ ap (λ x. char_bytes x ++ content (drop 6 s)) (sym f))

pub unit_ok : (out now s : List ℕ) (u : ℕ) → 4 ≤ length s → u ≡ code_unit (get_or s 0 0) (get_or s 1 0) (get_or s 2 0) (get_or s 3 0) → is_high u ≡ false → now ≡ out ++ char_bytes u → now ++ content (drop 4 s) ≡ out ++ content_behind letter_u s
unit_ok out now s u h f n e = join_after out now (char_bytes u) (content (drop 4 s)) (content_behind letter_u s) e
    (unit_long s h ∙ (ap (λ x. cond (is_high x) (content_behind (high x) (drop 4 s)) (char_bytes x ++ content (drop 4 s))) (sym f) ∙ ap (λ t. cond t (content_behind (high u) (drop 4 s)) (char_bytes u ++ content (drop 4 s))) n))

pub unit_high_ok : (out now s : List ℕ) (u n : ℕ) → 4 ≤ length s → u ≡ code_unit (get_or s 0 0) (get_or s 1 0) (get_or s 2 0) (get_or s 3 0) → is_high u ≡ true → now ++ content (drop n (drop 4 s)) ≡ out ++ content_behind (high u) (drop 4 s) → now ++ content (drop (n + 4) s) ≡ out ++ content_behind letter_u s
unit_high_ok out now s u n h f t e =
    let k : 4 + n ≡ n + 4 = omega arith in
    ap (λ x. now ++ content x) (sym (drop-drop n 4 s ∙ ap (λ i. drop i s) k)) ∙ (e ∙ ap (λ x. out ++ x) (sym (unit_long s h ∙ (ap (λ x. cond (is_high x) (content_behind (high x) (drop 4 s)) (char_bytes x ++ content (drop 4 s))) (sym f) ∙ ap (λ x. cond x (content_behind (high u) (drop 4 s)) (char_bytes u ++ content (drop 4 s))) t))))

pub escape_u_ok : (out now s : List ℕ) (n : ℕ) → 0 < length s → get_or s 0 0 ≡ 117 → now ++ content (drop n (drop 1 s)) ≡ out ++ content_behind letter_u (drop 1 s) → now ++ content (drop (n + 1) s) ≡ out ++ content_behind backslash s
escape_u_ok out now s n h f e =
    let k : 1 + n ≡ n + 1 = omega arith in
    ap (λ x. now ++ content x) (sym (drop-drop n 1 s ∙ ap (λ i. drop i s) k)) ∙ (e ∙ ap (λ x. out ++ x) (sym (escape_u s h f)))

pub escape_short_ok : (out now s : List ℕ) (x : ℕ) → 0 < length s → (get_or s 0 0 ≡ 117 → ⊥) → x ≡ short_escape (get_or s 0 0) → now ≡ out ++ (x ∷ []) → now ++ content (drop 1 s) ≡ out ++ content_behind backslash s
escape_short_ok out now s x h f g e =
    let n : (get_or s 0 0 == 117) ≡ false = not_equal (get_or s 0 0) 117 f in
    join_after out now (x ∷ []) (content (drop 1 s)) (content_behind backslash s) e (escape_short s h n ∙ ap (λ y. y ∷ content (drop 1 s)) (sym g))
  where
    not_equal : (a b : ℕ) → (a ≡ b → ⊥) → (a == b) ≡ false
    not_equal a b h = grind (arith, nat_tests)

pub escape_empty : (out s : List ℕ) → length s ≡ 0 → out ++ content s ≡ out ++ content_behind backslash s
escape_empty out [] h = ap (λ x. out ++ x) (content_nil ∙ sym escape_nil)
escape_empty out (x ∷ s) h = absurd (omega arith)

pub turn_escape : (out now s : List ℕ) (at n : ℕ) → at < length s → get_or s at 0 ≡ 92 → out ++ content (drop at s) ≡ content s → now ++ content (drop n (drop (at + 1) s)) ≡ out ++ content_behind backslash (drop (at + 1) s) → now ++ content (drop (at + 1 + n) s) ≡ content s
turn_escape out now s at n h e i f = ap (λ x. now ++ content x) (sym (drop-drop n (at + 1) s)) ∙ (f ∙ (ap (λ x. out ++ x) (sym (content_escape s at h e)) ∙ i))

pub turn_other : (out now s : List ℕ) (at x : ℕ) → at < length s → x ≡ get_or s at 0 → (x ≡ 92 → ⊥) → out ++ content (drop at s) ≡ content s → now ≡ out ++ (x ∷ []) → now ++ content (drop (at + 1) s) ≡ content s
turn_other out now s at x h e n i f =
    let d : (get_or s at 0 == 92) ≡ false = let z : (get_or s at 0 ≡ 92 → ⊥) = λ y. n (e ∙ y) in grind (arith, nat_tests) in
    join_after out now (x ∷ []) (content (drop (at + 1) s)) (content (drop at s)) f (content_other s at h d ∙ ap (λ y. y ∷ content (drop (at + 1) s)) (sym e)) ∙ i

-- bytes without a backslash stand for themselves
content_own : (r t : List ℕ) → has_backslash r ≡ false → content (r ++ t) ≡ r ++ content t
unfolding content_behind
content_own [] t e = refl
content_own (x ∷ r) t e =
    let h = neither (x == 92) (has_backslash r) e in
    ap (λ y. cond y (content_behind backslash (r ++ t)) (x ∷ content (r ++ t))) h.0 ∙ ap (λ y. x ∷ y) (content_own r t h.1)

-- a run up to the next backslash
pub turn_run : (out now s : List ℕ) (at run m : ℕ) → m ≡ run → has_backslash (take run (drop at s)) ≡ false → now ≡ out ++ take m (drop at s) → out ++ content (drop at s) ≡ content s → now ++ content (drop (at + run) s) ≡ content s
turn_run out now s at run m k n e i =
    let w = drop at s in
    let split : content w ≡ take run w ++ content (drop (at + run) s) = ap content (sym (take-append-drop run w)) ∙ (content_own (take run w) (drop run w) n ∙ ap (λ x. take run w ++ content x) (drop-drop run at s)) in
    join_after out now (take run w) (content (drop (at + run) s)) (content w) (e ∙ ap (λ x. out ++ take x w) k) split ∙ i

pub turns_end : (out s : List ℕ) (at : ℕ) → length s ≤ at → out ++ content (drop at s) ≡ content s → out ≡ content s
turns_end out s at h i = sym (append-nil out) ∙ (ap (λ x. out ++ x) (sym (content_all s at h)) ∙ i)

-- the run is the last one
pub run_ends : (out now s : List ℕ) (at run m : ℕ) → m ≡ run → has_backslash (take run (drop at s)) ≡ false → now ≡ out ++ take m (drop at s) → out ++ content (drop at s) ≡ content s → at + run ≡ length s → now ≡ content s
run_ends out now s at run m k n e i h = turns_end now s (at + run) (omega arith) (turn_run out now s at run m k n e i)
