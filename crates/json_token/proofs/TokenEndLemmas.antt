-- White space, strings, numbers and words at a place of the bytes.
use Rattle.std.proofs.Common.{◌≡◌, ℕ, zero, suc, ◌+◌, ◌-◌, ◌<◌, ◌≤◌, List, [], ◌∷◌, ◌++◌, length, take, drop, get_or, true, false, None, refl, sym, ap, ◌∙◌, subst, arith}
use Rattle.std.proofs.lemmas.List.{take_more, take-append-drop, drop-drop, length-take-le, length-drop, drop_more, get_or-drop, drop_all, take_all, take_more_same}
use Rattle.std.proofs.lemmas.Bool.{false≢true}
use Rattle.std.proofs.lemmas.Bool.Decides.{nat_tests}
use Rattle.json_token.specs.Tokens.{is_blank, AreBlank}
use Rattle.json_token.specs.Number.{next_part, may_end}
use Rattle.json_token.specs.Number as number
use Rattle.json_token.specs.Scans.{EndsChars, BreaksChars, CutsChars, EndsNumber, BreaksNumber, CutsNumber, StopsAt}
use Rattle.json_token.specs.TokenEnds.{Skips, QuotedTo, QuotedBreaks, QuotedCut, NumberTo, NumberBreaks, NumberCut, begins_number, WordTo, WordBreaks, WordCut}
use Rattle.json_token.specs.declared.number.Part.{Part}
use Rattle.json_token.specs.declared.number.Part.TheVariants.{Start}

blanks_push : (xs : List ℕ) (b : ℕ) → AreBlank xs → is_blank b ≡ true → AreBlank (xs ++ (b ∷ []))
blanks_push [] b h e = (e, tt)
blanks_push (x ∷ xs) b h e = (h.0, blanks_push xs b h.1 e)

pub skip_more : (bytes : List ℕ) (from at : ℕ) → from ≤ at → at < length bytes → AreBlank (take (at - from) (drop from bytes)) → is_blank (get_or bytes at 0) ≡ true → AreBlank (take (at + 1 - from) (drop from bytes))
skip_more bytes from at l h a e =
    let n : at + 1 - from ≡ at - from + 1 = omega arith in
    let k : from + (at - from) ≡ at = omega arith in
    let inside : at - from < length (drop from bytes) = omega (arith, length-drop from bytes) in
    let this : get_or (drop from bytes) (at - from) 0 ≡ get_or bytes at 0 = get_or-drop from bytes (at - from) 0 ∙ ap (λ i. get_or bytes i 0) k in
    let P : List ℕ → Type 0 = λ x. AreBlank x in
    subst P (sym (ap (λ i. take i (drop from bytes)) n ∙ take_more (drop from bytes) (at - from) 0 inside)) (blanks_push _ _ a (ap is_blank this ∙ e))

pub skip_end : (bytes : List ℕ) (from at : ℕ) → from ≤ at → at ≤ length bytes → AreBlank (take (at - from) (drop from bytes)) → (at < length bytes → is_blank (get_or bytes at 0) ≡ false) → Skips bytes from at
skip_end bytes from at l h a e =
    let k : from + (at - from) ≡ at = omega arith in
    let inside : at - from ≤ length (drop from bytes) = omega (arith, length-drop from bytes) in
    record {
      blanks = take (at - from) (drop from bytes);
      blank = a;
      split = sym (take-append-drop (at - from) (drop from bytes)) ∙ ap (λ x. take (at - from) (drop from bytes) ++ x) (drop-drop (at - from) from bytes ∙ ap (λ i. drop i bytes) k);
      moved = omega (arith, length-take-le (at - from) (drop from bytes) inside);
      inside = h;
      stops = e;
    }

-- the byte at the place and those behind it
pub byte_first : (bytes : List ℕ) (place b : ℕ) → place < length bytes → get_or bytes place 0 ≡ b → drop place bytes ≡ b ∷ drop (place + 1) bytes
byte_first bytes place b l e = drop_more bytes place 0 l ∙ ap (λ x. x ∷ drop (place + 1) bytes) e

pub no_bytes : (bytes : List ℕ) (place : ℕ) → length bytes ≤ place → drop place bytes ≡ []
no_bytes bytes place l = drop_all place bytes l

-- bytes up to n and the one there
split_at : (w : List ℕ) (n : ℕ) → n < length w → w ≡ take n w ++ (get_or w n 0 ∷ drop (n + 1) w)
split_at w n l = sym (take-append-drop n w) ∙ ap (λ x. take n w ++ x) (drop_more w n 0 l)

pub quoted_ends : (bytes : List ℕ) (place n : ℕ) → place < length bytes → get_or bytes place 0 ≡ 34 → EndsChars (drop (place + 1) bytes) n → QuotedTo bytes place (place + 1 + n + 1)
quoted_ends bytes place n l e c =
    let w = drop (place + 1) bytes in
    let after : drop (n + 1) w ≡ drop (place + 1 + n + 1) bytes = drop-drop (n + 1) (place + 1) bytes ∙ (let k : place + 1 + (n + 1) ≡ place + 1 + n + 1 = omega arith in ap (λ i. drop i bytes) k) in
    record {
      s = take n w;
      valid = c.leads;
      split = byte_first bytes place 34 l e ∙ ap (λ x. 34 ∷ x) (split_at w n c.inside ∙ (λ i. take n w ++ (c.quote i ∷ after i)));
      moved = omega (arith, length-take-le n w (omega (arith, c.inside)));
      inside = omega (arith, c.inside, length-drop (place + 1) bytes);
    }

pub quoted_breaks : (bytes : List ℕ) (place n : ℕ) → place < length bytes → get_or bytes place 0 ≡ 34 → BreaksChars (drop (place + 1) bytes) n → QuotedBreaks bytes place (place + 1 + n)
quoted_breaks bytes place n l e c =
    let w = drop (place + 1) bytes in
    record {
      p = take n w;
      b = get_or w n 0;
      rest = drop (n + 1) w;
      last = c.last;
      split = byte_first bytes place 34 l e ∙ ap (λ x. 34 ∷ x) (split_at w n c.inside);
      leads = c.leads;
      stops = c.stops;
      no_quote = c.no_quote;
      at = omega (arith, length-take-le n w (omega (arith, c.inside)));
    }

pub quoted_cut : (bytes : List ℕ) (place : ℕ) → place < length bytes → get_or bytes place 0 ≡ 34 → CutsChars (drop (place + 1) bytes) → QuotedCut bytes place
quoted_cut bytes place l e c = record { p = drop (place + 1) bytes; last = c.last; split = byte_first bytes place 34 l e; leads = c.leads }

start_goes : (b : ℕ) → begins_number b ≡ true → next_part Start b ≡ None → ⊥
unfolding next_part
start_goes b e f = grind (arith, nat_tests)

leads_along : (s t : List ℕ) (q : Part) → s ≡ t → number.Leads Start s q → number.Leads Start t q
leads_along s t q e l = let P : List ℕ → Type 0 = λ x. number.Leads Start x q in subst P e l

stops_along : (q : Part) (s t : List ℕ) → s ≡ t → StopsAt q s → StopsAt q t
stops_along q s t e l = let P : List ℕ → Type 0 = λ x. StopsAt q x in subst P e l

pub number_ends : (bytes : List ℕ) (place n : ℕ) → place < length bytes → begins_number (get_or bytes place 0) ≡ true → EndsNumber (drop place bytes) n → NumberTo bytes place (place + n)
number_ends bytes place zero l b c = absurd (false≢true (ap may_end c.leads ∙ c.may_end))
number_ends bytes place (suc m) l b c =
    let w = drop (place + 1) bytes in
    let a = get_or bytes place 0 in
    let e : drop place bytes ≡ a ∷ w = byte_first bytes place a l refl in
    let inside : m ≤ length w = omega (arith, c.inside, length-drop place bytes, length-drop (place + 1) bytes) in
    let k : place + 1 + m ≡ place + suc m = omega arith in
    let after : drop m w ≡ drop (place + suc m) bytes = drop-drop m (place + 1) bytes ∙ ap (λ i. drop i bytes) k in
    record {
      b = a;
      s = take m w;
      last = c.last;
      begins = b;
      split = e ∙ ap (λ x. a ∷ x) (sym (take-append-drop m w) ∙ ap (λ x. take m w ++ x) after);
      leads = leads_along _ _ c.last (ap (take (suc m)) e) c.leads;
      ends = c.may_end;
      stops = stops_along c.last _ _ (ap (drop (suc m)) e ∙ after) c.stops;
      moved = omega (arith, length-take-le m w inside);
      inside = omega (arith, inside, length-drop (place + 1) bytes);
    }

pub number_breaks : (bytes : List ℕ) (place n : ℕ) → place < length bytes → begins_number (get_or bytes place 0) ≡ true → BreaksNumber (drop place bytes) n → NumberBreaks bytes place (place + n)
number_breaks bytes place zero l b c =
    let first : get_or (drop place bytes) 0 0 ≡ get_or bytes place 0 = ap (λ x. get_or x 0 0) (byte_first bytes place (get_or bytes place 0) l refl) in
    absurd (start_goes (get_or bytes place 0) b ((λ i. next_part (c.leads i) (sym first i)) ∙ c.stops))
number_breaks bytes place (suc m) l b c =
    let w = drop (place + 1) bytes in
    let a = get_or bytes place 0 in
    let e : drop place bytes ≡ a ∷ w = byte_first bytes place a l refl in
    let inside : m < length w = omega (arith, c.inside, length-drop place bytes, length-drop (place + 1) bytes) in
    record {
      a = a;
      p = take m w;
      b = get_or w m 0;
      rest = drop (m + 1) w;
      last = c.last;
      begins = b;
      split = e ∙ ap (λ x. a ∷ x) (split_at w m inside);
      leads = leads_along _ _ c.last (ap (take (suc m)) e) c.leads;
      partial = c.may_end;
      stops = ap (next_part c.last) (sym (ap (λ x. get_or x (suc m) 0) e)) ∙ c.stops;
      at = omega (arith, length-take-le m w (omega arith));
    }

pub number_cut : (bytes : List ℕ) (place : ℕ) → place < length bytes → begins_number (get_or bytes place 0) ≡ true → CutsNumber (drop place bytes) → NumberCut bytes place
number_cut bytes place l b c =
    let e = byte_first bytes place (get_or bytes place 0) l refl in
    record { a = get_or bytes place 0; p = drop (place + 1) bytes; last = c.last; begins = b; split = e; leads = leads_along _ _ c.last e c.leads; partial = c.may_end }

pub word_more : (bytes word : List ℕ) (place i : ℕ) → i < length word → place + i < length bytes → take i word ≡ take i (drop place bytes) → get_or bytes (place + i) 0 ≡ get_or word i 0 → take (i + 1) word ≡ take (i + 1) (drop place bytes)
word_more bytes word place i l h e f =
    let inside : i < length (drop place bytes) = omega (arith, length-drop place bytes) in
    take_more_same word (drop place bytes) i 0 l inside e (sym f ∙ sym (get_or-drop place bytes i 0))

pub word_ends : (bytes word : List ℕ) (place : ℕ) → length word ≤ length (drop place bytes) → place ≤ length bytes → take (length word) word ≡ take (length word) (drop place bytes) → WordTo bytes word place (place + length word)
word_ends bytes word place l h e = record {
  split = sym (take-append-drop (length word) (drop place bytes)) ∙ (λ i. (sym e ∙ take_all (length word) word (omega arith)) i ++ drop-drop (length word) place bytes i);
  moved = refl;
  inside = omega (arith, length-drop place bytes);
}

pub word_breaks : (bytes word : List ℕ) (place i : ℕ) → i < length word → place + i < length bytes → take i word ≡ take i (drop place bytes) → (get_or bytes (place + i) 0 ≡ get_or word i 0 → ⊥) → WordBreaks bytes word place (place + i)
word_breaks bytes word place i l h e n =
    let inside : i < length (drop place bytes) = omega (arith, length-drop place bytes) in
    record {
      p = take i word;
      c = get_or word i 0;
      s = drop (i + 1) word;
      b = get_or (drop place bytes) i 0;
      rest = drop (i + 1) (drop place bytes);
      word_is = split_at word i l;
      split = split_at (drop place bytes) i inside ∙ ap (λ x. x ++ (get_or (drop place bytes) i 0 ∷ drop (i + 1) (drop place bytes))) (sym e);
      other = λ f. n (sym (get_or-drop place bytes i 0) ∙ f);
      at = omega (arith, length-take-le i word (omega arith));
    }

pub word_cut : (bytes word : List ℕ) (place i : ℕ) → i < length word → length bytes - place ≤ i → take i word ≡ take i (drop place bytes) → WordCut bytes word place
word_cut bytes word place i l h e = record {
  p = take i word;
  c = get_or word i 0;
  s = drop (i + 1) word;
  word_is = split_at word i l;
  split = sym (take_all i (drop place bytes) (omega (arith, length-drop place bytes))) ∙ sym e;
}
