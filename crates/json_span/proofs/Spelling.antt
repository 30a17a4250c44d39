-- Strings, numbers and literal names at the front of bytes: a step over each, and where each breaks or is cut.
use Rattle.std.proofs.Common.{◌≡◌, ℕ, suc, ◌+◌, List, [], ◌∷◌, ◌++◌, length, drop, true, false, Some, None, refl, sym, ap, ◌∙◌, subst, append_assoc, arith}
use Rattle.std.proofs.lemmas.Bool.{false≢true}
use Rattle.std.proofs.lemmas.Bool.Decides.{nat_tests}
use Rattle.std.proofs.lemmas.List.{append-nil, append_cancel_left}
use Rattle.json_span.specs.Json.{Json}
use Rattle.json_token.specs.Tokens.{Token, begin_array, end_array, begin_object, end_object, comma, colon, null_name, true_name, false_name, numeral, quoted, is_blank, spelled, IsToken, Laid}
use Rattle.json_token.specs.Number.{next_part, may_end, IsNumber}
use Rattle.json_token.specs.Number as number
use Rattle.json_token.specs.Chars.{next_inside, IsChars}
use Rattle.json_token.specs.Chars as chars
use Rattle.json_token.specs.Scans.{StopsAt}
use Rattle.json_span.specs.Refusals.{IsBadByte, IsCut}
use Rattle.json_token.specs.declared.number.Part.{Part}
use Rattle.json_token.specs.declared.number.Part.TheVariants.{Start, Whole, Zero, Digits, Point, Fraction, Mark, Sign, Exponent}
use Rattle.json_token.specs.declared.chars.Inside.{Inside}
use Rattle.json_token.specs.declared.chars.Inside.TheVariants.{Plain, Tail1, Tail2, Tail3, AfterE0, AfterEd, AfterF0, AfterF4, Escape, Unit4, Unit3, Unit2, Unit1, UnitD, High2, High1, LowSlash, LowU, LowD, LowC}
use Rattle.json_span.specs.Ahead.{Ahead}
use Rattle.json_span.specs.Reading.{Bytes, Follow, ReadsTo}
use Rattle.json_span.proofs.BytesLemmas.{Front-Bytes, Front-code, token_by_code, token-Bytes, class}
use Rattle.json_span.proofs.ReadingLemmas.{ReadsTo-step, follow_blank, follow_first, Alive, IsFixed, Bytes-fixed, bad_within, cut_within}

-- ---- strings

no_char_at_quote : (r : Inside) → next_inside Plain 34 ≡ Some r → ⊥
unfolding next_inside
no_char_at_quote r e = cc

quote_stops : (p r : Inside) (b : ℕ) → p ≡ Plain → b ≡ 34 → next_inside p b ≡ Some r → ⊥
quote_stops p r b e f h = no_char_at_quote r ((λ i. next_inside (sym e i) (sym f i)) ∙ h)

same_lead : (p r q : Inside) (s : List ℕ) → r ≡ q → chars.Leads r s p → chars.Leads q s p
same_lead p r q s e h = let P : Inside → Type 0 = λ x. chars.Leads x s p in subst P e h

chars_same : (p : Inside) (s t v w : List ℕ) → chars.Leads p s Plain → chars.Leads p t Plain → s ++ (34 ∷ v) ≡ t ++ (34 ∷ w) → (s ≡ t) × (v ≡ w)
chars_same p [] [] v w l m e = (refl, cc)
chars_same p [] (b ∷ t) v w l m e = let at : 34 ≡ b = cc in absurd (quote_stops p m.0 b l (sym at) m.1)
chars_same p (a ∷ s) [] v w l m e = let at : a ≡ 34 = cc in absurd (quote_stops p l.0 a m at l.1)
chars_same p (a ∷ s) (b ∷ t) v w l m e =
    let at : a ≡ b = cc in
    let go : Some m.0 ≡ Some l.0 = sym m.1 ∙ (ap (next_inside p) (sym at) ∙ l.1) in
    let to : m.0 ≡ l.0 = cc in
    let r = chars_same l.0 s t v w l.2 (same_lead Plain m.0 l.0 t to m.2) cc in
    ((λ i. at i ∷ r.0 i), r.1)

chars_dead : (p q : Inside) (s t : List ℕ) (b : ℕ) (v w : List ℕ) → chars.Leads p s q → next_inside q b ≡ None → (q ≡ Plain → b ≡ 34 → ⊥) → chars.Leads p t Plain → s ++ (b ∷ v) ≡ t ++ (34 ∷ w) → ⊥
chars_dead p q [] [] b v w l n c m e = c (sym l ∙ m) cc
chars_dead p q [] (a ∷ t) b v w l n c m e = let at : b ≡ a = cc in let go : None ≡ Some m.0 = sym n ∙ (ap (λ x. next_inside x b) (sym l) ∙ (ap (next_inside p) at ∙ m.1)) in cc
chars_dead p q (a ∷ s) [] b v w l n c m e = let at : a ≡ 34 = cc in quote_stops p l.0 a m at l.1
chars_dead p q (a ∷ s) (d ∷ t) b v w l n c m e =
    let at : a ≡ d = cc in
    let go : Some m.0 ≡ Some l.0 = sym m.1 ∙ (ap (next_inside p) (sym at) ∙ l.1) in
    let to : m.0 ≡ l.0 = cc in
    chars_dead l.0 q s t b v w l.2 n c (same_lead Plain m.0 l.0 t to m.2) cc

chars_short : (p q : Inside) (s t w : List ℕ) → chars.Leads p s q → chars.Leads p t Plain → s ≡ t ++ (34 ∷ w) → ⊥
chars_short p q [] [] w l m e = cc
chars_short p q [] (a ∷ t) w l m e = cc
chars_short p q (a ∷ s) [] w l m e = let at : a ≡ 34 = cc in quote_stops p l.0 a m at l.1
chars_short p q (a ∷ s) (d ∷ t) w l m e =
    let at : a ≡ d = cc in
    let go : Some m.0 ≡ Some l.0 = sym m.1 ∙ (ap (next_inside p) (sym at) ∙ l.1) in
    let to : m.0 ≡ l.0 = cc in
    chars_short l.0 q s t w l.2 (same_lead Plain m.0 l.0 t to m.2) cc

pub chars_join : (p q r : Inside) (s t : List ℕ) → chars.Leads p s q → chars.Leads q t r → chars.Leads p (s ++ t) r
chars_join p q r [] t l m = same_lead r q p t (sym l) m
chars_join p q r (b ∷ s) t l m = (l.0, l.1, chars_join l.0 q r s t l.2 m)

-- from each place inside a string its characters may end
chars_finish : (p : Inside) → (s : List ℕ) × chars.Leads p s Plain
unfolding next_inside
chars_finish Plain = ([], refl)
chars_finish Tail1 = (128 ∷ [], (Plain, refl, refl))
chars_finish Tail2 = (128 ∷ (128 ∷ []), (Tail1, refl, (Plain, refl, refl)))
chars_finish Tail3 = (128 ∷ (128 ∷ (128 ∷ [])), (Tail2, refl, (Tail1, refl, (Plain, refl, refl))))
chars_finish AfterE0 = (160 ∷ (128 ∷ []), (Tail1, refl, (Plain, refl, refl)))
chars_finish AfterEd = (128 ∷ (128 ∷ []), (Tail1, refl, (Plain, refl, refl)))
chars_finish AfterF0 = (144 ∷ (128 ∷ (128 ∷ [])), (Tail2, refl, (Tail1, refl, (Plain, refl, refl))))
chars_finish AfterF4 = (128 ∷ (128 ∷ (128 ∷ [])), (Tail2, refl, (Tail1, refl, (Plain, refl, refl))))
chars_finish Escape = (34 ∷ [], (Plain, refl, refl))
chars_finish Unit1 = (48 ∷ [], (Plain, refl, refl))
chars_finish Unit2 = (48 ∷ (48 ∷ []), (Unit1, refl, (Plain, refl, refl)))
chars_finish Unit3 = (48 ∷ (48 ∷ (48 ∷ [])), (Unit2, refl, (Unit1, refl, (Plain, refl, refl))))
chars_finish Unit4 = (48 ∷ (48 ∷ (48 ∷ (48 ∷ []))), (Unit3, refl, (Unit2, refl, (Unit1, refl, (Plain, refl, refl)))))
chars_finish UnitD = (48 ∷ (48 ∷ (48 ∷ [])), (Unit2, refl, (Unit1, refl, (Plain, refl, refl))))
chars_finish LowC = (67 ∷ (48 ∷ (48 ∷ [])), (Unit2, refl, (Unit1, refl, (Plain, refl, refl))))
chars_finish LowD = (68 ∷ (67 ∷ (48 ∷ (48 ∷ []))), (LowC, refl, (Unit2, refl, (Unit1, refl, (Plain, refl, refl)))))
chars_finish LowU = (117 ∷ (68 ∷ (67 ∷ (48 ∷ (48 ∷ [])))), (LowD, refl, (LowC, refl, (Unit2, refl, (Unit1, refl, (Plain, refl, refl))))))
chars_finish LowSlash = (92 ∷ (117 ∷ (68 ∷ (67 ∷ (48 ∷ (48 ∷ []))))), (LowU, refl, (LowD, refl, (LowC, refl, (Unit2, refl, (Unit1, refl, (Plain, refl, refl)))))))
chars_finish High1 = (48 ∷ (92 ∷ (117 ∷ (68 ∷ (67 ∷ (48 ∷ (48 ∷ [])))))), (LowSlash, refl, (LowU, refl, (LowD, refl, (LowC, refl, (Unit2, refl, (Unit1, refl, (Plain, refl, refl))))))))
chars_finish High2 = (48 ∷ (48 ∷ (92 ∷ (117 ∷ (68 ∷ (67 ∷ (48 ∷ (48 ∷ []))))))), (High1, refl, (LowSlash, refl, (LowU, refl, (LowD, refl, (LowC, refl, (Unit2, refl, (Unit1, refl, (Plain, refl, refl)))))))))

-- a string at the front of the bytes
record Quoted (R : List Token → Json → Type 0) (w : List ℕ) (j : Json) : Type 0 where
  s : List ℕ
  more : List ℕ
  valid : IsChars s
  split : w ≡ s ++ (34 ∷ more)
  bytes : Bytes (λ ts. R (quoted s ∷ ts)) more j

Bytes-quoted : (R : List Token → Json → Type 0) (w : List ℕ) (j : Json) → Bytes R (34 ∷ w) j → Quoted R w j
Bytes-quoted R w j v =
    let f = Front-Bytes R 34 w j refl v in
    let d = token_by_code f.t 34 (Front-code R 34 w j f) in
    let P : Token → Type 0 = λ x. R (x ∷ f.ts) j in
    let T : Token → Type 0 = λ x. IsToken x in
    let whole : 34 ∷ w ≡ 34 ∷ (d.0 ++ (34 ∷ f.more)) = f.split ∙ (ap (λ x. spelled x ++ f.more) d.1 ∙ ap (λ x. 34 ∷ x) (append_assoc d.0 (34 ∷ []) f.more)) in
    record { s = d.0; more = f.more; valid = subst T d.1 f.valid; split = cc; bytes = record { ts = f.ts; ahead = subst P d.1 f.ahead; laid = f.laid } }

quote_assoc : (s w : List ℕ) → (34 ∷ (s ++ (34 ∷ []))) ++ w ≡ 34 ∷ (s ++ (34 ∷ w))
quote_assoc s w = ap (λ x. 34 ∷ x) (append_assoc s (34 ∷ []) w)

bytes_along : (R : List Token → Json → Type 0) (xs ys : List ℕ) (j : Json) → xs ≡ ys → Bytes R xs j → Bytes R ys j
bytes_along R xs ys j e t = let P : List ℕ → Type 0 = λ x. Bytes R x j in subst P e t

pub ReadsTo-quoted : (bytes : List ℕ) (place : ℕ) (R S : Ahead) (s rest : List ℕ) → (r : ReadsTo bytes place R) → drop place bytes ≡ 34 ∷ (s ++ (34 ∷ rest)) → IsChars s
    → ((extra : ℕ) (ts : List Token) (j : Json) → R extra (quoted s ∷ ts) j → S extra ts j) → ((extra : ℕ) (ts : List Token) (j : Json) → S extra ts j → R extra (quoted s ∷ ts) j)
    → ReadsTo bytes (place + length (34 ∷ (s ++ (34 ∷ [])))) S
ReadsTo-quoted bytes place R S s rest r e i to from =
    let P : List ℕ → Type 0 = λ x. Follow r.last x in
    ReadsTo-step bytes place R S (34 ∷ (s ++ (34 ∷ []))) rest None r (e ∙ sym (quote_assoc s rest)) tt
    (λ w f. follow_first r.last 34 (s ++ (34 ∷ rest)) ((s ++ (34 ∷ [])) ++ w) (subst P e r.follow))
    (λ extra w j f v.
    let q = Bytes-quoted (R extra) ((s ++ (34 ∷ [])) ++ w) j v in
    let same = chars_same Plain s q.s w q.more i q.valid (sym (append_assoc s (34 ∷ []) w) ∙ q.split) in
    let A : List ℕ → Type 0 = λ x. R extra (quoted x ∷ q.bytes.ts) j in
    bytes_along (S extra) _ _ j (sym same.1) (record { ts = q.bytes.ts; ahead = to extra q.bytes.ts j (subst A (sym same.0) q.bytes.ahead); laid = q.bytes.laid }))
    (λ extra w j f v. token-Bytes (R extra) (quoted s) w j i (record { ts = v.ts; ahead = from extra v.ts j v.ahead; laid = v.laid }))

alive_chars : (R : List Token → Json → Type 0) (p : List ℕ) (q : Inside) → chars.Leads Plain p q → ((s : List ℕ) → Alive (λ ts. R (quoted s ∷ ts)) []) → Alive R (34 ∷ p)
alive_chars R p q l a =
    let fin = chars_finish q in
    let s = p ++ fin.0 in
    let v = a s in
    record { w = fin.0 ++ (34 ∷ v.w); j = v.j; bytes = bytes_along R _ _ v.j (quote_assoc s v.w ∙ ap (λ x. 34 ∷ x) (append_assoc p fin.0 (34 ∷ v.w))) (token-Bytes R (quoted s) v.w v.j (chars_join Plain q Plain p fin.0 l fin.1) v.bytes) }

pub bad_chars : (bytes : List ℕ) (place : ℕ) (R : Ahead) (p : List ℕ) (b : ℕ) (rest : List ℕ) (q : Inside) → ReadsTo bytes place R → drop place bytes ≡ 34 ∷ (p ++ (b ∷ rest)) → chars.Leads Plain p q
    → next_inside q b ≡ None → (q ≡ Plain → b ≡ 34 → ⊥) → ((s : List ℕ) → Alive (λ ts. R 0 (quoted s ∷ ts)) []) → IsBadByte bytes (place + suc (length p))
bad_chars bytes place R p b rest q r e l n c a =
    bad_within bytes place R 34 p b rest r e (alive_chars (R 0) p q l a)
    (λ extra w j v. let f = Bytes-quoted (R extra) (p ++ (b ∷ w)) j v in chars_dead Plain q p f.s b w f.more l n c f.valid f.split)

pub cut_chars : (bytes : List ℕ) (place : ℕ) (R : Ahead) (p : List ℕ) (q : Inside) → ReadsTo bytes place R → drop place bytes ≡ 34 ∷ p → chars.Leads Plain p q
    → ((s : List ℕ) → Alive (λ ts. R 0 (quoted s ∷ ts)) []) → IsCut bytes
cut_chars bytes place R p q r e l a =
    cut_within bytes place R 34 p r e (alive_chars (R 0) p q l a)
    (λ extra j v. let f = Bytes-quoted (R extra) p j v in chars_short Plain q p f.s f.more l f.valid f.split)

-- ---- numbers

same_part : (p r q : Part) (s : List ℕ) → r ≡ q → number.Leads r s p → number.Leads q s p
same_part p r q s e h = let P : Part → Type 0 = λ x. number.Leads x s p in subst P e h

number_same : (p q r : Part) (s t v w : List ℕ) → number.Leads p s q → StopsAt q v → number.Leads p t r → StopsAt r w → s ++ v ≡ t ++ w → (s ≡ t) × (v ≡ w)
number_same p q r [] [] v w l h m k e = (refl, e)
number_same p q r [] (b ∷ t) v w l h m k e =
    let P : List ℕ → Type 0 = λ x. StopsAt q x in
    let stop : next_part q b ≡ None = subst P e h in
    let go : None ≡ Some m.0 = sym stop ∙ (ap (λ x. next_part x b) (sym l) ∙ m.1) in absurd cc
number_same p q r (a ∷ s) [] v w l h m k e =
    let P : List ℕ → Type 0 = λ x. StopsAt r x in
    let stop : next_part r a ≡ None = subst P (sym e) k in
    let go : None ≡ Some l.0 = sym stop ∙ (ap (λ x. next_part x a) (sym m) ∙ l.1) in absurd cc
number_same p q r (a ∷ s) (b ∷ t) v w l h m k e =
    let at : a ≡ b = cc in
    let go : Some m.0 ≡ Some l.0 = sym m.1 ∙ (ap (next_part p) (sym at) ∙ l.1) in
    let to : m.0 ≡ l.0 = cc in
    let z = number_same l.0 q r s t v w l.2 h (same_part r m.0 l.0 t to m.2) k cc in
    ((λ i. at i ∷ z.0 i), z.1)

-- what may not end doesn't end where the bytes break it
number_dead : (p q r : Part) (s t v w : List ℕ) → number.Leads p s q → may_end q ≡ false → StopsAt q v → number.Leads p t r → may_end r ≡ true → StopsAt r w → s ++ v ≡ t ++ w → ⊥
number_dead p q r s t v w l n h m y k e =
    let z = number_same p q r s t v w l h m k e in
    let P : List ℕ → Type 0 = λ x. number.Leads p x r in
    number_end_same p q r s l (subst P (sym z.0) m) n y
  where
    number_end_same : (p q r : Part) (s : List ℕ) → number.Leads p s q → number.Leads p s r → may_end q ≡ false → may_end r ≡ true → ⊥
    number_end_same p q r [] l m n y = false≢true (sym n ∙ (ap may_end (sym l ∙ m) ∙ y))
    number_end_same p q r (b ∷ s) l m n y =
        let go : Some m.0 ≡ Some l.0 = sym m.1 ∙ l.1 in
        let to : m.0 ≡ l.0 = cc in
        number_end_same l.0 q r s l.2 (same_part r m.0 l.0 s to m.2) n y

number_join : (p q r : Part) (s t : List ℕ) → number.Leads p s q → number.Leads q t r → number.Leads p (s ++ t) r
number_join p q r [] t l m = same_part r q p t (sym l) m
number_join p q r (b ∷ s) t l m = (l.0, l.1, number_join l.0 q r s t l.2 m)

number_finish : (p : Part) → (s : List ℕ) × (q : Part) × number.Leads p s q × (may_end q ≡ true)
unfolding next_part
number_finish Start = (48 ∷ [], Zero, (Zero, refl, refl), refl)
number_finish Whole = (48 ∷ [], Zero, (Zero, refl, refl), refl)
number_finish Zero = ([], Zero, refl, refl)
number_finish Digits = ([], Digits, refl, refl)
number_finish Point = (48 ∷ [], Fraction, (Fraction, refl, refl), refl)
number_finish Fraction = ([], Fraction, refl, refl)
number_finish Mark = (48 ∷ [], Exponent, (Exponent, refl, refl), refl)
number_finish Sign = (48 ∷ [], Exponent, (Exponent, refl, refl), refl)
number_finish Exponent = ([], Exponent, refl, refl)

-- the tokens that may stand behind a number
abbrev pub Ends : Token → Type 0
Ends end_array = Unit {0}
Ends end_object = Unit {0}
Ends comma = Unit {0}
Ends _ = ⊥

abbrev pub NumberEnds : Ahead → Type 0
NumberEnds R = (extra : ℕ) (s : List ℕ) (t : Token) (ts : List Token) (j : Json) → R extra (numeral s ∷ (t ∷ ts)) j → Ends t

stops_at_comma : (q : Part) → next_part q 44 ≡ None
unfolding next_part
stops_at_comma Start = refl
stops_at_comma Whole = refl
stops_at_comma Zero = refl
stops_at_comma Digits = refl
stops_at_comma Point = refl
stops_at_comma Fraction = refl
stops_at_comma Mark = refl
stops_at_comma Sign = refl
stops_at_comma Exponent = refl

stops_at_bracket : (q : Part) → next_part q 93 ≡ None
unfolding next_part
stops_at_bracket Start = refl
stops_at_bracket Whole = refl
stops_at_bracket Zero = refl
stops_at_bracket Digits = refl
stops_at_bracket Point = refl
stops_at_bracket Fraction = refl
stops_at_bracket Mark = refl
stops_at_bracket Sign = refl
stops_at_bracket Exponent = refl

stops_at_brace : (q : Part) → next_part q 125 ≡ None
unfolding next_part
stops_at_brace Start = refl
stops_at_brace Whole = refl
stops_at_brace Zero = refl
stops_at_brace Digits = refl
stops_at_brace Point = refl
stops_at_brace Fraction = refl
stops_at_brace Mark = refl
stops_at_brace Sign = refl
stops_at_brace Exponent = refl

stops_before : (q : Part) (t : Token) (w : List ℕ) → Ends t → StopsAt q (spelled t ++ w)
stops_before q end_array w i = stops_at_bracket q
stops_before q end_object w i = stops_at_brace q
stops_before q comma w i = stops_at_comma q
stops_before q begin_array w i = absurd i
stops_before q begin_object w i = absurd i
stops_before q colon w i = absurd i
stops_before q null_name w i = absurd i
stops_before q true_name w i = absurd i
stops_before q false_name w i = absurd i
stops_before q (numeral s) w i = absurd i
stops_before q (quoted s) w i = absurd i

-- behind a number no byte goes on with it
stops_laid : (q : Part) (ts : List Token) (w : List ℕ) → Laid ts w → ((t : Token) (us : List Token) → ts ≡ t ∷ us → Ends t) → StopsAt q w
stops_laid q [] [] l h = tt
stops_laid q [] (b ∷ w) l h = follow_blank (Some q) b w l.0
stops_laid q (t ∷ ts) w ([], more, areb, split, i, l) h = let P : List ℕ → Type 0 = λ x. StopsAt q x in subst P (sym split) (stops_before q t more (h t ts refl))
stops_laid q (t ∷ ts) w (b ∷ blanks, more, areb, split, i, l) h = let P : List ℕ → Type 0 = λ x. StopsAt q x in subst P (sym split) (follow_blank (Some q) b (blanks ++ (spelled t ++ more)) areb.0)

-- a number at the front of the bytes
record Numeral (R : List Token → Json → Type 0) (w : List ℕ) (j : Json) : Type 0 where
  s : List ℕ
  more : List ℕ
  valid : IsNumber s
  split : w ≡ s ++ more
  stops : StopsAt valid.0 more
  bytes : Bytes (λ ts. R (numeral s ∷ ts)) more j

Bytes-numeral : (R : Ahead) (extra b : ℕ) (w : List ℕ) (j : Json) → NumberEnds R → class b ≡ 48 → is_blank b ≡ false → Bytes (R extra) (b ∷ w) j → Numeral (R extra) (b ∷ w) j
Bytes-numeral R extra b w j ends c n v =
    let f = Front-Bytes (R extra) b w j n v in
    let d = token_by_code f.t 48 (Front-code (R extra) b w j f ∙ c) in
    let P : Token → Type 0 = λ x. R extra (x ∷ f.ts) j in
    let T : Token → Type 0 = λ x. IsToken x in
    let ahead : R extra (numeral d.0 ∷ f.ts) j = subst P d.1 f.ahead in
    let valid : IsNumber d.0 = subst T d.1 f.valid in
    record { s = d.0; more = f.more; valid = valid; split = f.split ∙ ap (λ x. spelled x ++ f.more) d.1; stops = stops_laid valid.0 f.ts f.more f.laid (λ t us e. let Q : List Token → Type 0 = λ x. R extra (numeral d.0 ∷ x) j in ends extra d.0 t us j (subst Q e ahead)); bytes = record { ts = f.ts; ahead = ahead; laid = f.laid } }

digit_no_blank : (b : ℕ) → class b ≡ 48 → is_blank b ≡ false
digit_no_blank b c = grind (arith, nat_tests)

pub ReadsTo-numeral : (bytes : List ℕ) (place : ℕ) (R S : Ahead) (b : ℕ) (s rest : List ℕ) (q : Part) → (r : ReadsTo bytes place R) → drop place bytes ≡ b ∷ (s ++ rest) → class b ≡ 48 → NumberEnds R
    → number.Leads Start (b ∷ s) q → may_end q ≡ true → StopsAt q rest
    → ((extra : ℕ) (ts : List Token) (j : Json) → R extra (numeral (b ∷ s) ∷ ts) j → S extra ts j) → ((extra : ℕ) (ts : List Token) (j : Json) → S extra ts j → R extra (numeral (b ∷ s) ∷ ts) j)
    → ReadsTo bytes (place + length (b ∷ s)) S
ReadsTo-numeral bytes place R S b s rest q r e c ends l y stop to from =
    let P : List ℕ → Type 0 = λ x. Follow r.last x in
    ReadsTo-step bytes place R S (b ∷ s) rest (Some q) r e stop
    (λ w f. follow_first r.last b (s ++ rest) (s ++ w) (subst P e r.follow))
    (λ extra w j f v.
    let m = Bytes-numeral R extra b (s ++ w) j ends c (digit_no_blank b c) v in
    let same = number_same Start q m.valid.0 (b ∷ s) m.s w m.more l f m.valid.1 m.stops m.split in
    let A : List ℕ → Type 0 = λ x. R extra (numeral x ∷ m.bytes.ts) j in
    bytes_along (S extra) _ _ j (sym same.1) (record { ts = m.bytes.ts; ahead = to extra m.bytes.ts j (subst A (sym same.0) m.bytes.ahead); laid = m.bytes.laid }))
    (λ extra w j f v. token-Bytes (R extra) (numeral (b ∷ s)) w j (q, l, y) (record { ts = v.ts; ahead = from extra v.ts j v.ahead; laid = v.laid }))

alive_number : (R : List Token → Json → Type 0) (p : List ℕ) (q : Part) → number.Leads Start p q → ((s : List ℕ) → Alive (λ ts. R (numeral s ∷ ts)) []) → Alive R p
alive_number R p q l a =
    let fin = number_finish q in
    let v = a (p ++ fin.0) in
    record { w = fin.0 ++ v.w; j = v.j; bytes = bytes_along R _ _ v.j (append_assoc p fin.0 v.w) (token-Bytes R (numeral (p ++ fin.0)) v.w v.j (fin.1, number_join Start q fin.1 p fin.0 l fin.2, fin.3) v.bytes) }

pub bad_number : (bytes : List ℕ) (place : ℕ) (R : Ahead) (a : ℕ) (p : List ℕ) (b : ℕ) (rest : List ℕ) (q : Part) → ReadsTo bytes place R → drop place bytes ≡ a ∷ (p ++ (b ∷ rest)) → class a ≡ 48 → NumberEnds R
    → number.Leads Start (a ∷ p) q → may_end q ≡ false → next_part q b ≡ None → ((s : List ℕ) → Alive (λ ts. R 0 (numeral s ∷ ts)) []) → IsBadByte bytes (place + length (a ∷ p))
bad_number bytes place R a p b rest q r e c ends l n stop v =
    bad_within bytes place R a p b rest r e (alive_number (R 0) (a ∷ p) q l v)
    (λ extra w j x. let m = Bytes-numeral R extra a (p ++ (b ∷ w)) j ends c (digit_no_blank a c) x in number_dead Start q m.valid.0 (a ∷ p) m.s (b ∷ w) m.more l n stop m.valid.1 m.valid.2 m.stops m.split)

pub cut_number : (bytes : List ℕ) (place : ℕ) (R : Ahead) (a : ℕ) (p : List ℕ) (q : Part) → ReadsTo bytes place R → drop place bytes ≡ a ∷ p → class a ≡ 48 → NumberEnds R
    → number.Leads Start (a ∷ p) q → may_end q ≡ false → ((s : List ℕ) → Alive (λ ts. R 0 (numeral s ∷ ts)) []) → IsCut bytes
cut_number bytes place R a p q r e c ends l n v =
    cut_within bytes place R a p r e (alive_number (R 0) (a ∷ p) q l v)
    (λ extra j x. let m = Bytes-numeral R extra a p j ends c (digit_no_blank a c) x in number_dead Start q m.valid.0 (a ∷ p) m.s [] m.more l n tt m.valid.1 m.valid.2 m.stops (append-nil (a ∷ p) ∙ m.split))

-- ---- literal names

pub bad_name : (bytes : List ℕ) (place : ℕ) (R : Ahead) (t : Token) (a : ℕ) (p : List ℕ) (c : ℕ) (s : List ℕ) (b : ℕ) (rest : List ℕ) → ReadsTo bytes place R → IsFixed t a (p ++ (c ∷ s))
    → drop place bytes ≡ a ∷ (p ++ (b ∷ rest)) → (b ≡ c → ⊥) → Alive (λ ts. R 0 (t ∷ ts)) [] → IsBadByte bytes (place + length (a ∷ p))
bad_name bytes place R t a p c s b rest r i e n v =
    bad_within bytes place R a p b rest r e
    (record { w = (c ∷ s) ++ v.w; j = v.j; bytes = bytes_along (R 0) _ _ v.j (ap (λ x. x ++ v.w) i.spells ∙ append_assoc (a ∷ p) (c ∷ s) v.w) (token-Bytes (R 0) t v.w v.j i.valid v.bytes) })
    (λ extra w j x.
    let h = Bytes-fixed (R extra) t a (p ++ (c ∷ s)) (p ++ (b ∷ w)) j i x in
    let same : b ∷ w ≡ c ∷ (s ++ h.more) = append_cancel_left (a ∷ p) (b ∷ w) (c ∷ (s ++ h.more)) (h.split ∙ (ap (λ y. y ++ h.more) i.spells ∙ append_assoc (a ∷ p) (c ∷ s) h.more)) in
    n cc)

pub cut_name : (bytes : List ℕ) (place : ℕ) (R : Ahead) (t : Token) (a : ℕ) (p : List ℕ) (c : ℕ) (s : List ℕ) → ReadsTo bytes place R → IsFixed t a (p ++ (c ∷ s)) → drop place bytes ≡ a ∷ p → Alive (λ ts. R 0 (t ∷ ts)) [] → IsCut bytes
cut_name bytes place R t a p c s r i e v =
    cut_within bytes place R a p r e
    (record { w = (c ∷ s) ++ v.w; j = v.j; bytes = bytes_along (R 0) _ _ v.j (ap (λ x. x ++ v.w) i.spells ∙ append_assoc (a ∷ p) (c ∷ s) v.w) (token-Bytes (R 0) t v.w v.j i.valid v.bytes) })
    (λ extra j x.
    let h = Bytes-fixed (R extra) t a (p ++ (c ∷ s)) p j i x in
    let same : [] ≡ c ∷ (s ++ h.more) = append_cancel_left (a ∷ p) [] (c ∷ (s ++ h.more)) (append-nil (a ∷ p) ∙ (h.split ∙ (ap (λ y. y ++ h.more) i.spells ∙ append_assoc (a ∷ p) (c ∷ s) h.more))) in
    cc)
