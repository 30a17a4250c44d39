-- From what was read of the bytes to what may follow: a step over white space or a token, and each refusal.
use Rattle.std.proofs.Common.{◌≡◌, ℕ, ◌+◌, ◌≤◌, List, [], ◌∷◌, ◌++◌, length, take, drop, true, false, Option, Some, None, refl, sym, ap, ◌∙◌, subst, append_assoc, arith}
use Rattle.std.proofs.lemmas.Bool.Decides.{nat_tests}
use Rattle.std.proofs.lemmas.List.{append-nil, take_at, drop_at, take-append-drop, length-append, length-take-le, append_cancel_left, length-drop}
use Rattle.json_span.specs.Json.{Json, Items, Members, null, boolean, number, text, array, object, no_items, item, no_members, member, IsWithin, ItemsWithin, MembersWithin}
use Rattle.json_token.specs.Tokens.{Token, is_blank, spelled, IsToken, Laid}
use Rattle.json_span.specs.Text.{IsText}
use Rattle.json_token.specs.Number.{next_part}
use Rattle.json_span.specs.Refusals.{Begins, IsBadByte, IsCut, IsTooDeep}
use Rattle.json_token.specs.declared.number.Part.{Part}
use Rattle.json_token.specs.declared.number.Part.TheVariants.{Start, Whole, Zero, Digits, Point, Fraction, Mark, Sign, Exponent}
use Rattle.json_span.specs.Ahead.{Ahead}
use Rattle.json_span.specs.Reading.{Bytes, Follow, ReadsTo}
use Rattle.json_span.proofs.BytesLemmas.{Front-Bytes, Front-code, Laid-blank, blank-Laid, token_begins, token_by_code, token-Bytes, class, decode}

text_along : (levels : ℕ) (xs ys : List ℕ) (j : Json) → xs ≡ ys → IsText levels xs j → IsText levels ys j
text_along levels xs ys j e t = let P : List ℕ → Type 0 = λ x. IsText levels x j in subst P e t

bytes_along : (R : List Token → Json → Type 0) (xs ys : List ℕ) (j : Json) → xs ≡ ys → Bytes R xs j → Bytes R ys j
bytes_along R xs ys j e t = let P : List ℕ → Type 0 = λ x. Bytes R x j in subst P e t

follow_along : (o : Option Part) (xs ys : List ℕ) → xs ≡ ys → Follow o xs → Follow o ys
follow_along o xs ys e t = let P : List ℕ → Type 0 = λ x. Follow o x in subst P e t

pub follow_blank : (o : Option Part) (b : ℕ) (w : List ℕ) → is_blank b ≡ true → Follow o (b ∷ w)
unfolding next_part
follow_blank None b w e = tt
follow_blank (Some Start) b w e = grind (arith, nat_tests)
follow_blank (Some Whole) b w e = grind (arith, nat_tests)
follow_blank (Some Zero) b w e = grind (arith, nat_tests)
follow_blank (Some Digits) b w e = grind (arith, nat_tests)
follow_blank (Some Point) b w e = grind (arith, nat_tests)
follow_blank (Some Fraction) b w e = grind (arith, nat_tests)
follow_blank (Some Mark) b w e = grind (arith, nat_tests)
follow_blank (Some Sign) b w e = grind (arith, nat_tests)
follow_blank (Some Exponent) b w e = grind (arith, nat_tests)

follow_nil : (o : Option Part) → Follow o []
follow_nil None = tt
follow_nil (Some q) = tt

-- only the first byte counts
pub follow_first : (o : Option Part) (b : ℕ) (v w : List ℕ) → Follow o (b ∷ v) → Follow o (b ∷ w)
follow_first None b v w f = tt
follow_first (Some q) b v w f = f

abbrev mutual
  pub more_levels : (k levels : ℕ) (j : Json) → IsWithin levels j → IsWithin (k + levels) j
  more_levels k levels null i = tt
  more_levels k levels (boolean b) i = tt
  more_levels k levels (number s) i = tt
  more_levels k levels (text s) i = tt
  more_levels k levels (array js) (below, e, i) = (k + below, omega arith, more_levels_items k below js i)
  more_levels k levels (object ms) (below, e, i) = (k + below, omega arith, more_levels_members k below ms i)

  more_levels_items : (k levels : ℕ) (js : Items) → ItemsWithin levels js → ItemsWithin (k + levels) js
  more_levels_items k levels no_items i = tt
  more_levels_items k levels (item j js) i = (more_levels k levels j i.0, more_levels_items k levels js i.1)

  more_levels_members : (k levels : ℕ) (ms : Members) → MembersWithin levels ms → MembersWithin (k + levels) ms
  more_levels_members k levels no_members i = tt
  more_levels_members k levels (member s j ms) i = (more_levels k levels j i.0, more_levels_members k levels ms i.1)

pub record Grows (bytes : List ℕ) (place : ℕ) (p rest : List ℕ) : Type 0 where
  pub before : take (place + length p) bytes ≡ take place bytes ++ p
  pub after : drop (place + length p) bytes ≡ rest
  pub inside : place + length p ≤ length bytes

pub grows : (bytes : List ℕ) (place : ℕ) (p rest : List ℕ) → place ≤ length bytes → drop place bytes ≡ p ++ rest → Grows bytes place p rest
grows bytes place p rest l e =
    let whole : bytes ≡ (take place bytes ++ p) ++ rest = sym (take-append-drop place bytes) ∙ ap (λ x. take place bytes ++ x) e ∙ sym (append_assoc (take place bytes) p rest) in
    let n : length (take place bytes ++ p) ≡ place + length p = length-append (take place bytes) p ∙ ap (λ k. k + length p) (length-take-le place bytes l) in
    record {
      before = ap (take (place + length p)) whole ∙ take_at (take place bytes ++ p) rest (place + length p) n;
      after = ap (drop (place + length p)) whole ∙ drop_at (take place bytes ++ p) rest (place + length p) n;
      inside = omega (arith, n, ap length whole, length-append (take place bytes ++ p) rest);
    }

-- a step over the bytes p
pub ReadsTo-step : (bytes : List ℕ) (place : ℕ) (R S : Ahead) (p rest : List ℕ) (o : Option Part) → (r : ReadsTo bytes place R) → drop place bytes ≡ p ++ rest → Follow o rest
    → ((w : List ℕ) → Follow o w → Follow r.last (p ++ w))
    → ((extra : ℕ) (w : List ℕ) (j : Json) → Follow o w → Bytes (R extra) (p ++ w) j → Bytes (S extra) w j)
    → ((extra : ℕ) (w : List ℕ) (j : Json) → Follow o w → Bytes (S extra) w j → Bytes (R extra) (p ++ w) j)
    → ReadsTo bytes (place + length p) S
ReadsTo-step bytes place R S p rest o r e fo fp to from =
    let g = grows bytes place p rest r.inside e in
    record {
      inside = g.inside;
      last = o;
      reads = record {
        forth = λ extra w j f t. to extra w j f (r.reads.forth extra (p ++ w) j (fp w f) (text_along _ _ _ j (ap (λ x. x ++ w) g.before ∙ append_assoc (take place bytes) p w) t));
        back = λ extra w j f b. text_along _ _ _ j (sym (ap (λ x. x ++ w) g.before ∙ append_assoc (take place bytes) p w)) (r.reads.back extra (p ++ w) j (fp w f) (from extra w j f b));
      };
      follow = follow_along o _ _ (sym g.after) fo;
    }

pub ReadsTo-blank : (bytes : List ℕ) (place : ℕ) (R : Ahead) (b : ℕ) (rest : List ℕ) → ReadsTo bytes place R → drop place bytes ≡ b ∷ rest → is_blank b ≡ true → ReadsTo bytes (place + 1) R
ReadsTo-blank bytes place R b rest r e h =
    ReadsTo-step bytes place R R (b ∷ []) rest None r e tt (λ w f. follow_blank r.last b w h)
    (λ extra w j f v. record { ts = v.ts; ahead = v.ahead; laid = Laid-blank v.ts b w h v.laid })
    (λ extra w j f v. record { ts = v.ts; ahead = v.ahead; laid = blank-Laid v.ts b w h v.laid })

-- another name for what may follow
pub ReadsTo-same : (bytes : List ℕ) (place : ℕ) (R S : Ahead) → ReadsTo bytes place R
    → ((extra : ℕ) (ts : List Token) (j : Json) → R extra ts j → S extra ts j) → ((extra : ℕ) (ts : List Token) (j : Json) → S extra ts j → R extra ts j) → ReadsTo bytes place S
ReadsTo-same bytes place R S r to from = record {
  inside = r.inside;
  last = r.last;
  reads = record {
    forth = λ extra w j f t. let v = r.reads.forth extra w j f t in record { ts = v.ts; ahead = to extra v.ts j v.ahead; laid = v.laid };
    back = λ extra w j f v. r.reads.back extra w j f (record { ts = v.ts; ahead = from extra v.ts j v.ahead; laid = v.laid });
  };
  follow = r.follow;
}

-- a token whose bytes are always the same
pub record IsFixed (t : Token) (b : ℕ) (s : List ℕ) : Type 0 where
  pub spells : spelled t ≡ b ∷ s
  pub no_blank : is_blank b ≡ false
  pub valid : IsToken t
  pub alone : (x : List ℕ) → decode (class b) x ≡ t

-- it is the one at the front where its first byte is
pub record Behind (R : List Token → Json → Type 0) (t : Token) (w : List ℕ) (j : Json) : Type 0 where
  pub more : List ℕ
  pub split : w ≡ spelled t ++ more
  pub bytes : Bytes (λ ts. R (t ∷ ts)) more j

pub Bytes-fixed : (R : List Token → Json → Type 0) (t : Token) (b : ℕ) (s w : List ℕ) (j : Json) → IsFixed t b s → Bytes R (b ∷ w) j → Behind R t (b ∷ w) j
Bytes-fixed R t b s w j i v =
    let f = Front-Bytes R b w j i.no_blank v in
    let d = token_by_code f.t (class b) (Front-code R b w j f) in
    let same : f.t ≡ t = d.1 ∙ i.alone d.0 in
    let P : Token → Type 0 = λ x. R (x ∷ f.ts) j in
    record { more = f.more; split = f.split ∙ ap (λ x. spelled x ++ f.more) same; bytes = record { ts = f.ts; ahead = subst P same f.ahead; laid = f.laid } }

pub ReadsTo-fixed : (bytes : List ℕ) (place : ℕ) (R S : Ahead) (t : Token) (b : ℕ) (s rest : List ℕ) → ReadsTo bytes place R → IsFixed t b s → drop place bytes ≡ spelled t ++ rest
    → ((extra : ℕ) (ts : List Token) (j : Json) → R extra (t ∷ ts) j → S extra ts j) → ((extra : ℕ) (ts : List Token) (j : Json) → S extra ts j → R extra (t ∷ ts) j) → ReadsTo bytes (place + length (spelled t)) S
ReadsTo-fixed bytes place R S t b s rest r i e to from =
    ReadsTo-step bytes place R S (spelled t) rest None r e tt
    (λ w f. follow_along r.last _ _ (sym (ap (λ x. x ++ w) i.spells)) (follow_first r.last b (s ++ rest) (s ++ w) (follow_along r.last _ _ (e ∙ ap (λ x. x ++ rest) i.spells) r.follow)))
    (λ extra w j f v.
    let h = Bytes-fixed (R extra) t b s (s ++ w) j i (bytes_along (R extra) _ _ j (ap (λ x. x ++ w) i.spells) v) in
    let same : w ≡ h.more = append_cancel_left (spelled t) w h.more (ap (λ x. x ++ w) i.spells ∙ h.split) in
    bytes_along (S extra) _ _ j (sym same) (record { ts = h.bytes.ts; ahead = to extra h.bytes.ts j h.bytes.ahead; laid = h.bytes.laid }))
    (λ extra w j f v. token-Bytes (R extra) t w j i.valid (record { ts = v.ts; ahead = from extra v.ts j v.ahead; laid = v.laid }))

-- some bytes complete what was read
pub record Alive (R : List Token → Json → Type 0) (p : List ℕ) : Type 0 where
  pub w : List ℕ
  pub j : Json
  pub bytes : Bytes R (p ++ w) j

begins_before : (bytes : List ℕ) (place : ℕ) (R : Ahead) (p rest : List ℕ) (levels : ℕ) → (r : ReadsTo bytes place R) → drop place bytes ≡ p ++ rest
    → (w : List ℕ) (j : Json) → Follow r.last (p ++ w) → Bytes (R levels) (p ++ w) j → Begins (127 + levels) (take (place + length p) bytes)
begins_before bytes place R p rest levels r e w j f b =
    let g = grows bytes place p rest r.inside e in
    (w, j, text_along _ _ _ j (sym (ap (λ x. x ++ w) g.before ∙ append_assoc (take place bytes) p w)) (r.reads.back levels (p ++ w) j f b))

-- where what was read may go on, so may it behind a space
alive_before : (bytes : List ℕ) (place : ℕ) (R : Ahead) → ReadsTo bytes place R → Alive (R 0) [] → Begins 127 (take place bytes)
alive_before bytes place R r a =
    (32 ∷ a.w, a.j, r.reads.back 0 (32 ∷ a.w) a.j (follow_blank r.last 32 a.w refl) (record { ts = a.bytes.ts; ahead = a.bytes.ahead; laid = blank-Laid a.bytes.ts 32 a.w refl a.bytes.laid }))

alive_within : (bytes : List ℕ) (place : ℕ) (R : Ahead) (a : ℕ) (p rest : List ℕ) → ReadsTo bytes place R → drop place bytes ≡ a ∷ (p ++ rest) → Alive (R 0) (a ∷ p) → Begins 127 (take (place + length (a ∷ p)) bytes)
alive_within bytes place R a p rest r e v =
    begins_before bytes place R (a ∷ p) rest 0 r e v.w v.j (follow_first r.last a (p ++ rest) (p ++ v.w) (follow_along r.last _ _ e r.follow)) v.bytes

never_after : (bytes : List ℕ) (place : ℕ) (R : Ahead) (a : ℕ) (p rest : List ℕ) (levels : ℕ) → ReadsTo bytes place R → drop place bytes ≡ a ∷ (p ++ rest)
    → ((w : List ℕ) (j : Json) → Bytes (R levels) (a ∷ (p ++ w)) j → ⊥) → Begins (127 + levels) (take (place + length (a ∷ p)) bytes) → ⊥
never_after bytes place R a p rest levels r e dead (w, j, t) =
    let g = grows bytes place (a ∷ p) rest r.inside e in
    dead w j (r.reads.forth levels (a ∷ (p ++ w)) j (follow_first r.last a (p ++ rest) (p ++ w) (follow_along r.last _ _ e r.follow)) (text_along _ _ _ j (ap (λ x. x ++ w) g.before ∙ append_assoc (take place bytes) (a ∷ p) w) t))

deeper : (levels : ℕ) (bytes : List ℕ) → Begins levels bytes → Begins (127 + levels) bytes
deeper levels bytes (more, j, t) = (more, j, (more_levels 127 levels j t.0, t.1))

-- at the place itself
pub bad_byte : (bytes : List ℕ) (place : ℕ) (R : Ahead) (b : ℕ) (rest : List ℕ) → ReadsTo bytes place R → drop place bytes ≡ b ∷ rest → Alive (R 0) []
    → ((extra : ℕ) (w : List ℕ) (j : Json) → Bytes (R extra) (b ∷ w) j → ⊥) → IsBadByte bytes place
bad_byte bytes place R b rest r e a dead = record {
  inside = omega (arith, ap length e, length-drop place bytes);
  before = alive_before bytes place R r a;
  never = λ levels h. never_after bytes place R b [] rest levels r e (dead levels) (deeper levels _ h);
}

-- inside a token that begins at the place
pub bad_within : (bytes : List ℕ) (place : ℕ) (R : Ahead) (a : ℕ) (p : List ℕ) (b : ℕ) (rest : List ℕ) → ReadsTo bytes place R → drop place bytes ≡ a ∷ (p ++ (b ∷ rest)) → Alive (R 0) (a ∷ p)
    → ((extra : ℕ) (w : List ℕ) (j : Json) → Bytes (R extra) (a ∷ (p ++ (b ∷ w))) j → ⊥) → IsBadByte bytes (place + length (a ∷ p))
bad_within bytes place R a p b rest r e v dead =
    let g = grows bytes place (a ∷ p) (b ∷ rest) r.inside e in
    let e2 : drop place bytes ≡ a ∷ ((p ++ (b ∷ [])) ++ rest) = e ∙ ap (λ x. a ∷ x) (sym (append_assoc p (b ∷ []) rest)) in
    let n : place + length (a ∷ p) + 1 ≡ place + length (a ∷ (p ++ (b ∷ []))) = omega (arith, length-append p (b ∷ [])) in
    record {
      inside = omega (arith, ap length g.after, length-drop (place + length (a ∷ p)) bytes);
      before = alive_within bytes place R a p (b ∷ rest) r e v;
      never = λ levels h.
          never_after bytes place R a (p ++ (b ∷ [])) rest levels r e2 (λ w j x. dead levels w j (bytes_along (R levels) _ _ j (ap (λ y. a ∷ y) (append_assoc p (b ∷ []) w)) x))
          (let P : ℕ → Type 0 = λ k. Begins (127 + levels) (take k bytes) in subst P n (deeper levels _ h));
    }

no_token : (R : List Token → Json → Type 0) (j : Json) → Bytes R [] j → R [] j
no_token R j v = from v.ts v.ahead v.laid
  where
    from : (ts : List Token) → R ts j → Laid ts [] → R [] j
    from [] a l = a
    from (t ∷ ts) a (x ∷ blanks, more, areb, split, i, l) = absurd cc
    from (t ∷ ts) a ([], more, areb, split, i, l) = let f = token_begins t i in absurd (let at : [] ≡ f.0 ∷ (f.1 ++ more) = split ∙ ap (λ x. x ++ more) f.2 in cc)

whole_take : (bytes : List ℕ) (place : ℕ) → drop place bytes ≡ [] → take place bytes ++ [] ≡ bytes
whole_take bytes place e = ap (λ x. take place bytes ++ x) (sym e) ∙ take-append-drop place bytes

-- at the end of the bytes
pub cut_short : (bytes : List ℕ) (place : ℕ) (R : Ahead) → ReadsTo bytes place R → drop place bytes ≡ [] → Alive (R 0) [] → ((extra : ℕ) (j : Json) → R extra [] j → ⊥) → IsCut bytes
cut_short bytes place R r e a dead =
    let whole = whole_take bytes place e in
    record {
      before = let P : List ℕ → Type 0 = λ x. Begins 127 x in subst P (sym (append-nil (take place bytes)) ∙ whole) (alive_before bytes place R r a);
      short = λ levels j t. dead levels j (no_token (R levels) j (r.reads.forth levels [] j (follow_nil r.last) (text_along _ _ _ j (sym whole) (more_levels 127 levels j t.0, t.1))));
    }

pub cut_within : (bytes : List ℕ) (place : ℕ) (R : Ahead) (a : ℕ) (p : List ℕ) → ReadsTo bytes place R → drop place bytes ≡ a ∷ p → Alive (R 0) (a ∷ p) → ((extra : ℕ) (j : Json) → Bytes (R extra) (a ∷ p) j → ⊥) → IsCut bytes
cut_within bytes place R a p r e v dead =
    let whole : take place bytes ++ (a ∷ p) ≡ bytes = ap (λ x. take place bytes ++ x) (sym e) ∙ take-append-drop place bytes in
    let all : drop place bytes ≡ a ∷ (p ++ []) = e ∙ ap (λ x. a ∷ x) (sym (append-nil p)) in
    let g = grows bytes place (a ∷ p) [] r.inside all in
    record {
      before = let P : List ℕ → Type 0 = λ x. Begins 127 x in subst P (g.before ∙ whole) (alive_within bytes place R a p [] r all v);
      short = λ levels j t. dead levels j (r.reads.forth levels (a ∷ p) j (follow_along r.last _ _ e r.follow) (text_along _ _ _ j (sym whole) (more_levels 127 levels j t.0, t.1)));
    }

pub too_deep : (bytes : List ℕ) (place : ℕ) (R : Ahead) (b : ℕ) (rest : List ℕ) → ReadsTo bytes place R → drop place bytes ≡ b ∷ rest → Alive (R 0) []
    → ((w : List ℕ) (j : Json) → Bytes (R 0) (b ∷ w) j → ⊥) → Alive (R 1) (b ∷ []) → IsTooDeep bytes place
too_deep bytes place R b rest r e a dead v = record {
  inside = omega (arith, ap length e, length-drop place bytes);
  before = alive_before bytes place R r a;
  never = never_after bytes place R b [] rest 0 r e dead;
  deeper = (128, begins_before bytes place R (b ∷ []) rest 1 r e v.w v.j (follow_first r.last b rest v.w (follow_along r.last _ _ e r.follow)) v.bytes);
}

-- all was read
pub whole_text : (bytes : List ℕ) (place : ℕ) (whole : Json) → ReadsTo bytes place (λ extra ts j. (ts ≡ []) × (j ≡ whole)) → drop place bytes ≡ [] → IsText 127 bytes whole
whole_text bytes place whole r e = text_along _ _ _ whole (whole_take bytes place e) (r.reads.back 0 [] whole (follow_nil r.last) (record { ts = []; ahead = (refl, refl); laid = tt }))

-- and nothing else is meant
pub only_text : (bytes : List ℕ) (place : ℕ) (whole : Json) → ReadsTo bytes place (λ extra ts j. (ts ≡ []) × (j ≡ whole)) → drop place bytes ≡ [] → (levels : ℕ) (j : Json) → IsText levels bytes j → j ≡ whole
only_text bytes place whole r e levels j t =
    (r.reads.forth levels [] j (follow_nil r.last) (text_along _ _ _ j (sym (whole_take bytes place e)) (more_levels 127 levels j t.0, t.1))).ahead.1
