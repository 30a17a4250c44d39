-- The bytes have one stream of requests, and one ending.
use Rattle.std.proofs.Common.{◌≡◌, ℕ, ◌+◌, ◌<◌, Bool, false, List, [], ◌∷◌, length, refl, ap, sym, subst, ◌∙◌, arith, suc}
use Rattle.std.specs.Prelude.{⊤}
use Rattle.rest_codes.specs.declared.response.Reply.{Reply}
use Rattle.http_conn.specs.Stream.{Ending, End, Closed, Limit, CutShort, BadPlace, EndsBehind, Begins, GoesOn, Stream, IsRequest, is_closed, max_requests}
use Rattle.http_conn.specs.declared.request.Request.{Request}
use Rattle.http_conn.proofs.LawLemmas.{one_request, no_bad_request, no_cut_request, no_bad_cut, no_request_of_nothing, no_cut_of_nothing, no_bad_of_nothing, one_due, one_reply}

-- no ending but that of a close stands before a request
no_ending : (n : ℕ) (bytes : List ℕ) (e : Ending) (r : Request) (mid : List ℕ) → n < max_requests → EndsBehind n false bytes e → IsRequest bytes r mid → ⊥
no_ending n bytes End r mid few ends is = no_request_of_nothing bytes r mid ends.2 is
no_ending n bytes Closed r mid few ends is = absurd (cc ends.1)
no_ending n bytes Limit r mid few ends is = absurd (omega arith)
no_ending n bytes (CutShort due) r mid few ends is = no_cut_request bytes r mid is ends.3
no_ending n bytes (BadPlace due reply) r mid few ends is = no_bad_request bytes r mid ends.3.0 is ends.3.1

one_ending : (n : ℕ) (closed : Bool) (bytes : List ℕ) (e f : Ending) → EndsBehind n closed bytes e → EndsBehind n closed bytes f → e ≡ f
one_ending n closed bytes End End first second = refl
one_ending n closed bytes End Closed first second = absurd (cc (first.1, second.1))
one_ending n closed bytes End Limit first second = absurd (omega arith)
one_ending n closed bytes End (CutShort due) first second = absurd (no_cut_of_nothing bytes first.2 second.3)
one_ending n closed bytes End (BadPlace due reply) first second = absurd (no_bad_of_nothing bytes second.3.0 first.2 second.3.1)
one_ending n closed bytes Closed End first second = absurd (cc (first.1, second.1))
one_ending n closed bytes Closed Closed first second = refl
one_ending n closed bytes Closed Limit first second = absurd (omega arith)
one_ending n closed bytes Closed (CutShort due) first second = absurd (cc (first.1, second.1))
one_ending n closed bytes Closed (BadPlace due reply) first second = absurd (cc (first.1, second.1))
one_ending n closed bytes Limit End first second = absurd (omega arith)
one_ending n closed bytes Limit Closed first second = absurd (omega arith)
one_ending n closed bytes Limit Limit first second = refl
one_ending n closed bytes Limit (CutShort due) first second = absurd (omega arith)
one_ending n closed bytes Limit (BadPlace due reply) first second = absurd (omega arith)
one_ending n closed bytes (CutShort due) End first second = absurd (no_cut_of_nothing bytes second.2 first.3)
one_ending n closed bytes (CutShort due) Closed first second = absurd (cc (first.1, second.1))
one_ending n closed bytes (CutShort due) Limit first second = absurd (omega arith)
one_ending n closed bytes (CutShort due) (CutShort other) first second = ap (λ (b : Bool). CutShort b) (one_due bytes due other first.2 second.2)
one_ending n closed bytes (CutShort due) (BadPlace other reply) first second = absurd (no_bad_cut bytes second.3.0 second.3.1 first.3)
one_ending n closed bytes (BadPlace due reply) End first second = absurd (no_bad_of_nothing bytes first.3.0 second.2 first.3.1)
one_ending n closed bytes (BadPlace due reply) Closed first second = absurd (cc (first.1, second.1))
one_ending n closed bytes (BadPlace due reply) Limit first second = absurd (omega arith)
one_ending n closed bytes (BadPlace due reply) (CutShort other) first second = absurd (no_bad_cut bytes first.3.0 first.3.1 second.3)
one_ending n closed bytes (BadPlace due reply) (BadPlace other answer) first second =
    ap (λ (b : Bool). BadPlace b reply) (one_due bytes due other first.2 second.2) ∙ ap (λ (x : Reply). BadPlace other x) (one_reply bytes reply answer first.3 second.3)

-- whether the last of the requests closes, or of those before them where there is none
abbrev is_over : Bool → List Request → Bool
is_over closed [] = closed
is_over closed (r ∷ rs) = is_closed (r ∷ rs)

over_more : (r : Request) (rs : List Request) → is_closed (r ∷ rs) ≡ is_over r.close rs
over_more r [] = refl
over_more r (q ∷ rs) = refl

-- the next of the requests stands behind one that doesn't close
abbrev GoesBehind : Bool → List Request → Type 0
GoesBehind closed [] = ⊤
GoesBehind closed (r ∷ rs) = closed ≡ false

goes_behind : (r : Request) (rs : List Request) → GoesOn r rs → GoesBehind r.close rs
goes_behind r [] goes = tt
goes_behind r (q ∷ rs) goes = goes

one_begin : (n : ℕ) (closed : Bool) (bytes : List ℕ) (rs qs : List Request) (rest rest2 : List ℕ) (e f : Ending)
    → Begins n bytes rs rest → GoesBehind closed rs → EndsBehind (n + length rs) (is_over closed rs) rest e
    → Begins n bytes qs rest2 → GoesBehind closed qs → EndsBehind (n + length qs) (is_over closed qs) rest2 f → (rs ≡ qs) × (e ≡ f)
one_begin n closed bytes [] [] rest rest2 e f begins goes ends begins2 goes2 ends2 =
    let here = subst (λ (l : List ℕ). EndsBehind (n + 0) closed l e) (sym begins) ends in
    let there = subst (λ (l : List ℕ). EndsBehind (n + 0) closed l f) (sym begins2) ends2 in
    (refl, one_ending (n + 0) closed bytes e f here there)
one_begin n closed bytes [] (q ∷ qs) rest rest2 e f begins goes ends begins2 goes2 ends2 =
    let here = subst (λ (l : List ℕ). EndsBehind (n + 0) closed l e) (sym begins) ends in
    let still = subst (λ (b : Bool). EndsBehind (n + 0) b bytes e) goes2 here in
    absurd (no_ending (n + 0) bytes e q begins2.1.0 (omega (arith, begins2.0.0)) still begins2.1.1)
one_begin n closed bytes (r ∷ rs) [] rest rest2 e f begins goes ends begins2 goes2 ends2 =
    let there = subst (λ (l : List ℕ). EndsBehind (n + 0) closed l f) (sym begins2) ends2 in
    let still = subst (λ (b : Bool). EndsBehind (n + 0) b bytes f) goes there in
    absurd (no_ending (n + 0) bytes f r begins.1.0 (omega (arith, begins.0.0)) still begins.1.1)
one_begin n closed bytes (r ∷ rs) (q ∷ qs) rest rest2 e f begins goes ends begins2 goes2 ends2 =
    let same = one_request bytes r q begins.1.0 begins2.1.0 begins.1.1 begins2.1.1 in
    let more : Begins (n + 1) begins.1.0 qs rest2 = subst (λ (l : List ℕ). Begins (n + 1) l qs rest2) (sym same.1) begins2.1.2 in
    let close : q.close ≡ r.close = ap (λ (x : Request). x.close) (sym same.0) in
    let behind = subst (λ (b : Bool). EndsBehind ((n + 1) + length rs) b rest e) (over_more r rs) (subst (λ (k : ℕ). EndsBehind k (is_closed (r ∷ rs)) rest e) (step n (length rs)) ends) in
    let behind2 = subst (λ (b : Bool). EndsBehind ((n + 1) + length qs) b rest2 f) (over_more q qs) (subst (λ (k : ℕ). EndsBehind k (is_closed (q ∷ qs)) rest2 f) (step n (length qs)) ends2) in
    let there = subst (λ (b : Bool). EndsBehind ((n + 1) + length qs) (is_over b qs) rest2 f) close behind2 in
    let goes_there = subst (λ (b : Bool). GoesBehind b qs) close (goes_behind q qs begins2.0.1) in
    let others = one_begin (n + 1) r.close begins.1.0 rs qs rest rest2 e f begins.1.2 (goes_behind r rs begins.0.1) behind more goes_there there in
    (ap (λ (x : Request). x ∷ rs) same.0 ∙ ap (λ (xs : List Request). q ∷ xs) others.0, others.1)
  where
    step : (n k : ℕ) → n + suc k ≡ (n + 1) + k
    step n k = omega arith

goes_first : (rs : List Request) → GoesBehind false rs
goes_first [] = tt
goes_first (r ∷ rs) = refl

over_first : (rs : List Request) → is_closed rs ≡ is_over false rs
over_first [] = refl
over_first (r ∷ rs) = refl

pub one_stream : (bytes : List ℕ) (rs qs : List Request) (e f : Ending) → Stream bytes rs e → Stream bytes qs f → (rs ≡ qs) × (e ≡ f)
one_stream bytes rs qs e f is are =
    one_begin 0 false bytes rs qs is.rest are.rest e f
    is.begins (goes_first rs) (subst (λ (b : Bool). EndsBehind (0 + length rs) b is.rest e) (over_first rs) (subst (λ (k : ℕ). EndsBehind k (is_closed rs) is.rest e) (none (length rs)) is.ends))
    are.begins (goes_first qs) (subst (λ (b : Bool). EndsBehind (0 + length qs) b are.rest f) (over_first qs) (subst (λ (k : ℕ). EndsBehind k (is_closed qs) are.rest f) (none (length qs)) are.ends))
  where
    none : (k : ℕ) → k ≡ 0 + k
    none k = omega arith
