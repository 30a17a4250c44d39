-- The cases of the definition exclude one another, and each is fixed by its bytes.
use Rattle.std.proofs.Common.{◌≡◌, ℕ, ◌+◌, ◌-◌, ◌<◌, ◌≤◌, Bool, true, false, List, [], ◌∷◌, ◌++◌, length, take, Result, Ok, Err, refl, ap, sym, subst, ◌∙◌, arith, append_assoc, length-append, inl, inr, codes}
use Rattle.std.specs.Prelude.{◌&&◌}
use Rattle.std.specs.List.{before_first, after_first, list_any}
use Rattle.std.proofs.lemmas.List.Elements.{All-nil, All-cons, All-take}
use Rattle.std.proofs.Math.Seq.{take-append_seam, take-append-add}
use Rattle.std.proofs.lemmas.Str.{IsUtf8-from_ascii}
use Rattle.std.proofs.lemmas.Str.Ascii.{IsAscii-cons, IsAscii-nil}
use Rattle.httparse.specs.Grammar.{RequestHead, IsRequestHead, ReadsRequest, print_request, LineEnd, print_blank, lf, MayBecomeRequest, NeverHasRequest, EndsInTarget, IsField, IsToken, is_token_byte, is_uri_byte}
use Rattle.httparse.proofs.GrammarLemmas.{request_unique, print_request-append}
use Rattle.http_head.specs.Asked.{asked_in}
use Rattle.http_head.specs.Fields.{values_of, joined, is_encoding, asks_close, asks_interim}
use Rattle.http_conn.specs.Stream.{DueIs, HasBody, IsBadHead, IsBadPlace, IsBad, IsDue, IsHopeless, IsTooLong, IsCut, IsRequest, is_mark}
use Rattle.http_head.specs.Head.{HasHead, HasNoHead, IsRefused, awaits, frame, fields_of, tells_body}
use Rattle.http_head.specs.declared.fields.Framing.{Framing}
use Rattle.body_read.specs.Chunks.{Outcome}
use Rattle.body_read.specs.Body.{BodyIs}
use Rattle.body_read.proofs.BodyLaws.{body_one}
use Rattle.httparse.proofs.OpenLemmas.{letter_is_token}
use Rattle.rest_codes.specs.declared.response.Reply.{Reply}
use Rattle.rest_codes.specs.Errors.{refusal_of}
use Rattle.std.proofs.lemmas.Bool.{cases_lt}
use Rattle.http_conn.specs.Next.{Gives, IsSettled}
use Rattle.http_conn.specs.declared.request.Request.{Request}
use Rattle.http_conn.specs.declared.request.Next.{Next}
use Rattle.http_conn.specs.declared.request.Next.TheVariants as next

-- two lists with the same bytes, of which the first has so many
pub front_of : (xs ys pre zs : List ℕ) → xs ++ ys ≡ pre ++ zs → length pre ≤ length xs → xs ≡ pre ++ take (length xs - length pre) zs
front_of xs ys pre zs same fits =
    let n : ℕ = length xs - length pre in
    let whole : length pre + n ≡ length xs = omega arith in
    sym (take-append_seam xs ys) ∙ ap (take (length xs)) same ∙ ap (λ (k : ℕ). take k (pre ++ zs)) (sym whole) ∙ take-append-add pre zs n

-- a head with the target `/`
abbrev plain_head : List LineEnd → List ℕ → RequestHead
plain_head blank method = record { blank = blank; method = method; target = 47 ∷ []; minor = 1; line_end = lf; fields = []; last = lf }

plain_bytes : (blank : List LineEnd) (method : List ℕ) → (more : List ℕ) × (print_request (plain_head blank method) ++ [] ≡ (print_blank blank ++ method) ++ 32 ∷ more)
plain_bytes blank method =
    (47 ∷ 32 ∷ (codes "HTTP/1.1" ++ 10 ∷ 10 ∷ []), print_request-append (plain_head blank method) [] ∙ sym (append_assoc (print_blank blank) method _))

is_plain_head : (blank : List LineEnd) (method : List ℕ) → IsToken method → IsRequestHead (plain_head blank method)
is_plain_head blank method token = record {
  method = token;
  target = (omega arith, All-cons (λ b. is_uri_byte b ≡ true) 47 [] refl (All-nil _));
  target_text = IsUtf8-from_ascii (47 ∷ []) (IsAscii-cons 47 [] (omega arith) IsAscii-nil);
  minor = omega arith;
  fields = All-nil IsField;
}

-- bytes that end inside a target end there, or become a head, at each front
pub target_front : (front behind : List ℕ) → NeverHasRequest front → EndsInTarget (front ++ behind) → EndsInTarget front
target_front front behind never ends =
    let blank = ends.0 in
    let method = ends.1 in
    let target = ends.2 in
    let pre : List ℕ = print_blank blank ++ method in
    let parts : front ++ behind ≡ (pre ++ 32 ∷ []) ++ target = ends.5 ∙ sym (append_assoc pre (32 ∷ []) target) in
    elim (cases_lt (length front) (length (pre ++ 32 ∷ []))) [
      | inr inside ↦
          let n : ℕ = length front - length (pre ++ 32 ∷ []) in
          let e = front_of front behind (pre ++ 32 ∷ []) target parts inside in
          (blank, method, take n target, ends.3, All-take (λ b. is_uri_byte b ≡ true) n target ends.4, e ∙ append_assoc pre (32 ∷ []) (take n target))
      | inl before ↦
          let e = front_of (pre ++ 32 ∷ []) target front behind (sym parts) (omega arith) in
          let plain = plain_bytes blank method in
          let mid : List ℕ = take (length (pre ++ 32 ∷ []) - length front) behind in
          let head : front ++ (mid ++ plain.0) ≡ print_request (plain_head blank method) ++ [] =
          sym (append_assoc front mid plain.0) ∙ ap (λ (l : List ℕ). l ++ plain.0) (sym e) ∙ append_assoc pre (32 ∷ []) plain.0 ∙ sym plain.1 in
          absurd (never (mid ++ plain.0) (plain_head blank method) [] (is_plain_head blank method ends.3, head))
    ]

-- what two heads are read as, where they are one head
pub framing_same : (f : Result Framing ℕ) (a b : Framing) → f ≡ Ok a → f ≡ Ok b → a ≡ b
framing_same f a b is are = cc

pub code_same : (f : Result Framing ℕ) (a b : ℕ) → f ≡ Err a → f ≡ Err b → a ≡ b
code_same f a b is are = cc

pub not_both : (f : Result Framing ℕ) (framing : Framing) (code : ℕ) → f ≡ Ok framing → f ≡ Err code → ⊥
not_both f framing code is are = absurd (cc)

-- one thing comes of the body behind a head
pub one_outcome : (all : List ℕ) (x y : Outcome) → HasBody all x → HasBody all y → x ≡ y
one_outcome all x y is are =
    let same = request_unique all is.head are.head is.after are.after is.at.reads are.at.reads in
    let framing : is.framing ≡ are.framing = framing_same (frame is.head) is.framing are.framing is.told (ap frame same.0 ∙ are.told) in
    let there : BodyIs is.framing are.after y = subst (λ (f : Framing). BodyIs f are.after y) (sym framing) are.body in
    body_one is.framing is.after x y is.body (subst (λ (l : List ℕ). BodyIs is.framing l y) (sym same.1) there)

-- a body isn't refused with its head
not_refused : (all : List ℕ) (x : Outcome) (code : ℕ) → HasBody all x → IsRefused all code → ⊥
not_refused all x code is refused =
    let same = request_unique all is.head refused.head is.after refused.after is.at.reads refused.at.reads in
    not_both (frame is.head) is.framing code is.told (ap frame same.0 ∙ refused.why)

-- a body has a head
body_not_long : (all : List ℕ) (x : Outcome) → HasBody all x → IsTooLong all → ⊥
body_not_long all x is long = long.none is.head is.after is.at

body_not_lost : (all : List ℕ) (x : Outcome) → HasBody all x → IsHopeless all → ⊥
body_not_lost all x is lost = lost.never lost.behind is.head is.after (subst (λ (l : List ℕ). ReadsRequest l is.head is.after) lost.parts is.at.reads)

-- what two outcomes say, where they are one
whole_parts : (b d r q : List ℕ) → Outcome.Whole b r ≡ Outcome.Whole d q → (b ≡ d) × (r ≡ q)
whole_parts b d r q is = (cc, cc)

-- the bytes fix the request
pub one_request : (all : List ℕ) (r q : Request) (rest rest2 : List ℕ) → IsRequest all r rest → IsRequest all q rest2 → (r ≡ q) × (rest ≡ rest2)
one_request all r q rest rest2 is are =
    let same = request_unique all is.whole.head are.whole.head is.whole.after are.whole.after is.whole.at.reads are.whole.at.reads in
    let both = whole_parts r.body q.body rest rest2 (one_outcome all (Outcome.Whole r.body rest) (Outcome.Whole q.body rest2) is.whole are.whole) in
    let method : r.method ≡ q.method = is.asks.method ∙ ap (λ (h : RequestHead). h.method) same.0 ∙ sym are.asks.method in
    let path : r.path ≡ q.path = is.asks.path ∙ ap (λ (h : RequestHead). before_first is_mark (asked_in h.target)) same.0 ∙ sym are.asks.path in
    let query : r.query ≡ q.query = is.asks.query ∙ ap (λ (h : RequestHead). after_first is_mark (asked_in h.target)) same.0 ∙ sym are.asks.query in
    let accept : r.accept ≡ q.accept = is.asks.accept ∙ ap (λ (h : RequestHead). joined (values_of (codes "accept") (fields_of h))) same.0 ∙ sym are.asks.accept in
    let kind : r.content_type ≡ q.content_type =
    is.asks.content_type ∙ ap (λ (h : RequestHead). joined (values_of (codes "content-type") (fields_of h))) same.0 ∙ sym are.asks.content_type in
    let coded : r.encoded ≡ q.encoded =
    is.asks.encoded ∙ ap (λ (h : RequestHead). list_any is_encoding (values_of (codes "content-encoding") (fields_of h))) same.0 ∙ sym are.asks.encoded in
    let closes : r.close ≡ q.close = is.asks.close ∙ ap (λ (h : RequestHead). asks_close h.minor (fields_of h)) same.0 ∙ sym are.asks.close in
    let expects : r.expects ≡ q.expects = is.asks.expects ∙ ap awaits same.0 ∙ sym are.asks.expects in (
      λ i. record {
        method = method i;
        path = path i;
        query = query i;
        accept = accept i;
        content_type = kind i;
        encoded = coded i;
        close = closes i;
        expects = expects i;
        body = both.0 i;
      },
      both.1,
    )

-- what is lost can't become a head
pub lost_may_not : (all : List ℕ) → IsHopeless all → MayBecomeRequest all → ⊥
lost_may_not all lost (inl found) =
    lost.never (lost.behind ++ found.0) found.1 []
    (subst (λ (l : List ℕ). ReadsRequest l found.1 []) (ap (λ (l : List ℕ). l ++ found.0) lost.parts ∙ append_assoc lost.front lost.behind found.0) found.2)
lost_may_not all lost (inr ends) =
    lost.decided (target_front lost.front lost.behind lost.never (subst (λ (l : List ℕ). EndsInTarget l) lost.parts ends))

-- a place has one of the three, and some byte
pub no_bad_request : (all : List ℕ) (r : Request) (rest : List ℕ) (code : ℕ) → IsRequest all r rest → IsBadPlace all code → ⊥
no_bad_request all r rest code is (inl (inl refused)) = not_refused all (Outcome.Whole r.body rest) code is.whole refused
no_bad_request all r rest code is (inl (inr (inl full))) = body_not_long all (Outcome.Whole r.body rest) is.whole full.0
no_bad_request all r rest code is (inl (inr (inr lost))) = body_not_lost all (Outcome.Whole r.body rest) is.whole lost.0
no_bad_request all r rest code is (inr body) = absurd (cc (one_outcome all (Outcome.Whole r.body rest) (Outcome.Refused code) is.whole body))

pub no_cut_request : (all : List ℕ) (r : Request) (rest : List ℕ) → IsRequest all r rest → IsCut all → ⊥
no_cut_request all r rest is (inl body) = absurd (cc (one_outcome all (Outcome.Whole r.body rest) Outcome.Short is.whole body))
no_cut_request all r rest is (inr head) = head.none is.whole.head is.whole.after is.whole.at

pub no_bad_cut : (all : List ℕ) (code : ℕ) → IsBadPlace all code → IsCut all → ⊥
no_bad_cut all code (inl (inl refused)) (inl body) = not_refused all Outcome.Short code body refused
no_bad_cut all code (inl (inl refused)) (inr head) = head.none refused.head refused.after refused.at
no_bad_cut all code (inl (inr (inl full))) (inl body) = body_not_long all Outcome.Short body full.0
no_bad_cut all code (inl (inr (inl full))) (inr head) = absurd (omega (arith, full.0.long, head.short))
no_bad_cut all code (inl (inr (inr lost))) (inl body) = body_not_lost all Outcome.Short body lost.0
no_bad_cut all code (inl (inr (inr lost))) (inr head) = lost_may_not all lost.0 head.may
no_bad_cut all code (inr bad) (inl body) = absurd (cc (one_outcome all (Outcome.Refused code) Outcome.Short bad body))
no_bad_cut all code (inr bad) (inr head) = head.none bad.head bad.after bad.at

-- what two refusals say, where they are one
code_parts : (a b : ℕ) → Outcome.Refused a ≡ Outcome.Refused b → a ≡ b
code_parts a b is = cc

-- a place is refused with one status
pub one_status : (all : List ℕ) (a b : ℕ) → IsBadPlace all a → IsBadPlace all b → a ≡ b
one_status all a b (inl (inl refused)) (inl (inl other)) =
    let same = request_unique all refused.head other.head refused.after other.after refused.at.reads other.at.reads in
    code_same (frame refused.head) a b refused.why (ap frame same.0 ∙ other.why)
one_status all a b (inl (inl refused)) (inl (inr (inl full))) = absurd (full.0.none refused.head refused.after refused.at)
one_status all a b (inl (inl refused)) (inl (inr (inr lost))) =
    absurd (lost.0.never lost.0.behind refused.head refused.after (subst (λ (l : List ℕ). ReadsRequest l refused.head refused.after) lost.0.parts refused.at.reads))
one_status all a b (inl (inl refused)) (inr body) = absurd (not_refused all (Outcome.Refused b) a body refused)
one_status all a b (inl (inr (inl full))) (inl (inl refused)) = absurd (full.0.none refused.head refused.after refused.at)
one_status all a b (inl (inr (inl full))) (inl (inr (inl other))) = full.1 ∙ sym other.1
one_status all a b (inl (inr (inl full))) (inl (inr (inr lost))) = absurd (full.0.hope lost.0)
one_status all a b (inl (inr (inl full))) (inr body) = absurd (body_not_long all (Outcome.Refused b) body full.0)
one_status all a b (inl (inr (inr lost))) (inl (inl refused)) =
    absurd (lost.0.never lost.0.behind refused.head refused.after (subst (λ (l : List ℕ). ReadsRequest l refused.head refused.after) lost.0.parts refused.at.reads))
one_status all a b (inl (inr (inr lost))) (inl (inr (inl full))) = absurd (full.0.hope lost.0)
one_status all a b (inl (inr (inr lost))) (inl (inr (inr other))) = lost.1 ∙ sym other.1
one_status all a b (inl (inr (inr lost))) (inr body) = absurd (body_not_lost all (Outcome.Refused b) body lost.0)
one_status all a b (inr body) (inl (inl refused)) = absurd (not_refused all (Outcome.Refused a) b body refused)
one_status all a b (inr body) (inl (inr (inl full))) = absurd (body_not_long all (Outcome.Refused a) body full.0)
one_status all a b (inr body) (inl (inr (inr lost))) = absurd (body_not_lost all (Outcome.Refused a) body lost.0)
one_status all a b (inr body) (inr other) = code_parts a b (one_outcome all (Outcome.Refused a) (Outcome.Refused b) body other)

-- a place is refused with one reply
pub one_reply : (all : List ℕ) (a b : Reply) → IsBad all a → IsBad all b → a ≡ b
one_reply all a b first second = first.2 ∙ ap refusal_of (one_status all first.0 second.0 first.1 second.1) ∙ sym second.2

-- nothing is two nothings
empty_front : (front behind : List ℕ) → [] ≡ front ++ behind → front ≡ []
empty_front [] behind is = refl
empty_front (b ∷ front) behind is = absurd (cc)

-- the empty bytes are between requests
pub no_head_of_nothing : (head : RequestHead) (after : List ℕ) → HasHead [] head after → ⊥
no_head_of_nothing head after at =
    let e = ap (length {A = ℕ}) (at.reads.1 ∙ print_request-append head after) in
    let some : 0 < length head.method = at.reads.0.method.0 in
    absurd (omega (arith, some, simp length-append at e))

pub no_request_of_nothing : (all : List ℕ) (r : Request) (rest : List ℕ) → all ≡ [] → IsRequest all r rest → ⊥
no_request_of_nothing all r rest none is =
    no_head_of_nothing is.whole.head is.whole.after (subst (λ (l : List ℕ). HasHead l is.whole.head is.whole.after) none is.whole.at)

pub no_cut_of_nothing : (all : List ℕ) → all ≡ [] → IsCut all → ⊥
no_cut_of_nothing all none (inl body) = no_head_of_nothing body.head body.after (subst (λ (l : List ℕ). HasHead l body.head body.after) none body.at)
no_cut_of_nothing all none (inr head) = absurd (omega (arith, ap (length {A = ℕ}) none, head.some))

-- something can follow nothing
pub nothing_may : NeverHasRequest [] → ⊥
nothing_may never =
    let head : RequestHead = plain_head [] (65 ∷ []) in
    let is = is_plain_head [] (65 ∷ []) (omega arith, All-cons (λ b. is_token_byte b ≡ true) 65 [] letter_is_token (All-nil _)) in
    never (print_request head ++ []) head [] (is, refl)

pub no_bad_of_nothing : (all : List ℕ) (code : ℕ) → all ≡ [] → IsBadPlace all code → ⊥
no_bad_of_nothing all code none (inl (inl refused)) = no_head_of_nothing refused.head refused.after (subst (λ (l : List ℕ). HasHead l refused.head refused.after) none refused.at)
no_bad_of_nothing all code none (inl (inr (inl full))) = absurd (omega (arith, ap (length {A = ℕ}) none, full.0.long))
no_bad_of_nothing all code none (inr body) =
    no_head_of_nothing body.head body.after (subst (λ (l : List ℕ). HasHead l body.head body.after) none body.at)
no_bad_of_nothing all code none (inl (inr (inr lost))) =
    let front : lost.0.front ≡ [] = empty_front lost.0.front lost.0.behind (sym none ∙ lost.0.parts) in
    nothing_may (subst (λ (l : List ℕ). NeverHasRequest l) front lost.0.never)

-- a head that is read awaits the interim response as any that is read there
pub awaits_same : (bytes : List ℕ) (h k : RequestHead) (after after2 : List ℕ) → HasHead bytes h after → HasHead bytes k after2 → awaits k ≡ true → awaits h ≡ true
awaits_same bytes h k after after2 is are waits = ap awaits (request_unique bytes h k after after2 is.reads are.reads).0 ∙ waits

-- a request says whether the interim response was due
pub due_expects : (all : List ℕ) (r : Request) (rest : List ℕ) → IsRequest all r rest → IsDue all → r.expects ≡ true
due_expects all r rest is due = is.asks.expects ∙ awaits_same all is.whole.head due.head is.whole.after due.after is.whole.at due.at due.waits

pub expects_due : (all : List ℕ) (r : Request) (rest : List ℕ) → IsRequest all r rest → r.expects ≡ true → IsDue all
expects_due all r rest is expects = record { head = is.whole.head; after = is.whole.after; at = is.whole.at; waits = sym is.asks.expects ∙ expects }

-- nothing is due without a head, or with one that is refused
pub headless_not_due : (all : List ℕ) → HasNoHead all → IsDue all → ⊥
headless_not_due all none due = none due.head due.after due.at

refused_awaits : (h : RequestHead) (f : Result Framing ℕ) (code : ℕ) → f ≡ Err code → (asks_interim h.minor (fields_of h) && tells_body f) ≡ true → ⊥
refused_awaits h (Ok framing) code is waits = absurd (cc is)
refused_awaits h (Err other) code is waits = absurd (neither (asks_interim h.minor (fields_of h)) waits)
  where
    neither : (b : Bool) → (b && false) ≡ true → ⊥
    neither true is = absurd (cc is)
    neither false is = absurd (cc is)

pub bad_head_not_due : (all : List ℕ) (code : ℕ) → IsBadHead all code → IsDue all → ⊥
bad_head_not_due all code (inl refused) due =
    let waits = awaits_same all refused.head due.head refused.after due.after refused.at due.at due.waits in
    refused_awaits refused.head (frame refused.head) code refused.why waits
bad_head_not_due all code (inr (inl full)) due = full.0.none due.head due.after due.at
bad_head_not_due all code (inr (inr lost)) due =
    lost.0.never lost.0.behind due.head due.after (subst (λ (l : List ℕ). ReadsRequest l due.head due.after) lost.0.parts due.at.reads)

-- what is due is due or not
pub no_due_of_nothing : (all : List ℕ) → all ≡ [] → IsDue all → ⊥
no_due_of_nothing all none due = no_head_of_nothing due.head due.after (subst (λ (l : List ℕ). HasHead l due.head due.after) none due.at)

pub one_due : (all : List ℕ) (a b : Bool) → DueIs all a → DueIs all b → a ≡ b
one_due all true true first second = refl
one_due all true false first second = absurd (second first)
one_due all false true first second = absurd (first second)
one_due all false false first second = refl

-- `Continue` isn't given where it was given, and nothing else where it is due and wasn't
pub not_settled : (c : Bool) (all : List ℕ) → IsDue all → c ≡ false → IsSettled c all → ⊥
not_settled c all due not settled = absurd (let both = sym not ∙ settled due in cc both)

pub one_answer : (c : Bool) (all : List ℕ) (a b : Next) (rest rest2 : List ℕ) → Gives c all a rest → Gives c all b rest2 → (a ≡ b) × (rest ≡ rest2)
one_answer c all (next.Ready r) (next.Ready q) rest rest2 first second =
    let same = one_request all r q rest rest2 first.0 second.0 in
    (ap (λ (x : Request). next.Ready x) same.0, same.1)
one_answer c all (next.Ready r) next.Continue rest rest2 first second = absurd (not_settled c all second.0 second.1 first.1)
one_answer c all (next.Ready r) next.End rest rest2 first second = absurd (no_request_of_nothing all r rest second.0 first.0)
one_answer c all (next.Ready r) next.CutShort rest rest2 first second = absurd (no_cut_request all r rest first.0 second.0)
one_answer c all (next.Ready r) (next.Bad reply) rest rest2 first second = absurd (no_bad_request all r rest second.0.0 first.0 second.0.1)
one_answer c all next.Continue (next.Ready r) rest rest2 first second = absurd (not_settled c all first.0 first.1 second.1)
one_answer c all next.Continue next.Continue rest rest2 first second = (refl, first.2 ∙ sym second.2)
one_answer c all next.Continue next.End rest rest2 first second = absurd (no_due_of_nothing all second.0 first.0)
one_answer c all next.Continue next.CutShort rest rest2 first second = absurd (not_settled c all first.0 first.1 second.1)
one_answer c all next.Continue (next.Bad reply) rest rest2 first second = absurd (not_settled c all first.0 first.1 second.1)
one_answer c all next.End (next.Ready r) rest rest2 first second = absurd (no_request_of_nothing all r rest2 first.0 second.0)
one_answer c all next.End next.Continue rest rest2 first second = absurd (no_due_of_nothing all first.0 second.0)
one_answer c all next.End next.End rest rest2 first second = (refl, first.1 ∙ sym second.1)
one_answer c all next.End next.CutShort rest rest2 first second = absurd (no_cut_of_nothing all first.0 second.0)
one_answer c all next.End (next.Bad reply) rest rest2 first second = absurd (no_bad_of_nothing all second.0.0 first.0 second.0.1)
one_answer c all next.CutShort (next.Ready r) rest rest2 first second = absurd (no_cut_request all r rest2 second.0 first.0)
one_answer c all next.CutShort next.Continue rest rest2 first second = absurd (not_settled c all second.0 second.1 first.1)
one_answer c all next.CutShort next.End rest rest2 first second = absurd (no_cut_of_nothing all second.0 first.0)
one_answer c all next.CutShort next.CutShort rest rest2 first second = (refl, first.2 ∙ sym second.2)
one_answer c all next.CutShort (next.Bad reply) rest rest2 first second = absurd (no_bad_cut all second.0.0 second.0.1 first.0)
one_answer c all (next.Bad reply) (next.Ready r) rest rest2 first second = absurd (no_bad_request all r rest2 first.0.0 second.0 first.0.1)
one_answer c all (next.Bad reply) next.Continue rest rest2 first second = absurd (not_settled c all second.0 second.1 first.1)
one_answer c all (next.Bad reply) next.End rest rest2 first second = absurd (no_bad_of_nothing all first.0.0 second.0 first.0.1)
one_answer c all (next.Bad reply) next.CutShort rest rest2 first second = absurd (no_bad_cut all first.0.0 first.0.1 second.0)
one_answer c all (next.Bad reply) (next.Bad other) rest rest2 first second =
    (ap (λ (x : Reply). next.Bad x) (one_reply all reply other first.0 second.0), first.2 ∙ sym second.2)
