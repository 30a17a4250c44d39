-- What holds of the bytes at hand holds of all that is still to come.
use Rattle.std.proofs.Common.{◌≡◌, ℕ, ◌+◌, ◌-◌, ◌<◌, ◌≤◌, Bool, List, [], ◌++◌, length, take, drop, Option, None, Some, refl, ap, sym, subst, ◌∙◌, arith, append_assoc, length-append, length-take, inl, inr}
use Rattle.std.proofs.lemmas.List.{take-append-drop, append-nil}
use Rattle.std.specs.Io.KnownBytes.{prepend_known, IsAtEnd}
use Rattle.httparse.specs.Grammar.{MayBecomeRequest, RequestHead}
use Rattle.httparse.specs.declared.spans.HeaderSpan.{HeaderSpan}
use Rattle.http_head.specs.Head.{HasHead, HasNoHead, IsRefused, max_head}
use Rattle.http_head.specs.Parts.{IsHead, IsLost}
use Rattle.http_head.specs.declared.verdict.Head.{Head}
use Rattle.http_head.proofs.HeadLemmas.{HasHead-append, IsHead-append, IsRefused-append, head_of, no_head-append}
use Rattle.body_read.specs.Chunks.{Outcome}
use Rattle.body_read.specs.Body.{BodyIs}
use Rattle.body_read.proofs.BodyLaws.{body_whole-append, body_refused-append}
use Rattle.http_conn.specs.Stream.{Asks, HasBody, IsBadHead, IsBadPlace, IsHopeless, IsRequest}
use Rattle.http_conn.specs.Told.{Comes}
use Rattle.http_conn.specs.declared.request.Request.{Request}
use Rattle.http_conn.specs.Next.{IsSettled}
use Rattle.http_conn.specs.Stream.{IsDue}
use Rattle.http_conn.proofs.LawLemmas.{awaits_same, front_of, lost_may_not}

-- all that comes is what is held and what is left
pub comes_split : (held : List ℕ) (left : Option (List ℕ)) (all : List ℕ) → Comes held left all
    → (rest : List ℕ) × (left ≡ Some rest) × (all ≡ held ++ rest)
comes_split held None all comes = absurd (cc)
comes_split held (Some rest) all comes = let same : held ++ rest ≡ all = cc in (rest, refl, sym same)

-- nothing is left
pub comes_end : (held : List ℕ) (left : Option (List ℕ)) (all : List ℕ) → Comes held left all → IsAtEnd left → all ≡ held
comes_end held None all comes end = absurd (cc)
comes_end held (Some rest) all comes end =
    let same : held ++ rest ≡ all = cc in
    sym same ∙ ap (λ (l : List ℕ). held ++ l) end ∙ append-nil held

pub IsHopeless-append : (buf more : List ℕ) → IsHopeless buf → IsHopeless (buf ++ more)
IsHopeless-append buf more is = record {
  front = is.front;
  behind = is.behind ++ more;
  parts = ap (λ (l : List ℕ). l ++ more) is.parts ∙ append_assoc is.front is.behind more;
  short = is.short;
  never = is.never;
  decided = is.decided;
}

-- a front of all bytes that isn't longer than those held is a front of these
pub hopeless_front : (held rest : List ℕ) → max_head ≤ length held + 1 → IsHopeless (held ++ rest) → IsHopeless held
hopeless_front held rest long is = record {
  front = is.front;
  behind = take (length held - length is.front) is.behind;
  parts = front_of held rest is.front is.behind is.parts (omega (arith, is.short));
  short = is.short;
  never = is.never;
  decided = is.decided;
}

-- a body that is refused is so whatever follows
refused_body-append : (buf more : List ℕ) (code : ℕ) → HasBody buf (Outcome.Refused code) → HasBody (buf ++ more) (Outcome.Refused code)
refused_body-append buf more code is = record {
  head = is.head;
  after = is.after ++ more;
  framing = is.framing;
  at = HasHead-append buf more is.head is.after is.at;
  told = is.told;
  body = body_refused-append is.framing is.after more code is.body;
}

-- a bad head stays one, whatever follows
pub bad_head-append : (held rest : List ℕ) (code : ℕ) → IsBadHead held code → IsBadHead (held ++ rest) code
bad_head-append held rest code (inl found) = inl (IsRefused-append held rest code found)
bad_head-append held rest code (inr (inl full)) =
    inr (inl (
      record {
        long = omega (arith, full.0.long, length-append held rest);
        none = no_head-append held rest full.0.long full.0.none;
        hope = λ lost. full.0.hope (hopeless_front held rest (omega (arith, full.0.long)) lost);
      },
      full.1,
    ))
bad_head-append held rest code (inr (inr hopeless)) = inr (inr (IsHopeless-append held rest hopeless.0, hopeless.1))

-- a bad place stays one, whatever follows
pub bad-append : (held rest : List ℕ) (code : ℕ) → IsBadPlace held code → IsBadPlace (held ++ rest) code
bad-append held rest code (inl head) = inl (bad_head-append held rest code head)
bad-append held rest code (inr body) = inr (refused_body-append held rest code body)

-- the same, refused
pub full_refused : (held : List ℕ) (code : ℕ) → IsRefused (take max_head held) code → IsBadHead held code
full_refused held code refused = inl (subst (λ (l : List ℕ). IsRefused l code) (take-append-drop max_head held) (IsRefused-append (take max_head held) (drop max_head held) code refused))

-- what is lost, and shorter than the longest head
pub lost_bad : (held : List ℕ) → length held < max_head → IsLost held → IsBadHead held 400
lost_bad held short lost =
    inr (inr (record { front = held; behind = []; parts = sym (append-nil held); short = short; never = lost.0; decided = lost.1 }, refl))

-- a front that is lost
pub front_lost : (held : List ℕ) (n : ℕ) → n < max_head → IsLost (take n held) → IsBadHead held 400
front_lost held n short lost =
    let below : length (take n held) < max_head = omega (arith, length-take {A = ℕ} n held) in
    subst (λ (l : List ℕ). IsBadHead l 400) (take-append-drop n held) (bad_head-append (take n held) (drop n held) 400 (lost_bad (take n held) below lost))

-- no head, and each front may become one
pub front_open : (held : List ℕ) (n : ℕ) → n + 1 ≡ max_head → max_head ≤ length held → HasNoHead held → MayBecomeRequest (take n held) → IsBadHead held 431
front_open held n size long none may =
    let whole : take n held ++ drop n held ≡ held = take-append-drop n held in
    let front : max_head ≤ length (take n held) + 1 = omega (arith, size, length-take {A = ℕ} n held) in
    inr (inl (
      record {
        long = long;
        none = none;
        hope = λ lost. lost_may_not (take n held) (hopeless_front (take n held) (drop n held) front (subst (λ (l : List ℕ). IsHopeless l) (sym whole) lost)) may;
      },
      refl,
    ))

pub IsRequest-append : (buf rest more : List ℕ) (r : Request) → IsRequest buf r rest → IsRequest (buf ++ more) r (rest ++ more)
IsRequest-append buf rest more r is = record {
  whole = record {
    head = is.whole.head;
    after = is.whole.after ++ more;
    framing = is.whole.framing;
    at = HasHead-append buf more is.whole.head is.whole.after is.whole.at;
    told = is.whole.told;
    body = body_whole-append is.whole.framing is.whole.after more r.body rest is.whole.body;
  };
  asks = is.asks;
}

-- a head that was read stays one behind which more is held
pub IsHead-behind : (old new : List ℕ) (headers : List HeaderSpan) (h : Head) → IsHead old headers h → (more : List ℕ) × (new ≡ old ++ more) → IsHead new headers h
IsHead-behind old new headers h is behind = subst (λ (l : List ℕ). IsHead l headers h) (sym behind.1) (IsHead-append old behind.0 headers h is)

-- what a request takes of a head it takes of the same head
pub asks_same : (r : Request) (h k : RequestHead) → h ≡ k → Asks h r → Asks k r
asks_same r h k same is = subst (λ (x : RequestHead). Asks x r) same is

-- what comes of the body behind a head that is held
pub body_held : (held : List ℕ) (headers : List HeaderSpan) (h : Head) (x : Outcome) → IsHead held headers h → BodyIs h.framing (drop h.spans.len held) x → HasBody held x
body_held held headers h x is body = record {
  head = is.head;
  after = drop h.spans.len held;
  framing = h.framing;
  at = head_of held headers h is;
  told = is.framed;
  body = body;
}

-- what was held and cut
pub comes_cut : (held cut rest all : List ℕ) (left : Option (List ℕ)) → left ≡ Some rest → Comes cut left (cut ++ rest)
comes_cut held cut rest all left is = ap (prepend_known cut) is

-- a head that is read settles the interim response for all bytes that follow it
pub settled_behind : (c : Bool) (held bytes : List ℕ) (h : RequestHead) (after : List ℕ) → HasHead held h after → (more : List ℕ) × (bytes ≡ held ++ more) → IsSettled c held → IsSettled c bytes
settled_behind c held bytes h after at more settled = λ due.
    let there : HasHead bytes h (after ++ more.0) = subst (λ (l : List ℕ). HasHead l h (after ++ more.0)) (sym more.1) (HasHead-append held more.0 h after at) in
    settled (record { head = h; after = after; at = at; waits = awaits_same bytes h due.head (after ++ more.0) due.after there due.at due.waits })

-- what is due stays due, whatever follows
pub IsDue-append : (held more : List ℕ) → IsDue held → IsDue (held ++ more)
IsDue-append held more due = record { head = due.head; after = due.after ++ more; at = HasHead-append held more due.head due.after due.at; waits = due.waits }
