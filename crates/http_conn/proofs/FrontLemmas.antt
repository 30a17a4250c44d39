-- What stands at the front of what is held stands at the front of all that comes.
use Rattle.std.proofs.Common.{◌≡◌, ℕ, ◌++◌, Bool, List, Option, Result, Ok, Err, refl, ap, sym, subst, ◌∙◌, drop, append_assoc, inl, inr}
use Rattle.std.specs.Prelude.{◌≢◌, ◌≤◌, IfOk, IfErr}
use Rattle.rest_codes.specs.Errors.{refusal_of}
use Rattle.http_conn.specs.Stream.{IsBadHead, IsBadPlace, IsDue}
use Rattle.http_conn.specs.Next.{Gives, GivesSo, IsHeadless, IsSettled, IsWaiting}
use Rattle.http_conn.specs.Told.{Comes, Reads}
use Rattle.http_conn.specs.declared.request.Next.{Next}
use Rattle.http_conn.specs.declared.request.Next.TheVariants as next
use Rattle.http_conn.specs.declared.request.ConnNo.{ConnNo}
use Rattle.http_conn.specs.declared.request.ConnNo.TheVariants.{ReadFault, WriteFault, Want}
use Rattle.http_conn.proofs.LawLemmas.{bad_head_not_due}
use Rattle.http_conn.proofs.StreamLemmas.{comes_split, bad-append, bad_head-append, settled_behind}
use Rattle.httparse.specs.declared.spans.HeaderSpan.{HeaderSpan}
use Rattle.http_head.specs.declared.verdict.Head.{Head}
use Rattle.http_head.specs.Parts.{IsHead}
use Rattle.http_head.proofs.HeadLemmas.{head_of}
use Rattle.http_conn.specs.Body.{IsBehind}

-- a bad head settles the interim response, whatever follows
pub bad_head_settled : (c : Bool) (held : List ℕ) (code : ℕ) → IsBadHead held code → (more : List ℕ) → IsSettled c (held ++ more)
bad_head_settled c held code bad more = λ due. absurd (bad_head_not_due (held ++ more) code (bad_head-append held more code bad) due)

-- the answer at a bad place
pub bad_given : (c : Bool) (held0 held : List ℕ) (left0 left : Option (List ℕ)) (result : Result Next ConnNo) (code : ℕ)
    → IfOk result (λ n. n ≡ next.Bad (refusal_of code)) → IfErr result (λ e. e ≡ Want)
    → IsBadPlace held code → ((all : List ℕ) → Comes held0 left0 all → Comes held left all) → ((more : List ℕ) → IsSettled c (held ++ more))
    → GivesSo c held0 held left0 left result
bad_given c held0 held left0 left (Err ReadFault) code is only place same settled = absurd (cc only)
bad_given c held0 held left0 left (Err (WriteFault n)) code is only place same settled = absurd (cc only)
bad_given c held0 held left0 left (Err Want) code is only place same settled = tt
bad_given c held0 held left0 left (Ok n) code is only place same settled = λ all comes.
    let now = same all comes in
    let parts = comes_split held left all now in
    let bad : IsBadPlace all code = subst (λ (l : List ℕ). IsBadPlace l code) (sym parts.2) (bad-append held parts.0 code place) in
    let paid : IsSettled c all = subst (λ (l : List ℕ). IsSettled c l) (sym parts.2) (settled parts.0) in
    (all, now, subst (λ (m : Next). Gives c all m all) (sym is) ((code, bad, refl), paid, refl))

-- a step that failed
pub gives_failed : (c : Bool) (held0 held : List ℕ) (left0 left : Option (List ℕ)) (e : ConnNo)
    → (e ≡ ReadFault → (all : List ℕ) → Comes held0 left0 all → Comes held left all × IsWaiting held × IsSettled c held × (IsDue held0 → IsDue held))
    → ((n : ℕ) → e ≢ WriteFault n) → GivesSo c held0 held left0 left (Err e)
gives_failed c held0 held left0 left ReadFault lost unwritten = lost refl
gives_failed c held0 held left0 left (WriteFault n) lost unwritten = absurd (unwritten n refl)
gives_failed c held0 held left0 left Want lost unwritten = tt

-- a front without a whole head waits
pub headless_waits : (held : List ℕ) → IsHeadless held → IsWaiting held
headless_waits held (inl none) = inl none
headless_waits held (inr cut) = inr (inr cut)

-- a head that is read settles the interim response for all that comes
pub settled_more : (c : Bool) (held new more : List ℕ) (headers : List HeaderSpan) (h : Head) → IsHead held headers h → IsBehind held new → IsSettled c held → IsSettled c (new ++ more)
settled_more c held new more headers h head behind settled =
    let whole : new ++ more ≡ held ++ (behind.0 ++ more) = ap (λ (l : List ℕ). l ++ more) behind.1 ∙ append_assoc held behind.0 more in
    settled_behind c held (new ++ more) head.head (drop h.spans.len held) (head_of held headers h head) (behind.0 ++ more, whole) settled

fault_is_want : (result : Result Next ConnNo) → IfErr result (λ e. e ≡ Want) → result ≡ Err ReadFault → ⊥
fault_is_want (Ok n) only is = absurd (cc is)
fault_is_want (Err e) only is = absurd (cc (only, is))

write_is_want : (result : Result Next ConnNo) (n : ℕ) → IfErr result (λ e. e ≡ Want) → result ≡ Err (WriteFault n) → ⊥
write_is_want (Ok x) n only is = absurd (cc is)
write_is_want (Err e) n only is = absurd (cc (only, is))

-- where nothing but memory can be missing
pub wanted_reads : {S : Type 0} (faults : S → ℕ) (beside : S → S → Type 0) (old new : S) (result : Result Next ConnNo)
    → IfErr result (λ e. e ≡ Want) → faults old ≤ faults new → beside old new → Reads faults beside old new result
wanted_reads faults beside old new result only later others = record {
  later = later;
  failed = λ is. absurd (fault_is_want result only is);
  unwritten = λ n is. write_is_want result n only is;
  others = others;
}
