-- A head that is held whole is found before anything is read.
use Rattle.std.proofs.Common.{◌≡◌, ℕ, Bool, List, drop, ap, sym, subst, ◌∙◌, inl, inr}
use Rattle.std.specs.Prelude.{◌⊎◌}
use Rattle.httparse.specs.Grammar.{HasNoRequest, RequestHead}
use Rattle.httparse.specs.declared.spans.HeaderSpan.{HeaderSpan}
use Rattle.httparse.proofs.GrammarLemmas.{request_unique}
use Rattle.http_conn.specs.Next.{IsAtHand, IsSettled}
use Rattle.http_conn.specs.Stream.{IsRequest}
use Rattle.http_head.specs.Head.{HasHead, frame}
use Rattle.http_head.specs.Parts.{IsHead}
use Rattle.http_head.specs.declared.verdict.Head.{Head}
use Rattle.http_conn.specs.declared.request.Request.{Request}
use Rattle.http_conn.proofs.LawLemmas.{framing_same, not_settled}
use Rattle.http_head.specs.declared.fields.Framing.{Framing}
use Rattle.body_read.specs.Chunks.{Outcome}
use Rattle.body_read.specs.Body.{BodyIs}

-- no head was held at first, or nothing was read yet
abbrev pub IsPrompt : {X : Type 0} → List ℕ → List ℕ → X → X → Type 0
IsPrompt {X} old held s t = ((h : RequestHead) (after : List ℕ) → HasHead old h after → ⊥) ⊎ ((t ≡ s) × (held ≡ old))

pub prompt_lost : {X : Type 0} (old held : List ℕ) (s t : X) → IsPrompt old held s t → HasNoRequest held → (h : RequestHead) (after : List ℕ) → HasHead old h after → ⊥
prompt_lost old held s t (inl none) lacks h after at = none h after at
prompt_lost old held s t (inr same) lacks h after at = subst (λ (l : List ℕ). HasNoRequest l) same.1 lacks h after at.reads

pub prompt_same : {X : Type 0} (old held : List ℕ) (s t : X) → IsPrompt old held s t → (h : RequestHead) (after : List ℕ) → HasHead old h after → (t ≡ s) × (held ≡ old)
prompt_same old held s t (inl none) h after at = absurd (none h after at)
prompt_same old held s t (inr same) h after at = same

-- what is at hand has a head
pub head_at_hand : (c : Bool) (held : List ℕ) → IsAtHand c held → (h : RequestHead) × (after : List ℕ) × HasHead held h after
head_at_hand c held (inl x) = (x.2.whole.head, x.2.whole.after, x.2.whole.at)
head_at_hand c held (inr x) = (x.0.head, x.0.after, x.0.at)

-- what is at hand, and isn't owed the interim response, is a whole request
pub request_at_hand : (c : Bool) (held : List ℕ) → IsAtHand c held → IsSettled c held → (r : Request) × (rest : List ℕ) × IsRequest held r rest
request_at_hand c held (inl x) settled = x
request_at_hand c held (inr x) settled = absurd (not_settled c held x.0 x.1 settled)

-- a head that is held with its whole request is held with its body
pub body_prompt : (held old : List ℕ) (headers : List HeaderSpan) (h : Head) (r : Request) (rest : List ℕ) → IsHead held headers h → held ≡ old → IsRequest old r rest
    → BodyIs h.framing (drop h.spans.len held) (Outcome.Whole r.body rest)
body_prompt held old headers h r rest head same is =
    let here : IsRequest held r rest = subst (λ (l : List ℕ). IsRequest l r rest) (sym same) is in
    let whole = here.whole in
    let one = request_unique held head.head whole.head (drop h.spans.len held) whole.after head.at.reads whole.at.reads in
    let framing : h.framing ≡ whole.framing = framing_same (frame head.head) h.framing whole.framing head.framed (ap frame one.0 ∙ whole.told) in
    let there : BodyIs h.framing whole.after (Outcome.Whole r.body rest) = subst (λ (f : Framing). BodyIs f whole.after (Outcome.Whole r.body rest)) (sym framing) whole.body in
    subst (λ (l : List ℕ). BodyIs h.framing l (Outcome.Whole r.body rest)) (sym one.1) there
