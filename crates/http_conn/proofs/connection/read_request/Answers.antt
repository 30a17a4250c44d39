use Rattle.std.proofs.Common.{◌≡◌, ◌∙◌, ◌++◌, Result, Err, rules, ap, sym, subst, refl, inl, inr, drop, arith, List, ℕ}
use Rattle.std.specs.Io.KnownBytes.{prepend_known}
use Rattle.http_head.specs.Head.{HasHead}
use Rattle.http_head.specs.Parts.{IsHead}
use Rattle.http_head.proofs.HeadLemmas.{head_of}
use Rattle.body_read.specs.Chunks.{Outcome}
use Rattle.http_conn.specs.declared.connection.Front.{Front}
use Rattle.http_conn.specs.declared.request.ConnNo.TheVariants.{ReadFault}
use Rattle.http_conn.specs.declared.body.Found.{Found}
use Rattle.http_conn.specs.declared.body.Found.TheVariants as found
use Rattle.http_conn.specs.Body.{BodyFound}
use Rattle.http_conn.specs.Stream.{IsBadHead, IsBadPlace, IsCut, IsCutHead, IsDue, IsRequest, Asks}
use Rattle.http_conn.specs.Front.{FrontIs}
use Rattle.http_conn.specs.Next.{GivesSo, IsSettled, IsWaiting}
use Rattle.http_conn.specs.declared.request.ConnNo.{ConnNo}
use Rattle.http_conn.specs.declared.request.Next.{Next}
use Rattle.http_conn.proofs.FrontLemmas.{bad_given, bad_head_settled, gives_failed, headless_waits, settled_more, wanted_reads}
use Rattle.http_conn.proofs.PromptLemmas.{body_prompt, head_at_hand, request_at_hand}
use Rattle.http_conn.proofs.PatientLemmas.{body_read_on, head_read, headless_settled}
use Rattle.http_conn.proofs.BodyLemmas.{body_behind, request_behind}
use Rattle.http_conn.proofs.StreamLemmas.{comes_split, comes_end, comes_cut, IsDue-append, IsRequest-append, settled_behind}
use Rattle.http_conn.proofs.LawLemmas.{headless_not_due}
use Rattle.http_conn.proofs.connection.read_request.Goals as goal

pub returns-in_err-head-clause-given : goal.returns-in_err-head-clause-given
returns-in_err-head-clause-given g c =
    let same : c.from_residual.result ≡ Err c.in_err-head.field-0.0 = search rules in
    let left = g.S.Source.left c.args.source.now in
    let left2 = g.S.Source.left c.read_head.new.source in
    subst (λ (r : Result Next ConnNo). GivesSo c.args.continued c.args.held.now c.read_head.new.held left left2 r) (sym same)
    (gives_failed c.args.continued c.args.held.now c.read_head.new.held left left2 c.in_err-head.field-0.0
    (λ failed all comes.
    let lost = c.in_err-head.ensures.lost (ap (λ e. Err e) failed) in (
      lost.1 all comes,
      headless_waits c.read_head.new.held lost.0,
      headless_settled c.args.continued c.read_head.new.held lost.0,
      λ due. subst (λ (l : List ℕ). IsDue l) (sym (c.read_head.ensures.prompt due.head due.after due.at).1) due,
    ))
    (λ n is. c.in_err-head.ensures.no_write n (ap (λ e. Err e) is)))

pub returns-in-Bad-clause-given : goal.returns-in-Bad-clause-given
returns-in-Bad-clause-given g c =
    let held : List ℕ = c.read_head.new.held in
    let left = g.S.Source.left c.read_head.new.source in
    let bad : IsBadHead held c.in-Bad.code = subst (λ (f : Front). FrontIs held c.read_head.new.headers left f) c.in-Bad.is c.in_ok-head.ensures.front in
    bad_given c.args.continued c.args.held.now held (g.S.Source.left c.args.source.now) left c.bad.result c.in-Bad.code c.bad.ensures.value c.bad.ensures.fault (inl bad) c.in_ok-head.ensures.same
    (bad_head_settled c.args.continued held c.in-Bad.code bad)

pub returns-in-Cut-clause-given : goal.returns-in-Cut-clause-given
returns-in-Cut-clause-given g c = λ all comes.
    let held : List ℕ = c.read_head.new.held in
    let left = g.S.Source.left c.read_head.new.source in
    let found = subst (λ (f : Front). FrontIs held c.read_head.new.headers left f) c.in-Cut.is c.in_ok-head.ensures.front in
    let now = c.in_ok-head.ensures.same all comes in
    let same = comes_end held left all now found.1 in
    let cut : IsCutHead all = subst (λ (l : List ℕ). IsCutHead l) (sym same) found.0 in
    (all, now, (inr cut, λ due. absurd (headless_not_due all cut.none due), refl))

pub is_owed-requires : goal.is_owed-requires
is_owed-requires g c =
    let held : List ℕ = c.read_head.new.held in
    let headers = c.read_head.new.headers in
    let h = c.in-Whole.head in
    let head : IsHead held headers h = subst (λ (f : Front). FrontIs held headers (g.S.Source.left c.read_head.new.source) f) c.in-Whole.is c.in_ok-head.ensures.front in
    subst (λ (l : List ℕ). IsHead l headers h) (sym c.front.ensures) head

pub returns-then-is_owed-clause-given : goal.returns-then-is_owed-clause-given
returns-then-is_owed-clause-given g c = λ all comes.
    let held : List ℕ = c.read_head.new.held in
    let left = g.S.Source.left c.read_head.new.source in
    let owed = c.is_owed.ensures.owed c.if-is_owed.true in
    let due : IsDue held = subst (λ (l : List ℕ). IsDue l) c.front.ensures owed.0 in
    let now = c.in_ok-head.ensures.same all comes in
    let parts = comes_split held left all now in
    (all, now, (subst (λ (l : List ℕ). IsDue l) (sym parts.2) (IsDue-append held parts.0 due), owed.1, refl))

pub returns-then-is_owed-clause-interim : goal.returns-then-is_owed-clause-interim
returns-then-is_owed-clause-interim g c = λ is.
    let owed = c.is_owed.ensures.owed c.if-is_owed.true in
    (subst (λ (l : List ℕ). IsDue l) c.front.ensures owed.0, owed.1)

pub returns-then-is_owed-clause-patient : goal.returns-then-is_owed-clause-patient
returns-then-is_owed-clause-patient g c = head_read g.S.Source.left g.S.Source.asked c.args.continued c.args.held.now c.args.source.now c.read_head.new.source c.read_head.ensures.patient

pub returns-then-is_owed-clause-prompt : goal.returns-then-is_owed-clause-prompt
returns-then-is_owed-clause-prompt g c = λ ready.
    let at = head_at_hand c.args.continued c.args.held.now ready in
    (c.read_head.ensures.prompt at.0 at.1 at.2).0

pub make_request-requires : goal.make_request-requires
make_request-requires g c =
    let held : List ℕ = c.read_head.new.held in
    let headers = c.read_head.new.headers in
    let h = c.in-Whole.head in
    let head : IsHead held headers h = subst (λ (f : Front). FrontIs held headers (g.S.Source.left c.read_head.new.source) f) c.in-Whole.is c.in_ok-head.ensures.front in
    subst (λ (l : List ℕ). IsHead l headers h) (sym c.front-2.ensures) head

pub read_body-requires-clause-place : goal.read_body-requires-clause-place
read_body-requires-clause-place g c =
    let held : List ℕ = c.read_head.new.held in
    let headers = c.read_head.new.headers in
    let h = c.in-Whole.head in
    let head : IsHead held headers h = subst (λ (f : Front). FrontIs held headers (g.S.Source.left c.read_head.new.source) f) c.in-Whole.is c.in_ok-head.ensures.front in
    head.within.section.len_fits

pub read_body-requires-clause-fits : goal.read_body-requires-clause-fits
read_body-requires-clause-fits g c =
    let held : List ℕ = c.read_head.new.held in
    let headers = c.read_head.new.headers in
    let h = c.in-Whole.head in
    let head : IsHead held headers h = subst (λ (f : Front). FrontIs held headers (g.S.Source.left c.read_head.new.source) f) c.in-Whole.is c.in_ok-head.ensures.front in
    (head.short, head.fits)

pub returns-in-Ok-Whole-clause-given : goal.returns-in-Ok-Whole-clause-given
returns-in-Ok-Whole-clause-given g c = λ all comes.
    let held : List ℕ = c.read_head.new.held in
    let headers = c.read_head.new.headers in
    let h = c.in-Whole.head in
    let head : IsHead held headers h = subst (λ (f : Front). FrontIs held headers (g.S.Source.left c.read_head.new.source) f) c.in-Whole.is c.in_ok-head.ensures.front in
    let new : List ℕ = c.read_body.new.held in
    let left = g.S.Source.left c.read_body.new.source in
    let end : ℕ = c.in-Ok-Whole.end in
    let read = c.in-Ok-Whole.ensures in
    let found : BodyFound h.framing h.spans.len new left (found.Whole c.in-Ok-Whole.body end) =
    subst (λ (f : Found). BodyFound h.framing h.spans.len new left f) c.in-Ok-Whole.field-0-is c.in-Ok-Whole.ensures.found in
    let now = read.same all (c.in_ok-head.ensures.same all comes) in
    let parts = comes_split new left all now in
    let at : HasHead c.front-2.result.now head.head (drop h.spans.len held) =
    subst (λ (l : List ℕ). HasHead l head.head (drop h.spans.len held)) (sym c.front-2.ensures) (head_of held headers h head) in
    let asks : Asks head.head c.with_body.result = c.with_body.ensures.asks head.head (c.in_ok-request.ensures head.head (drop h.spans.len held) at) in
    let request : IsRequest new c.with_body.result (drop end new) =
    request_behind held new headers h c.with_body.result c.in-Ok-Whole.body (drop end new) head read.behind found.1 asks c.with_body.ensures.body in
    let settled : IsSettled c.args.continued held = subst (λ (l : List ℕ). IsSettled c.args.continued l) c.front.ensures (c.is_owed.ensures.settled c.if-is_owed.false) in
    let paid : IsSettled c.args.continued (new ++ parts.0) = settled_more c.args.continued held new parts.0 headers h head read.behind settled in
    let whole = IsRequest-append new (drop end new) parts.0 c.with_body.result request in (
      drop end new ++ parts.0,
      ap (λ (l : List ℕ). prepend_known l left) c.take.ensures ∙ comes_cut new (drop end new) parts.0 all left parts.1,
      (subst (λ (l : List ℕ). IsRequest l c.with_body.result (drop end new ++ parts.0)) (sym parts.2) whole, subst (λ (l : List ℕ). IsSettled c.args.continued l) (sym parts.2) paid),
    )

pub returns-in-Ok-Bad-clause-given : goal.returns-in-Ok-Bad-clause-given
returns-in-Ok-Bad-clause-given g c =
    let held : List ℕ = c.read_head.new.held in
    let headers = c.read_head.new.headers in
    let h = c.in-Whole.head in
    let head : IsHead held headers h = subst (λ (f : Front). FrontIs held headers (g.S.Source.left c.read_head.new.source) f) c.in-Whole.is c.in_ok-head.ensures.front in
    let new : List ℕ = c.read_body.new.held in
    let left = g.S.Source.left c.read_body.new.source in
    let code : ℕ = c.in-Ok-Bad.code in
    let found : BodyFound h.framing h.spans.len new left (found.Bad code) =
    subst (λ (f : Found). BodyFound h.framing h.spans.len new left f) c.in-Ok-Bad.field-0-is c.in-Ok-Bad.ensures.found in
    let settled : IsSettled c.args.continued held = subst (λ (l : List ℕ). IsSettled c.args.continued l) c.front.ensures (c.is_owed.ensures.settled c.if-is_owed.false) in
    let bad : IsBadPlace new code = inr (body_behind held new headers h (Outcome.Refused code) head c.in-Ok-Bad.ensures.behind found) in
    bad_given c.args.continued c.args.held.now new (g.S.Source.left c.args.source.now) left c.bad-in-Ok-Bad.result code c.bad-in-Ok-Bad.ensures.value c.bad-in-Ok-Bad.ensures.fault bad
    (λ all comes. c.in-Ok-Bad.ensures.same all (c.in_ok-head.ensures.same all comes))
    (λ more. settled_more c.args.continued held new more headers h head c.in-Ok-Bad.ensures.behind settled)

pub returns-in-Ok-Cut-clause-given : goal.returns-in-Ok-Cut-clause-given
returns-in-Ok-Cut-clause-given g c = λ all comes.
    let held : List ℕ = c.read_head.new.held in
    let headers = c.read_head.new.headers in
    let h = c.in-Whole.head in
    let head : IsHead held headers h = subst (λ (f : Front). FrontIs held headers (g.S.Source.left c.read_head.new.source) f) c.in-Whole.is c.in_ok-head.ensures.front in
    let new : List ℕ = c.read_body.new.held in
    let left = g.S.Source.left c.read_body.new.source in
    let found : BodyFound h.framing h.spans.len new left (found.Cut) =
    subst (λ (f : Found). BodyFound h.framing h.spans.len new left f) c.in-Ok-Cut.field-0-is c.in-Ok-Cut.ensures.found in
    let now = c.in-Ok-Cut.ensures.same all (c.in_ok-head.ensures.same all comes) in
    let same = comes_end new left all now found.1 in
    let cut : IsCut new = inl (body_behind held new headers h Outcome.Short head c.in-Ok-Cut.ensures.behind found.0) in
    let settled : IsSettled c.args.continued held = subst (λ (l : List ℕ). IsSettled c.args.continued l) c.front.ensures (c.is_owed.ensures.settled c.if-is_owed.false) in
    let paid : IsSettled c.args.continued new = settled_behind c.args.continued held new head.head (drop h.spans.len held) (head_of held headers h head) c.in-Ok-Cut.ensures.behind settled in
    (all, now, (subst (λ (l : List ℕ). IsCut l) (sym same) cut, subst (λ (l : List ℕ). IsSettled c.args.continued l) (sym same) paid, refl))

pub returns-in-Err-clause-given : goal.returns-in-Err-clause-given
returns-in-Err-clause-given g c =
    let held : List ℕ = c.read_head.new.held in
    let headers = c.read_head.new.headers in
    let h = c.in-Whole.head in
    let head : IsHead held headers h = subst (λ (f : Front). FrontIs held headers (g.S.Source.left c.read_head.new.source) f) c.in-Whole.is c.in_ok-head.ensures.front in
    let settled : IsSettled c.args.continued held = subst (λ (l : List ℕ). IsSettled c.args.continued l) c.front.ensures (c.is_owed.ensures.settled c.if-is_owed.false) in
    let new : List ℕ = c.read_body.new.held in
    gives_failed c.args.continued c.args.held.now new (g.S.Source.left c.args.source.now) (g.S.Source.left c.read_body.new.source) c.in-Err.no
    (λ failed all comes.
    let lost = c.read_body.ensures.lost (c.in-Err.is ∙ ap (λ e. Err e) failed) in
    let waits : IsWaiting new = inr (inl (body_behind held new headers h Outcome.Short head lost.0.0 lost.0.1)) in (
      lost.1 all (c.in_ok-head.ensures.same all comes),
      waits,
      settled_behind c.args.continued held new head.head (drop h.spans.len held) (head_of held headers h head) lost.0.0 settled,
      λ due.
          let there : IsDue held = subst (λ (l : List ℕ). IsDue l) (sym (c.read_head.ensures.prompt due.head due.after due.at).1) due in
          subst (λ (l : List ℕ). IsDue l) (sym lost.0.0.1) (IsDue-append held lost.0.0.0 there),
    ))
    (λ n is. c.read_body.ensures.no_write n (c.in-Err.is ∙ ap (λ e. Err e) is))

pub returns-in_err-head-clause-prompt : goal.returns-in_err-head-clause-prompt
returns-in_err-head-clause-prompt g c = λ ready.
    let at = head_at_hand c.args.continued c.args.held.now ready in
    (c.read_head.ensures.prompt at.0 at.1 at.2).0

pub returns-in-Bad-clause-prompt : goal.returns-in-Bad-clause-prompt
returns-in-Bad-clause-prompt g c = λ ready.
    let at = head_at_hand c.args.continued c.args.held.now ready in
    (c.read_head.ensures.prompt at.0 at.1 at.2).0

pub returns-in-Cut-clause-prompt : goal.returns-in-Cut-clause-prompt
returns-in-Cut-clause-prompt g c = λ ready.
    let at = head_at_hand c.args.continued c.args.held.now ready in
    (c.read_head.ensures.prompt at.0 at.1 at.2).0

pub returns-in-End-clause-prompt : goal.returns-in-End-clause-prompt
returns-in-End-clause-prompt g c = λ ready.
    let at = head_at_hand c.args.continued c.args.held.now ready in
    (c.read_head.ensures.prompt at.0 at.1 at.2).0

pub returns-in_err-request-clause-prompt : goal.returns-in_err-request-clause-prompt
returns-in_err-request-clause-prompt g c = λ ready.
    let at = head_at_hand c.args.continued c.args.held.now ready in
    (c.read_head.ensures.prompt at.0 at.1 at.2).0

pub returns-in-Ok-Whole-clause-prompt : goal.returns-in-Ok-Whole-clause-prompt
returns-in-Ok-Whole-clause-prompt g c = λ ready.
    let held : List ℕ = c.read_head.new.held in
    let headers = c.read_head.new.headers in
    let h = c.in-Whole.head in
    let head : IsHead held headers h = subst (λ (f : Front). FrontIs held headers (g.S.Source.left c.read_head.new.source) f) c.in-Whole.is c.in_ok-head.ensures.front in
    let settled : IsSettled c.args.continued held = subst (λ (l : List ℕ). IsSettled c.args.continued l) c.front.ensures (c.is_owed.ensures.settled c.if-is_owed.false) in
    let at = head_at_hand c.args.continued c.args.held.now ready in
    let same = c.read_head.ensures.prompt at.0 at.1 at.2 in
    let whole = request_at_hand c.args.continued c.args.held.now ready (subst (λ (l : List ℕ). IsSettled c.args.continued l) same.1 settled) in
    c.read_body.ensures.prompt whole.0.body whole.1 (body_prompt held c.args.held.now headers h whole.0 whole.1 head same.1 whole.2) ∙ same.0

pub returns-in-Ok-Whole-clause-patient : goal.returns-in-Ok-Whole-clause-patient
returns-in-Ok-Whole-clause-patient g c =
    let held : List ℕ = c.read_head.new.held in
    let headers = c.read_head.new.headers in
    let h = c.in-Whole.head in
    let head : IsHead held headers h = subst (λ (f : Front). FrontIs held headers (g.S.Source.left c.read_head.new.source) f) c.in-Whole.is c.in_ok-head.ensures.front in
    let settled : IsSettled c.args.continued held = subst (λ (l : List ℕ). IsSettled c.args.continued l) c.front.ensures (c.is_owed.ensures.settled c.if-is_owed.false) in
    body_read_on g.S.Source.left g.S.Source.asked c.args.continued c.args.held.now held headers h c.args.source.now c.read_head.new.source c.read_body.new.source
    c.read_head.ensures.patient c.in_ok-head.ensures.same head settled c.read_body.ensures.patient

pub returns-in-Ok-Bad-clause-prompt : goal.returns-in-Ok-Bad-clause-prompt
returns-in-Ok-Bad-clause-prompt g c = λ ready.
    let held : List ℕ = c.read_head.new.held in
    let headers = c.read_head.new.headers in
    let h = c.in-Whole.head in
    let head : IsHead held headers h = subst (λ (f : Front). FrontIs held headers (g.S.Source.left c.read_head.new.source) f) c.in-Whole.is c.in_ok-head.ensures.front in
    let settled : IsSettled c.args.continued held = subst (λ (l : List ℕ). IsSettled c.args.continued l) c.front.ensures (c.is_owed.ensures.settled c.if-is_owed.false) in
    let at = head_at_hand c.args.continued c.args.held.now ready in
    let same = c.read_head.ensures.prompt at.0 at.1 at.2 in
    let whole = request_at_hand c.args.continued c.args.held.now ready (subst (λ (l : List ℕ). IsSettled c.args.continued l) same.1 settled) in
    c.read_body.ensures.prompt whole.0.body whole.1 (body_prompt held c.args.held.now headers h whole.0 whole.1 head same.1 whole.2) ∙ same.0

pub returns-in-Ok-Bad-clause-patient : goal.returns-in-Ok-Bad-clause-patient
returns-in-Ok-Bad-clause-patient g c =
    let held : List ℕ = c.read_head.new.held in
    let headers = c.read_head.new.headers in
    let h = c.in-Whole.head in
    let head : IsHead held headers h = subst (λ (f : Front). FrontIs held headers (g.S.Source.left c.read_head.new.source) f) c.in-Whole.is c.in_ok-head.ensures.front in
    let settled : IsSettled c.args.continued held = subst (λ (l : List ℕ). IsSettled c.args.continued l) c.front.ensures (c.is_owed.ensures.settled c.if-is_owed.false) in
    body_read_on g.S.Source.left g.S.Source.asked c.args.continued c.args.held.now held headers h c.args.source.now c.read_head.new.source c.read_body.new.source
    c.read_head.ensures.patient c.in_ok-head.ensures.same head settled c.read_body.ensures.patient

pub returns-in-Ok-Cut-clause-prompt : goal.returns-in-Ok-Cut-clause-prompt
returns-in-Ok-Cut-clause-prompt g c = λ ready.
    let held : List ℕ = c.read_head.new.held in
    let headers = c.read_head.new.headers in
    let h = c.in-Whole.head in
    let head : IsHead held headers h = subst (λ (f : Front). FrontIs held headers (g.S.Source.left c.read_head.new.source) f) c.in-Whole.is c.in_ok-head.ensures.front in
    let settled : IsSettled c.args.continued held = subst (λ (l : List ℕ). IsSettled c.args.continued l) c.front.ensures (c.is_owed.ensures.settled c.if-is_owed.false) in
    let at = head_at_hand c.args.continued c.args.held.now ready in
    let same = c.read_head.ensures.prompt at.0 at.1 at.2 in
    let whole = request_at_hand c.args.continued c.args.held.now ready (subst (λ (l : List ℕ). IsSettled c.args.continued l) same.1 settled) in
    c.read_body.ensures.prompt whole.0.body whole.1 (body_prompt held c.args.held.now headers h whole.0 whole.1 head same.1 whole.2) ∙ same.0

pub returns-in-Ok-Cut-clause-patient : goal.returns-in-Ok-Cut-clause-patient
returns-in-Ok-Cut-clause-patient g c =
    let held : List ℕ = c.read_head.new.held in
    let headers = c.read_head.new.headers in
    let h = c.in-Whole.head in
    let head : IsHead held headers h = subst (λ (f : Front). FrontIs held headers (g.S.Source.left c.read_head.new.source) f) c.in-Whole.is c.in_ok-head.ensures.front in
    let settled : IsSettled c.args.continued held = subst (λ (l : List ℕ). IsSettled c.args.continued l) c.front.ensures (c.is_owed.ensures.settled c.if-is_owed.false) in
    body_read_on g.S.Source.left g.S.Source.asked c.args.continued c.args.held.now held headers h c.args.source.now c.read_head.new.source c.read_body.new.source
    c.read_head.ensures.patient c.in_ok-head.ensures.same head settled c.read_body.ensures.patient

pub returns-in-Err-clause-prompt : goal.returns-in-Err-clause-prompt
returns-in-Err-clause-prompt g c = λ ready.
    let held : List ℕ = c.read_head.new.held in
    let headers = c.read_head.new.headers in
    let h = c.in-Whole.head in
    let head : IsHead held headers h = subst (λ (f : Front). FrontIs held headers (g.S.Source.left c.read_head.new.source) f) c.in-Whole.is c.in_ok-head.ensures.front in
    let settled : IsSettled c.args.continued held = subst (λ (l : List ℕ). IsSettled c.args.continued l) c.front.ensures (c.is_owed.ensures.settled c.if-is_owed.false) in
    let at = head_at_hand c.args.continued c.args.held.now ready in
    let same = c.read_head.ensures.prompt at.0 at.1 at.2 in
    let whole = request_at_hand c.args.continued c.args.held.now ready (subst (λ (l : List ℕ). IsSettled c.args.continued l) same.1 settled) in
    c.read_body.ensures.prompt whole.0.body whole.1 (body_prompt held c.args.held.now headers h whole.0 whole.1 head same.1 whole.2) ∙ same.0

pub returns-in-Err-clause-patient : goal.returns-in-Err-clause-patient
returns-in-Err-clause-patient g c =
    let held : List ℕ = c.read_head.new.held in
    let headers = c.read_head.new.headers in
    let h = c.in-Whole.head in
    let head : IsHead held headers h = subst (λ (f : Front). FrontIs held headers (g.S.Source.left c.read_head.new.source) f) c.in-Whole.is c.in_ok-head.ensures.front in
    let settled : IsSettled c.args.continued held = subst (λ (l : List ℕ). IsSettled c.args.continued l) c.front.ensures (c.is_owed.ensures.settled c.if-is_owed.false) in
    body_read_on g.S.Source.left g.S.Source.asked c.args.continued c.args.held.now held headers h c.args.source.now c.read_head.new.source c.read_body.new.source
    c.read_head.ensures.patient c.in_ok-head.ensures.same head settled c.read_body.ensures.patient

pub returns-in_err-head-clause-patient : goal.returns-in_err-head-clause-patient
returns-in_err-head-clause-patient g c = head_read g.S.Source.left g.S.Source.asked c.args.continued c.args.held.now c.args.source.now c.read_head.new.source c.read_head.ensures.patient

pub returns-in-Bad-clause-patient : goal.returns-in-Bad-clause-patient
returns-in-Bad-clause-patient g c = head_read g.S.Source.left g.S.Source.asked c.args.continued c.args.held.now c.args.source.now c.read_head.new.source c.read_head.ensures.patient

pub returns-in-Cut-clause-patient : goal.returns-in-Cut-clause-patient
returns-in-Cut-clause-patient g c = head_read g.S.Source.left g.S.Source.asked c.args.continued c.args.held.now c.args.source.now c.read_head.new.source c.read_head.ensures.patient

pub returns-in-End-clause-patient : goal.returns-in-End-clause-patient
returns-in-End-clause-patient g c = head_read g.S.Source.left g.S.Source.asked c.args.continued c.args.held.now c.args.source.now c.read_head.new.source c.read_head.ensures.patient

pub returns-in_err-request-clause-patient : goal.returns-in_err-request-clause-patient
returns-in_err-request-clause-patient g c = head_read g.S.Source.left g.S.Source.asked c.args.continued c.args.held.now c.args.source.now c.read_head.new.source c.read_head.ensures.patient

pub returns-in-Ok-Bad-clause-reads : goal.returns-in-Ok-Bad-clause-reads
returns-in-Ok-Bad-clause-reads g c =
    wanted_reads g.S.Source.faults g.S.Source.beside c.args.source.now c.read_body.new.source c.bad-in-Ok-Bad.result c.bad-in-Ok-Bad.ensures.fault
    (omega (arith, c.read_head.ensures.counts, c.read_body.ensures.counts))
    (g.met.S.Source.beside_later c.args.source.now c.read_head.new.source c.read_body.new.source c.read_head.ensures.beside c.read_body.ensures.beside)
