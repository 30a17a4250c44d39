use Rattle.std.proofs.Common.{◌<◌, false, subst, List, ℕ, length, arith, refl, inl, inr}
use Rattle.http_conn.specs.Front.{FrontIs}
use Rattle.httparse.specs.Grammar.{HasNoRequest, MayBecomeRequest}
use Rattle.http_head.specs.Head.{max_head}
use Rattle.http_conn.specs.Next.{IsHeadless, NeedsMore}
use Rattle.http_conn.proofs.PatientLemmas.{never_read, head_read_on, unfinished_waits}
use Rattle.http_conn.proofs.PromptLemmas.{prompt_same, prompt_lost}
use Rattle.http_conn.proofs.connection.read_head.Goals as goal

pub returns-clause-front : goal.returns-clause-front
returns-clause-front g c =
    subst (λ (l : List ℕ). FrontIs l c.judge_full.new.headers (g.S.Source.left c.loop-held.source) c.judge_full.result) c.front-2.ensures
    (c.judge_full.ensures (g.S.Source.left c.loop-held.source))

pub returns-in-Whole-clause-prompt : goal.returns-in-Whole-clause-prompt
returns-in-Whole-clause-prompt g c = λ r rest is. prompt_same c.args.held.now c.loop-held.held c.args.source.now c.loop-held.source c.loop-held.invariant.prompt r rest is

pub returns-in-Refused-clause-prompt : goal.returns-in-Refused-clause-prompt
returns-in-Refused-clause-prompt g c = λ r rest is. prompt_same c.args.held.now c.loop-held.held c.args.source.now c.loop-held.source c.loop-held.invariant.prompt r rest is

pub returns-in-Lost-clause-prompt : goal.returns-in-Lost-clause-prompt
returns-in-Lost-clause-prompt g c = λ r rest is. prompt_same c.args.held.now c.loop-held.held c.args.source.now c.loop-held.source c.loop-held.invariant.prompt r rest is

pub returns-clause-prompt : goal.returns-clause-prompt
returns-clause-prompt g c = λ r rest is. prompt_same c.args.held.now c.loop-held.held c.args.source.now c.loop-held.source c.loop-held.invariant.prompt r rest is

pub returns-in-Ok-false-clause-prompt : goal.returns-in-Ok-false-clause-prompt
returns-in-Ok-false-clause-prompt g c = λ r rest is.
    let none : HasNoRequest c.loop-held.held = subst (λ (l : List ℕ). HasNoRequest l) c.front.ensures c.in-Unfinished.ensures.0 in
    absurd (prompt_lost c.args.held.now c.loop-held.held c.args.source.now c.loop-held.source c.loop-held.invariant.prompt none r rest is)

pub returns-in-Err-clause-prompt : goal.returns-in-Err-clause-prompt
returns-in-Err-clause-prompt g c = λ r rest is.
    let none : HasNoRequest c.loop-held.held = subst (λ (l : List ℕ). HasNoRequest l) c.front.ensures c.in-Unfinished.ensures.0 in
    absurd (prompt_lost c.args.held.now c.loop-held.held c.args.source.now c.loop-held.source c.loop-held.invariant.prompt none r rest is)

pub loop-held-init : goal.loop-held-init
loop-held-init g c = record {
  same = λ all is. is;
  patient = never_read g.S.Source.left g.S.Source.asked c.args.held.now c.args.source.now c.args.source.now (NeedsMore false) refl;
  prompt = inr (refl, refl);
  faults = omega arith;
  beside = g.met.S.Source.beside_same c.args.source.now;
}

pub loop-held-preserved : goal.loop-held-preserved
loop-held-preserved g c =
    let was = c.loop-held.invariant in
    let read = c.in-Ok-true.ensures in
    let none : HasNoRequest c.loop-held.held = subst (λ (l : List ℕ). HasNoRequest l) c.front.ensures c.in-Unfinished.ensures.0 in
    let may : MayBecomeRequest c.loop-held.held = subst (λ (l : List ℕ). MayBecomeRequest l) c.front.ensures c.in-Unfinished.ensures.1 in
    let short : length c.loop-held.held < max_head = omega arith in
    let waits : IsHeadless c.loop-held.held = unfinished_waits c.loop-held.held none may short in
    record {
      same = λ all is. read.same all (was.same all is);
      patient =
          head_read_on g.S.Source.left g.S.Source.asked c.args.held.now c.loop-held.held c.args.source.now c.loop-held.source c.fill_line.new.source was.patient was.same c.fill_line.ensures.patient
          waits;
      prompt = inl (λ r rest is. prompt_lost c.args.held.now c.loop-held.held c.args.source.now c.loop-held.source was.prompt none r rest is);
      faults = omega (arith, was.faults, read.counts);
      beside = g.met.S.Source.beside_later c.args.source.now c.loop-held.source c.fill_line.new.source was.beside read.beside;
    }

pub returns-in-Ok-false-clause-patient : goal.returns-in-Ok-false-clause-patient
returns-in-Ok-false-clause-patient g c =
    let none : HasNoRequest c.loop-held.held = subst (λ (l : List ℕ). HasNoRequest l) c.front.ensures c.in-Unfinished.ensures.0 in
    let may : MayBecomeRequest c.loop-held.held = subst (λ (l : List ℕ). MayBecomeRequest l) c.front.ensures c.in-Unfinished.ensures.1 in
    let short : length c.loop-held.held < max_head = omega arith in
    let waits : IsHeadless c.loop-held.held = unfinished_waits c.loop-held.held none may short in
    head_read_on g.S.Source.left g.S.Source.asked c.args.held.now c.loop-held.held c.args.source.now c.loop-held.source c.fill_line.new.source
    c.loop-held.invariant.patient c.loop-held.invariant.same c.fill_line.ensures.patient waits

pub returns-in-Err-clause-patient : goal.returns-in-Err-clause-patient
returns-in-Err-clause-patient g c =
    let none : HasNoRequest c.loop-held.held = subst (λ (l : List ℕ). HasNoRequest l) c.front.ensures c.in-Unfinished.ensures.0 in
    let may : MayBecomeRequest c.loop-held.held = subst (λ (l : List ℕ). MayBecomeRequest l) c.front.ensures c.in-Unfinished.ensures.1 in
    let short : length c.loop-held.held < max_head = omega arith in
    let waits : IsHeadless c.loop-held.held = unfinished_waits c.loop-held.held none may short in
    head_read_on g.S.Source.left g.S.Source.asked c.args.held.now c.loop-held.held c.args.source.now c.loop-held.source c.fill_line.new.source
    c.loop-held.invariant.patient c.loop-held.invariant.same c.fill_line.ensures.patient waits
