use Rattle.std.proofs.Common.{◌∙◌, ◌<◌, ◌++◌, ℕ, List, length, ap, refl, append_assoc, arith}
use Rattle.std.proofs.lemmas.Grind.{common_steps}
use Rattle.http_conn.specs.Next.{IsShort}
use Rattle.http_conn.proofs.PatientLemmas.{never_read, read_more}
use Rattle.http_conn.proofs.body.fill_to.Goals as goal

pub loop-held-init : goal.loop-held-init
loop-held-init g c = record {
  same = grind (arith, common_steps);
  behind = grind (arith, common_steps);
  patient = never_read g.S.Source.left g.S.Source.asked c.args.held.now c.args.source.now c.args.source.now (IsShort c.args.held.now c.args.total) refl;
  prompt = λ whole. refl;
  faults = omega arith;
  beside = g.met.S.Source.beside_same c.args.source.now;
}

pub loop-held-preserved : goal.loop-held-preserved
loop-held-preserved g c =
    let was = c.loop-held.invariant in
    let read = c.in_ok-fill.ensures in
    let short : length c.loop-held.held < c.args.total = omega arith in
    let more : List ℕ = read.behind.0 in
    record {
      same = λ all is. read.same all (was.same all is);
      behind = (was.behind.0 ++ more, read.behind.1 ∙ ap (λ (l : List ℕ). l ++ more) was.behind.1 ∙ append_assoc c.args.held.now was.behind.0 more);
      patient =
          read_more g.S.Source.left g.S.Source.asked c.args.held.now c.loop-held.held c.args.source.now c.loop-held.source c.fill.new.source (IsShort c.args.held.now c.args.total) was.patient
          was.same c.fill.ensures.patient (was.behind, short);
      prompt = grind (arith, common_steps);
      faults = omega (arith, was.faults, read.counts);
      beside = g.met.S.Source.beside_later c.args.source.now c.loop-held.source c.fill.new.source was.beside read.beside;
    }

pub returns-in_err-fill-clause-patient : goal.returns-in_err-fill-clause-patient
returns-in_err-fill-clause-patient g c =
    let short : length c.loop-held.held < c.args.total = omega arith in
    read_more g.S.Source.left g.S.Source.asked c.args.held.now c.loop-held.held c.args.source.now c.loop-held.source c.fill.new.source (IsShort c.args.held.now c.args.total)
    c.loop-held.invariant.patient c.loop-held.invariant.same c.fill.ensures.patient (c.loop-held.invariant.behind, short)

pub returns-then-not-branch-clause-patient : goal.returns-then-not-branch-clause-patient
returns-then-not-branch-clause-patient g c =
    let short : length c.loop-held.held < c.args.total = omega arith in
    read_more g.S.Source.left g.S.Source.asked c.args.held.now c.loop-held.held c.args.source.now c.loop-held.source c.fill.new.source (IsShort c.args.held.now c.args.total)
    c.loop-held.invariant.patient c.loop-held.invariant.same c.fill.ensures.patient (c.loop-held.invariant.behind, short)

pub returns-in_err-make_room-clause-patient : goal.returns-in_err-make_room-clause-patient
returns-in_err-make_room-clause-patient g c = never_read g.S.Source.left g.S.Source.asked c.args.held.now c.args.source.now c.args.source.now (IsShort c.args.held.now c.args.total) refl
