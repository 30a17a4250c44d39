use Rattle.std.proofs.Common.{◌∙◌, ◌<◌, length, sym, refl, rules, arith, inl}
use Rattle.std.proofs.lemmas.Grind.{common_steps}
use Rattle.http_conn.specs.Next.{IsInHead}
use Rattle.http_head.specs.Head.{max_head}
use Rattle.http_conn.proofs.PatientLemmas.{never_read, read_more, line_starts, line_goes_on}
use Rattle.http_conn.proofs.connection.fill_line.Goals as goal

pub loop-held-init : goal.loop-held-init
loop-held-init g c = record {
  same = λ all is. is;
  start = search rules;
  seen = search rules;
  line = line_starts c.args.held.now;
  patient = never_read g.S.Source.left g.S.Source.asked c.args.held.now c.args.source.now c.args.source.now (IsInHead c.args.held.now) refl;
  grown = inl refl;
  faults = omega arith;
  beside = g.met.S.Source.beside_same c.args.source.now;
}

pub loop-held-preserved : goal.loop-held-preserved
loop-held-preserved g c =
    let was = c.loop-held.invariant in
    let read = c.in_ok-fill.ensures in
    let short : length c.loop-held.held < max_head = omega arith in
    record {
      same = λ all is. read.same all (was.same all is);
      start = was.start;
      seen = search rules;
      line = line_goes_on c.args.held.now c.loop-held.held c.fill.new.self c.loop-held.seen was.line read.behind was.seen (sym c.is_line_ended.ensures ∙ c.if-is_line_ended.false);
      patient =
          read_more g.S.Source.left g.S.Source.asked c.args.held.now c.loop-held.held c.args.source.now c.loop-held.source c.fill.new.source (IsInHead c.args.held.now) was.patient was.same
          c.fill.ensures.patient (was.line, short);
      grown = grind (arith, common_steps);
      faults = omega (arith, was.faults, read.counts);
      beside = g.met.S.Source.beside_later c.args.source.now c.loop-held.source c.fill.new.source was.beside read.beside;
    }

pub returns-in_err-fill-clause-patient : goal.returns-in_err-fill-clause-patient
returns-in_err-fill-clause-patient g c =
    let short : length c.loop-held.held < max_head = omega arith in
    read_more g.S.Source.left g.S.Source.asked c.args.held.now c.loop-held.held c.args.source.now c.loop-held.source c.fill.new.source (IsInHead c.args.held.now)
    c.loop-held.invariant.patient c.loop-held.invariant.same c.fill.ensures.patient (c.loop-held.invariant.line, short)

pub returns-then-not-branch-clause-patient : goal.returns-then-not-branch-clause-patient
returns-then-not-branch-clause-patient g c =
    let short : length c.loop-held.held < max_head = omega arith in
    read_more g.S.Source.left g.S.Source.asked c.args.held.now c.loop-held.held c.args.source.now c.loop-held.source c.fill.new.source (IsInHead c.args.held.now)
    c.loop-held.invariant.patient c.loop-held.invariant.same c.fill.ensures.patient (c.loop-held.invariant.line, short)

pub returns-then-is_line_ended-clause-patient : goal.returns-then-is_line_ended-clause-patient
returns-then-is_line_ended-clause-patient g c =
    let short : length c.loop-held.held < max_head = omega arith in
    read_more g.S.Source.left g.S.Source.asked c.args.held.now c.loop-held.held c.args.source.now c.loop-held.source c.fill.new.source (IsInHead c.args.held.now)
    c.loop-held.invariant.patient c.loop-held.invariant.same c.fill.ensures.patient (c.loop-held.invariant.line, short)
