use Rattle.std.proofs.Common.{rules, ◌≡◌, ◌∙◌, true, ap, Ok, Err, arith, refl, drop, inl, inr, sym, subst, List, ℕ}
use Rattle.http_conn.specs.declared.request.ConnNo.TheVariants.{ReadFault}
use Rattle.body_read.specs.Found.{is_cut_part}
use Rattle.http_conn.specs.Body.{EndsInPart, PartFound}
use Rattle.http_conn.proofs.PatientLemmas.{never_read, read_more}
use Rattle.http_conn.proofs.BodyLemmas.{behind_same, behind_more, behind_long, part_is_cut, cut_found, prompt_more}
use Rattle.http_conn.proofs.body.fill_part.Goals as goal

pub loop-held-init : goal.loop-held-init
loop-held-init g c = record {
  same = λ all is. is;
  behind = behind_same c.args.held.now;
  fits = c.requires.place;
  part = c.part_at-part.ensures;
  patient = never_read g.S.Source.left g.S.Source.asked c.args.held.now c.args.source.now c.args.source.now (EndsInPart c.args.sum c.args.place c.args.held.now) refl;
  prompt = inr (refl, refl);
  faults = omega arith;
  beside = g.met.S.Source.beside_same c.args.source.now;
}

pub loop-held-preserved : goal.loop-held-preserved
loop-held-preserved g c =
    let was = c.loop-held.invariant in
    let read = c.in-Ok-true.ensures in
    let is : is_cut_part c.loop-held.part ≡ true = search rules in
    let cut = part_is_cut c.args.sum (drop c.args.place c.loop-held.held) c.loop-held.part is was.part in
    record {
      same = λ all comes. read.same all (was.same all comes);
      behind = behind_more c.args.held.now c.loop-held.held c.fill.new.self was.behind read.behind;
      fits = omega (arith, was.fits, behind_long c.loop-held.held c.fill.new.self read.behind);
      part = c.part_at-part-in-loop-held.ensures;
      patient =
          read_more g.S.Source.left g.S.Source.asked c.args.held.now c.loop-held.held c.args.source.now c.loop-held.source c.fill.new.source (EndsInPart c.args.sum c.args.place c.args.held.now)
          was.patient was.same c.fill.ensures.patient (was.behind, cut.0);
      prompt = inl (prompt_more c.args.sum c.args.place c.args.held.now c.loop-held.held c.args.source.now c.loop-held.source was.prompt cut.0);
      faults = omega (arith, was.faults, read.counts);
      beside = g.met.S.Source.beside_later c.args.source.now c.loop-held.source c.fill.new.source was.beside read.beside;
    }

pub returns-in-Err-clause-patient : goal.returns-in-Err-clause-patient
returns-in-Err-clause-patient g c =
    let was = c.loop-held.invariant in
    let is : is_cut_part c.loop-held.part ≡ true = search rules in
    let cut = part_is_cut c.args.sum (drop c.args.place c.loop-held.held) c.loop-held.part is was.part in
    read_more g.S.Source.left g.S.Source.asked c.args.held.now c.loop-held.held c.args.source.now c.loop-held.source c.fill.new.source (EndsInPart c.args.sum c.args.place c.args.held.now)
    was.patient was.same c.fill.ensures.patient (was.behind, cut.0)

pub returns-in-Ok-false-clause-patient : goal.returns-in-Ok-false-clause-patient
returns-in-Ok-false-clause-patient g c =
    let was = c.loop-held.invariant in
    let is : is_cut_part c.loop-held.part ≡ true = search rules in
    let cut = part_is_cut c.args.sum (drop c.args.place c.loop-held.held) c.loop-held.part is was.part in
    read_more g.S.Source.left g.S.Source.asked c.args.held.now c.loop-held.held c.args.source.now c.loop-held.source c.fill.new.source (EndsInPart c.args.sum c.args.place c.args.held.now)
    was.patient was.same c.fill.ensures.patient (was.behind, cut.0)

pub returns-in-Err-clause-lost : goal.returns-in-Err-clause-lost
returns-in-Err-clause-lost g c = λ failed.
    let no : c.in-Err.no ≡ ReadFault = cc in
    let was = c.loop-held.invariant in
    let is : is_cut_part c.loop-held.part ≡ true = search rules in
    let cut = part_is_cut c.args.sum (drop c.args.place c.loop-held.held) c.loop-held.part is was.part in
    let lost = c.fill.ensures.lost (c.in-Err.is ∙ ap (λ e. Err e) no) in
    let here : EndsInPart c.args.sum c.args.place c.args.held.now c.fill.new.self =
    subst (λ (l : List ℕ). EndsInPart c.args.sum c.args.place c.args.held.now l) (sym lost.0) (was.behind, cut.0) in
    (here, λ all comes. lost.1 all (was.same all comes))

pub returns-in-Ok-false-clause-part : goal.returns-in-Ok-false-clause-part
returns-in-Ok-false-clause-part g c =
    let was = c.loop-held.invariant in
    let is : is_cut_part c.loop-held.part ≡ true = search rules in
    let end = c.fill.ensures.end (c.in-Ok-false.is ∙ ap (λ b. Ok b) c.in-Ok-false.field-0-test) in
    subst (λ (l : List ℕ). PartFound c.args.sum (drop c.args.place l) (g.S.Source.left c.fill.new.source) c.loop-held.part) (sym end.0)
    (cut_found c.args.sum (drop c.args.place c.loop-held.held) (g.S.Source.left c.fill.new.source) c.loop-held.part is was.part end.1)
