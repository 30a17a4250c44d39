use Rattle.std.proofs.Common.{rules, ◌≡◌, ◌≤◌, ◌+◌, ◌-◌, ◌∙◌, ap, length, take, drop, List, ℕ}
use Rattle.http_head.specs.declared.fields.Framing.TheVariants.{Length}
use Rattle.http_conn.specs.Body.{IsCutAt}
use Rattle.http_conn.proofs.BodyLemmas.{short_cut, length_held, length_whole}
use Rattle.http_conn.proofs.PatientLemmas.{read_weaker}
use Rattle.http_conn.proofs.body.read_length.Goals as goal

pub returns-in_err-fill_to-clause-prompt : goal.returns-in_err-fill_to-clause-prompt
returns-in_err-fill_to-clause-prompt g c = λ body rest is. c.fill_to.ensures.prompt (length_held c.args.held.now body rest c.args.place c.args.size c.requires.place is)

pub returns-in_err-fill_to-clause-patient : goal.returns-in_err-fill_to-clause-patient
returns-in_err-fill_to-clause-patient g c =
    read_weaker g.S.Source.left g.S.Source.asked c.args.held.now c.args.source.now c.fill_to.new.source _ (IsCutAt (Length c.args.size) c.args.place c.args.held.now) c.fill_to.ensures.patient
    (λ l short. short_cut c.args.held.now l c.args.place c.args.size c.requires.place short)

pub returns-then-not-branch-clause-prompt : goal.returns-then-not-branch-clause-prompt
returns-then-not-branch-clause-prompt g c = λ body rest is. c.fill_to.ensures.prompt (length_held c.args.held.now body rest c.args.place c.args.size c.requires.place is)

pub returns-then-not-branch-clause-patient : goal.returns-then-not-branch-clause-patient
returns-then-not-branch-clause-patient g c =
    read_weaker g.S.Source.left g.S.Source.asked c.args.held.now c.args.source.now c.fill_to.new.source _ (IsCutAt (Length c.args.size) c.args.place c.args.held.now) c.fill_to.ensures.patient
    (λ l short. short_cut c.args.held.now l c.args.place c.args.size c.requires.place short)

pub returns-in_err-body-clause-patient : goal.returns-in_err-body-clause-patient
returns-in_err-body-clause-patient g c =
    read_weaker g.S.Source.left g.S.Source.asked c.args.held.now c.args.source.now c.fill_to.new.source _ (IsCutAt (Length c.args.size) c.args.place c.args.held.now) c.fill_to.ensures.patient
    (λ l short. short_cut c.args.held.now l c.args.place c.args.size c.requires.place short)

pub returns-clause-found : goal.returns-clause-found
returns-clause-found g c =
    let held : List ℕ = c.fill_to.new.held in
    let enough : c.args.place + c.args.size ≤ length held = search rules in
    let body : c.in_ok-body.body ≡ take (c.args.place + c.args.size - c.args.place) (drop c.args.place held) =
    c.in_ok-body.ensures ∙ ap (λ (l : List ℕ). take (c.args.place + c.args.size - c.args.place) (drop c.args.place l)) c.front.ensures in
    (enough, length_whole held c.in_ok-body.body c.args.place c.args.size enough body)

pub returns-clause-patient : goal.returns-clause-patient
returns-clause-patient g c =
    read_weaker g.S.Source.left g.S.Source.asked c.args.held.now c.args.source.now c.fill_to.new.source _ (IsCutAt (Length c.args.size) c.args.place c.args.held.now) c.fill_to.ensures.patient
    (λ l short. short_cut c.args.held.now l c.args.place c.args.size c.requires.place short)
