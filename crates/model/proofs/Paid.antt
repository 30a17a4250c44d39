-- The answers of a run are no more than its tally, and so than the counts of a link that pay it.
use Rattle.std.proofs.Common.{◌≡◌, ℕ, ◌+◌, ◌≤◌, Bool, true, false, cond, List, [], ◌∷◌, refl, ap, ◌∙◌, arith}
use Rattle.std.specs.List.{count_by}
use Rattle.std.proofs.lemmas.List.Sums.{sum_by-cons}
use Rattle.model.specs.state.Log.{Log}
use Rattle.model.specs.state.World.{World}
use Rattle.model.specs.state.Entry.{Entry}
use Rattle.model.specs.history.Legal.{Tally, Run, Counts, Legal, is_fault, is_refusal, entry_tally, one_if}

record IsCounted (entries : List Entry) (n : Tally) : Type 0 where
  pub faults : count_by (λ (e : Entry). is_fault e.reply) entries ≤ n.faults
  pub refusals : count_by (λ (e : Entry). is_refusal e.reply) entries ≤ n.refusals

counted_one : (p : Entry → Bool) (e : Entry) (entries : List Entry) → count_by p (e ∷ entries) ≡ one_if (p e) + count_by p entries
counted_one p e entries = sum_by-cons (λ (x : Entry). cond (p x) 1 0) e entries ∙ ap (λ n. n + count_by p entries) (one (p e))
  where
    one : (b : Bool) → cond b 1 0 ≡ one_if b
    one true = refl
    one false = refl

counted : (idle : ℕ) (w : World) (a : Log) (entries : List Entry) (b : Log) (w2 : World) (n : Tally) → Run idle w a entries b w2 n → IsCounted entries n
counted idle w a [] b w2 n run = record { faults = omega arith; refusals = omega arith }
counted idle w a (e ∷ entries) b w2 n run =
    let k : Tally = run.3.0 in
    let rest : IsCounted entries k = counted idle run.1 run.0 entries b w2 k run.3.2 in
    let owed : Tally = entry_tally w e in
    record {
      faults = omega (arith, rest.faults, counted_one (λ (x : Entry). is_fault x.reply) e entries, ap (λ (t : Tally). t.faults) run.3.1);
      refusals = omega (arith, rest.refusals, counted_one (λ (x : Entry). is_refusal x.reply) e entries, ap (λ (t : Tally). t.refusals) run.3.1);
    }

pub faults_are_paid : (idle : ℕ) (counts : Counts) (history : List Entry) (w : World) (l : Log) → Legal idle counts history w l → count_by (λ (e : Entry). is_fault e.reply) history ≤ counts.faults
faults_are_paid idle counts history w l legal = let c = counted idle _ _ history l w legal.tally legal.run in let p = legal.paid in omega (arith, c.faults, p.faults_paid)

pub refusals_are_paid : (idle : ℕ) (counts : Counts) (history : List Entry) (w : World) (l : Log) → Legal idle counts history w l → count_by (λ (e : Entry). is_refusal e.reply) history ≤ counts.refusals
refusals_are_paid idle counts history w l legal = let c = counted idle _ _ history l w legal.tally legal.run in let p = legal.paid in omega (arith, c.refusals, p.refusals_paid)
