-- Requests are answered by one run of the model, one request after another.
use Rattle.std.proofs.Common.{◌≡◌, ℕ, List, [], ◌∷◌, ◌++◌, length, refl, ap, sym, subst, ◌∙◌, arith, append_assoc, append-nil, inl, inr}
use Rattle.std.specs.Prelude.{⊤}
use Rattle.gate_io.specs.Clocks.{Hand}
use Rattle.model.specs.state.Entry.{Call, Entry}
use Rattle.model.specs.history.Legal.{Run}
use Rattle.model.proofs.Stretches.{histories_cut, stretch_law}
use Rattle.model.proofs.Stored.{stored_is_shown}
use Rattle.model.proofs.Added.{run_adds}
use Rattle.broker_link.specs.Stands.{Stand}
use Rattle.desk.specs.Step.{no_expiry}
use Rattle.desk.specs.Runs.{State, Runs}
use Rattle.desk.specs.declared.alone_desk.AloneDesk.{AloneDesk}
use Rattle.desk.proofs.Looking.{runs_none, runs_on}
use Rattle.rest_codes.specs.declared.response.Reply.{Reply}
use Rattle.http_conn.specs.declared.request.Request.{Request}
use Rattle.proxy_cli.specs.Served.{AnswersAll, AnswersOne, Answering, Exchanges, ExchangesAll, Gateway, gateway_of, IsCalled}
use Rattle.proxy_cli.proofs.Progress.{GoesOnBy}

served_more : {S E : Type 0} (one : S → S → Request → Reply → List E → Type 0) (s m t : S) (rs : List Request) (ps : List Reply) (es own : List E) (r : Request) (p : Reply) → length ps ≡ length rs
    → AnswersAll one s m rs ps es → one m t r p own → AnswersAll one s t (rs ++ r ∷ []) (ps ++ p ∷ []) (es ++ own)
served_more {S} {E} one s m t [] [] es own r p same served is =
    (t, own, [], ap (λ l. l ++ own) served.0 ∙ sym (append-nil own), subst (λ (x : S). one x t r p own) served.1 is, (refl, refl))
served_more one s m t [] (x ∷ ps) es own r p same served is = absurd served
served_more one s m t (q ∷ rs) [] es own r p same served is = absurd served
served_more one s m t (q ∷ rs) (x ∷ ps) es own r p same (n, mine, others, whole, first, rest) is =
    (n, mine, others ++ own, ap (λ l. l ++ own) whole ∙ append_assoc mine others own, first, served_more one n m t rs ps others own r p (omega (arith, same)) rest is)

all_so : {S E : Type 0} (one two : S → S → Request → Reply → List E → Type 0) → ((s t : S) (r : Request) (p : Reply) (own : List E) → one s t r p own → two s t r p own)
    → (s t : S) (rs : List Request) (ps : List Reply) (es : List E) → AnswersAll one s t rs ps es → AnswersAll two s t rs ps es
all_so one two each s t [] [] es served = served
all_so one two each s t [] (p ∷ ps) es served = absurd served
all_so one two each s t (r ∷ rs) [] es served = absurd served
all_so one two each s t (r ∷ rs) (p ∷ ps) es (m, own, others, whole, first, rest) = (m, own, others, whole, each s m r p own first, all_so one two each m t rs ps others rest)

-- ---- what is known of a link that is plain, and of a clock that tells, when a turn begins

plainer_runs : (idle caller : ℕ) (plain plain2 ticks ticks2 : Type 0) (s t : State) (own : List Entry) → (plain → plain2) → (ticks → ticks2) → Runs idle caller plain2 ticks2 s own t → Runs idle caller plain ticks s own t
plainer_runs idle caller plain plain2 ticks ticks2 s t own still ticking runs = record {
  owed = runs.owed;
  run = runs.run;
  kept = runs.kept;
  paid = runs.paid;
  there = runs.there;
  shows = runs.shows;
  callers = runs.callers;
  clocked = λ is. runs.clocked (ticking is);
  good = λ is there. runs.good (still is) there;
  alone = λ is. runs.alone (still is);
}

plainer_called : (idle caller : ℕ) (plain plain2 ticks ticks2 : Type 0) (advertise : List ℕ) (s t : Gateway) (call : Call) (r : Reply) → (plain → plain2) → (ticks → ticks2)
    → IsCalled idle caller plain2 ticks2 advertise s t call r → IsCalled idle caller plain ticks advertise s t call r
plainer_called idle caller plain plain2 ticks ticks2 advertise s t call r still ticking called = record {
  said = called.said;
  answered = record { own = called.answered.own; runs = plainer_runs idle caller plain plain2 ticks ticks2 s.state t.state called.answered.own still ticking called.answered.runs; answer = called.answered.answer; serves = called.answered.serves; says = called.answered.says; counted = called.answered.counted };
  replied = called.replied;
  named = called.named;
}

plainer_one : (idle caller : ℕ) (plain plain2 ticks ticks2 : Type 0) (advertise : List ℕ) → (plain → plain2) → (ticks → ticks2) → (s t : Gateway) (request : Request) (r : Reply) (own : List Entry)
    → AnswersOne idle caller plain2 ticks2 advertise s t request r own → AnswersOne idle caller plain ticks advertise s t request r own
unfolding plainer_called
plainer_one idle caller plain plain2 ticks ticks2 advertise still ticking s t request r own (inl refused) = inl refused
plainer_one idle caller plain plain2 ticks ticks2 advertise still ticking s t request r own (inr (call, reading, inl starved)) = inr (call, reading, inl starved)
plainer_one idle caller plain plain2 ticks ticks2 advertise still ticking s t request r own (inr (call, reading, inr (called, whole))) =
    inr (call, reading, inr (plainer_called idle caller plain plain2 ticks ticks2 advertise s t call r still ticking called, whole))

-- what the entries of one request lead to
one_runs : (idle caller : ℕ) (plain ticks : Type 0) (advertise : List ℕ) (s t : Gateway) (request : Request) (r : Reply) (own : List Entry)
    → AnswersOne idle caller plain ticks advertise s t request r own → Runs idle caller plain ticks s.state own t.state
one_runs idle caller plain ticks advertise s t request r own (inl (refused, none, still)) =
    subst (λ (es : List Entry). Runs idle caller plain ticks s.state es t.state) (sym none) (subst (λ (x : Gateway). Runs idle caller plain ticks s.state [] x.state) (sym still) (runs_none idle caller plain ticks s.state))
one_runs idle caller plain ticks advertise s t request r own (inr (call, reading, inl (starved, none))) =
    subst (λ (es : List Entry). Runs idle caller plain ticks s.state es t.state) (sym none) (subst (λ (x : State). Runs idle caller plain ticks s.state [] x) (sym starved.same) (runs_none idle caller plain ticks s.state))
one_runs idle caller plain ticks advertise s t request r own (inr (call, reading, inr (called, whole))) =
    subst (λ (es : List Entry). Runs idle caller plain ticks s.state es t.state) (sym whole) called.answered.runs

-- ---- a run answers requests

-- what holds of any run holds of the one by which these requests were answered
pub answering_of : (idle caller : ℕ) (plain ticks : Type 0) (advertise : List ℕ) (s t : Gateway) (requests : List Request) (replies : List Reply) (history : List Entry)
    → Runs idle caller plain ticks s.state history t.state → AnswersAll (AnswersOne idle caller plain ticks advertise) s t requests replies history → Answering idle caller plain ticks advertise s t requests replies
answering_of idle caller plain ticks advertise s t requests replies history runs served = record {
  history = history;
  runs = runs;
  served = served;
  stretches = λ before e entries after is.
      let cut = histories_cut idle a.world a.log before e entries after b.log b.world runs.owed (subst (λ (es : List Entry). Run idle a.world a.log es b.log b.world runs.owed) is runs.run) in
      (cut, stretch_law idle a.world a.log before e entries after b.log b.world cut);
  shown = λ before e between f after is.
      stored_is_shown idle a.world a.log before e between f after b.log b.world runs.owed (subst (λ (es : List Entry). Run idle a.world a.log es b.log b.world runs.owed) is runs.run);
  gained = λ known. run_adds idle a.world a.log history b.log b.world runs.owed runs.run known;
}
  where
    a : State
    a = s.state

    b : State
    b = t.state

-- no request was answered yet
pub answering_none : (idle caller : ℕ) (plain ticks : Type 0) (advertise : List ℕ) (s : Gateway) → Answering idle caller plain ticks advertise s s [] []
answering_none idle caller plain ticks advertise s = answering_of idle caller plain ticks advertise s s [] [] [] (runs_none idle caller plain ticks s.state) (refl, refl)

-- one request more, over a link that is plain if it was when the first one came
answering_more : (idle caller : ℕ) (plain plain2 ticks ticks2 : Type 0) (advertise : List ℕ) (s m t : Gateway) → (plain → plain2) → (ticks → ticks2) → (rs : List Request) (ps : List Reply) (r : Request) (p : Reply) (own : List Entry)
    → length ps ≡ length rs → Answering idle caller plain ticks advertise s m rs ps → AnswersOne idle caller plain2 ticks2 advertise m t r p own → Answering idle caller plain ticks advertise s t (rs ++ r ∷ []) (ps ++ p ∷ [])
answering_more idle caller plain plain2 ticks ticks2 advertise s m t still ticking rs ps r p own same so_far one =
    answering_of idle caller plain ticks advertise s t (rs ++ r ∷ []) (ps ++ p ∷ []) (so_far.history ++ own)
    (runs_on idle caller plain plain2 ticks ticks2 s.state m.state t.state so_far.history own still ticking so_far.runs (one_runs idle caller plain2 ticks2 advertise m t r p own one))
    (served_more (AnswersOne idle caller plain ticks advertise) s m t rs ps so_far.history own r p same so_far.served (plainer_one idle caller plain plain2 ticks ticks2 advertise still ticking m t r p own one))

-- ---- the same of a desk and a clock

module _ {L C : Type 0} (stand : L → Stand) (ticks : C → Type 0) (hand : C → Hand) where
  pub exchanges_none : (desk : AloneDesk L) (clock : C) → ExchangesAll stand ticks hand desk clock desk clock [] []
  exchanges_none desk clock = answering_none no_expiry 0 _ _ desk.shard.advertise _

  pub exchanges_more : (desk desk2 desk3 : AloneDesk L) (clock clock2 clock3 : C) → desk2.shard.advertise ≡ desk.shard.advertise
      → ((stand desk.shard.link).plain → (stand desk2.shard.link).plain) → (ticks clock → ticks clock2)
      → GoesOnBy (ExchangesAll stand ticks hand desk clock desk2 clock2) (Exchanges stand ticks hand desk2 clock2 desk3 clock3) (ExchangesAll stand ticks hand desk clock desk3 clock3)
  exchanges_more desk desk2 desk3 clock clock2 clock3 same still ticking qs rs q r pairs so_far one =
      answering_more no_expiry 0 (stand desk.shard.link).plain (stand desk2.shard.link).plain (ticks clock) (ticks clock2) desk.shard.advertise (gateway_of stand desk (hand clock)) (gateway_of stand desk2 (hand clock2)) (gateway_of stand desk3 (hand clock3)) still ticking qs rs q r one.0 pairs so_far
      (subst (λ (a : List ℕ). AnswersOne no_expiry 0 (stand desk2.shard.link).plain (ticks clock2) a (gateway_of stand desk2 (hand clock2)) (gateway_of stand desk3 (hand clock3)) q r one.0) same one.1)

  pub exchanges_same : (desk desk2 desk3 : AloneDesk L) (clock clock2 clock3 : C) → desk3 ≡ desk2 → clock3 ≡ clock2 → (qs : List Request) (rs : List Reply)
      → ExchangesAll stand ticks hand desk clock desk2 clock2 qs rs → ExchangesAll stand ticks hand desk clock desk3 clock3 qs rs
  exchanges_same desk desk2 desk3 clock clock2 clock3 same still qs rs so_far =
      subst (λ (d : AloneDesk L). ExchangesAll stand ticks hand desk clock d clock3 qs rs) (sym same) (subst (λ (k : C). ExchangesAll stand ticks hand desk clock desk2 k qs rs) (sym still) so_far)

-- ---- over a link that is plain no failure is answered

pub answering_plainly : (idle caller : ℕ) (P : Type 0) → P → (ticks : Type 0) (advertise : List ℕ) (s t : Gateway) (qs : List Request) (rs : List Reply)
    → Answering idle caller P ticks advertise s t qs rs → Answering idle caller ⊤ ticks advertise s t qs rs
answering_plainly idle caller P p ticks advertise s t qs rs x =
    answering_of idle caller ⊤ ticks advertise s t qs rs x.history (plainer_runs idle caller ⊤ P ticks ticks s.state t.state x.history (λ is. p) (λ is. is) x.runs)
    (all_so (AnswersOne idle caller P ticks advertise) (AnswersOne idle caller ⊤ ticks advertise) (plainer_one idle caller ⊤ P ticks ticks advertise (λ is. p) (λ is. is)) s t qs rs x.history x.served)

-- the same from another name of the same gateway
pub session_answers : (P : Type 0) → P → (ticks : Type 0) (a b : List ℕ) (s s2 t : Gateway) → a ≡ b → s ≡ s2 → (qs : List Request) (rs : List Reply)
    → Answering no_expiry 0 P ticks a s t qs rs → Answering no_expiry 0 ⊤ ticks b s2 t qs rs
session_answers P p ticks a b s s2 t same still qs rs x =
    subst (λ (n : List ℕ). Answering no_expiry 0 ⊤ ticks n s2 t qs rs) same (subst (λ (y : Gateway). Answering no_expiry 0 ⊤ ticks a y t qs rs) still (answering_plainly no_expiry 0 P p ticks a s t qs rs x))
