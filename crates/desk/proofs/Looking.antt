-- Entries one after another, and the looks of one call.
use Rattle.std.proofs.Common.{◌≡◌, ℕ, ◌+◌, ◌≤◌, List, [], ◌∷◌, ◌++◌, refl, ap, sym, ◌∙◌, subst, arith, Option, Some, None}
use Rattle.std.proofs.lemmas.List.Elements.{All-nil, All-append}
use Rattle.gate_io.specs.Clocks.{Hand}
use Rattle.gate_io.specs.Counts.{Rose}
use Rattle.model.specs.state.Log.{Log}
use Rattle.model.specs.state.World.{World}
use Rattle.model.specs.state.Entry.{Call, Entry, Reply}
use Rattle.model.specs.history.Legal.{Tally, Run, no_tally, plus}
use Rattle.model.specs.history.Served.{EndsIn, Waits}
use Rattle.model.specs.history.Noted.{IsTable, said_of}
use Rattle.model.specs.texts.Texts.{Response, response_of}
use Rattle.model.proofs.Stretches.{run_after}
use Rattle.broker_link.specs.Causes.{Counts}
use Rattle.broker_link.specs.Replies.{CountsKept, IsCounted, IsCountedIf, IsGoodIf}
use Rattle.rest_replies.specs.Forms.{shown}
use Rattle.desk.specs.Step.{AreLow}
use Rattle.desk.specs.Clocked.{IsClocked, after_turn, behind}
use Rattle.desk.specs.Runs.{State, Pays, Runs, IsTurn, IsAnswered}

kept_on : (c d e : Counts) → CountsKept c d → CountsKept d e → CountsKept c e
kept_on c d e h k = record { faults_kept = omega arith; refusals_kept = omega arith; sent_kept = omega arith; polls_kept = omega arith; beats_kept = omega arith }

clocked_on : (idle : ℕ) (h h1 h2 : Hand) (xs ys : List Entry) (w : World) (a b : Log) (w1 : World) (n : Tally) → Run idle w a xs b w1 n → IsClocked h (behind w.last xs) h1 → IsClocked h1 (behind w1.last ys) h2 → IsClocked h (behind w.last (xs ++ ys)) h2
clocked_on idle h h1 h2 [] ys w a b w1 n run one two = subst (λ (k : Hand). IsClocked k (behind w.last ys) h2) one (subst (λ (v : World). IsClocked h1 (behind v.last ys) h2) run.1 two)
clocked_on idle h h1 h2 (e ∷ xs) ys w a b w1 n (m, v, step, more) one two = (
  one.0,
  subst (λ (last : ℕ). IsClocked (after_turn h e) (behind last (xs ++ ys)) h2) step.last
      (clocked_on idle (after_turn h e) h1 h2 xs ys v m b w1 more.0 more.2 (subst (λ (last : ℕ). IsClocked (after_turn h e) (behind last xs) h1) (sym step.last) one.1) two),
)

pays_on : (c d e : Counts) (n m : Tally) → CountsKept d e → Pays c d n → Pays d e m → Pays c e (plus n m)
pays_on c d e n m kept h k = record {
  faults_paid = (let x = h.faults_paid in let y = k.faults_paid in omega (arith, x, y));
  refusals_paid = (let x = h.refusals_paid in let y = k.refusals_paid in omega (arith, x, y));
  short_none = (let x = h.short_none in let y = k.short_none in omega (arith, x, y));
  placed_none = (let x = h.placed_none in let y = k.placed_none in omega (arith, x, y));
  looks_none = (let x = h.looks_none in let y = k.looks_none in omega (arith, x, y));
}

low_before : (d e : Counts) → CountsKept d e → AreLow e → AreLow d
low_before d e kept low = record { faults_low = (let x = kept.faults_kept in let y = low.faults_low in omega (arith, x, y)); refusals_low = (let x = kept.refusals_kept in let y = low.refusals_low in omega (arith, x, y)) }

rose_on : (a b c : ℕ) → a ≤ b → Rose b c → Rose a c
rose_on a b c le rose = omega (arith, le, rose)

-- what was counted in the last of several steps was counted in all of them
counted_on : (c d e : Counts) (reply : Reply) → CountsKept c d → IsCounted d e reply → IsCounted c e reply
counted_on c d e reply kept counted = record {
  faults_kept = omega (arith, kept.faults_kept, counted.faults_kept);
  refusals_kept = omega (arith, kept.refusals_kept, counted.refusals_kept);
  sent_kept = omega (arith, kept.sent_kept, counted.sent_kept);
  polls_kept = omega (arith, kept.polls_kept, counted.polls_kept);
  beats_kept = omega (arith, kept.beats_kept, counted.beats_kept);
  fault = λ is. rose_on c.faults d.faults e.faults kept.faults_kept (counted.fault is);
  refusal = λ is. rose_on c.refusals d.refusals e.refusals kept.refusals_kept (counted.refusal is);
  code = counted.code;
}

-- some entries and then some more
pub runs_on : (idle caller : ℕ) (plain plain2 ticks ticks2 : Type 0) (s m t : State) (xs ys : List Entry) → (plain → plain2) → (ticks → ticks2) → Runs idle caller plain ticks s xs m → Runs idle caller plain2 ticks2 m ys t → Runs idle caller plain ticks s (xs ++ ys) t
runs_on idle caller plain plain2 ticks ticks2 s m t xs ys still ticking h k = record {
  owed = plus h.owed k.owed;
  run = run_after idle s.world s.log xs m.log m.world h.owed ys t.log t.world k.owed h.run k.run;
  kept = kept_on s.counts m.counts t.counts h.kept k.kept;
  paid = λ low. pays_on s.counts m.counts t.counts h.owed k.owed k.kept (h.paid (low_before m.counts t.counts k.kept low)) (k.paid low);
  clocked = λ is. clocked_on idle s.hand m.hand t.hand xs ys s.world s.log m.log m.world h.owed h.run (h.clocked is) (k.clocked (ticking is));
  there = λ there. k.there (h.there there);
  good = λ is there. All-append (λ (e : Entry). IsGoodIf e.reply) xs ys (h.good is there) (k.good (still is) (h.there there));
  alone = λ is. k.alone (still is) ∙ h.alone is;
  shows = All-append (λ (e : Entry). (table : List (List ℕ)) → IsTable shown table (let x = e.turn in x.forms)) xs ys h.shows k.shows;
  callers = All-append (λ (e : Entry). e.caller ≡ caller) xs ys h.callers k.callers;
}

-- nothing was done
pub runs_none : (idle caller : ℕ) (plain ticks : Type 0) (s : State) → Runs idle caller plain ticks s [] s
runs_none idle caller plain ticks s = record {
  owed = no_tally;
  run = (refl, refl, refl);
  kept = record { faults_kept = omega arith; refusals_kept = omega arith; sent_kept = omega arith; polls_kept = omega arith; beats_kept = omega arith };
  paid = λ low. record { faults_paid = omega arith; refusals_paid = omega arith; short_none = refl; placed_none = refl; looks_none = refl };
  clocked = λ is. refl;
  there = λ there. there;
  good = λ is there. All-nil (λ (e : Entry). IsGoodIf e.reply);
  alone = λ is. refl;
  shows = All-nil (λ (e : Entry). (table : List (List ℕ)) → IsTable shown table (let x = e.turn in x.forms));
  callers = All-nil (λ (e : Entry). e.caller ≡ caller);
}

-- ---- the looks of one call

-- so many looks were taken without a reply
pub record Looked (idle caller : ℕ) (plain ticks : Type 0) (call : Call) (s : State) (round : ℕ) (t : State) : Type 0 where
  pub own : List Entry
  pub runs : Runs idle caller plain ticks s own t
  pub waits : Waits call 0 own round

waits_more : (call : Call) (first : ℕ) (es : List Entry) (round : ℕ) (e : Entry) → Waits call first es round → e.call ≡ Some call → e.reply ≡ None → e.turn.round ≡ round → EndsIn e.events round → Waits call first (es ++ e ∷ []) (round + 1)
waits_more call first [] round e waits call_is none at ends = (call_is, none, at ∙ waits, subst (λ (k : ℕ). EndsIn e.events k) waits ends, ap (λ (k : ℕ). k + 1) waits)
waits_more call first (x ∷ es) round e (a, b, c, d, rest) call_is none at ends = (a, b, c, d, waits_more call (first + 1) es round e rest call_is none at ends)

pub looked_none : (idle caller : ℕ) (plain ticks : Type 0) (call : Call) (s : State) → Looked idle caller plain ticks call s 0 s
looked_none idle caller plain ticks call s = record { own = []; runs = runs_none idle caller plain ticks s; waits = refl }

no_reply : (advertise : List ℕ) (e : Entry) (call : Call) (said : Option Response) → said ≡ said_of advertise e.turn.forms (Some call) e.reply → said ≡ None → e.reply ≡ None
no_reply advertise e call said is none = go e.reply refl
  where
    go : (r : Option Reply) → e.reply ≡ r → e.reply ≡ None
    go None at = at
    go (Some r) at = absurd (cc (sym none ∙ (is ∙ ap (λ (r : Option Reply). said_of advertise e.turn.forms (Some call) r) at)))

some_reply : (advertise : List ℕ) (e : Entry) (call : Call) (said : Option Response) (r : Response) → said ≡ said_of advertise e.turn.forms (Some call) e.reply → said ≡ Some r → (answer : Reply) × (e.reply ≡ Some answer) × (r ≡ response_of advertise e.turn.forms call answer)
some_reply advertise e call said r is some = go e.reply refl
  where
    go : (o : Option Reply) → e.reply ≡ o → (answer : Reply) × (e.reply ≡ Some answer) × (r ≡ response_of advertise e.turn.forms call answer)
    go None at = absurd (cc (sym some ∙ (is ∙ ap (λ (r : Option Reply). said_of advertise e.turn.forms (Some call) r) at)))
    go (Some x) at =
        let same : Some r ≡ Some (response_of advertise e.turn.forms call x) = sym some ∙ (is ∙ ap (λ (r : Option Reply). said_of advertise e.turn.forms (Some call) r) at) in
        (x, at, (let f = same in cc f))

pub looked_more : (idle caller : ℕ) (advertise : List ℕ) (plain plain2 ticks ticks2 : Type 0) (call : Call) (s m t : State) (round : ℕ) (said : Option Response) → (plain → plain2) → (ticks → ticks2)
    → Looked idle caller plain ticks call s round m → IsTurn idle caller advertise plain2 ticks2 call round m said t → said ≡ None → Looked idle caller plain ticks call s (round + 1) t
looked_more idle caller advertise plain plain2 ticks ticks2 call s m t round said still ticking so_far turn none =
    let unanswered : turn.entry.reply ≡ None = no_reply advertise turn.entry call said turn.says none in record {
      own = so_far.own ++ turn.entry ∷ [];
      runs = runs_on idle caller plain plain2 ticks ticks2 s m t so_far.own (turn.entry ∷ []) still ticking so_far.runs turn.runs;
      waits = waits_more call 0 so_far.own round turn.entry so_far.waits turn.call_is unanswered turn.round_is (turn.looks unanswered);
    }

pub looked_done : (idle caller : ℕ) (advertise : List ℕ) (plain plain2 ticks ticks2 : Type 0) (call : Call) (s m t : State) (round : ℕ) (said : Option Response) (r : Response) → (plain → plain2) → (ticks → ticks2)
    → Looked idle caller plain ticks call s round m → IsTurn idle caller advertise plain2 ticks2 call round m said t → said ≡ Some r → IsAnswered idle caller advertise plain ticks call s r t
looked_done idle caller advertise plain plain2 ticks ticks2 call s m t round said r still ticking so_far turn some =
    let answered = some_reply advertise turn.entry call said r turn.says some in record {
      own = so_far.own ++ turn.entry ∷ [];
      runs = runs_on idle caller plain plain2 ticks ticks2 s m t so_far.own (turn.entry ∷ []) still ticking so_far.runs turn.runs;
      answer = answered.0;
      serves = record { waits = so_far.own; round = round; waited = so_far.waits; last = turn.entry; whole = refl; call_is = turn.call_is; reply_is = answered.1; round_is = turn.round_is };
      says = answered.2;
      counted = counted_on s.counts m.counts t.counts answered.0 (let h = so_far.runs in h.kept) (subst (IsCountedIf m.counts t.counts) answered.1 turn.counted);
    }
