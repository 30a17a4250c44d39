-- One turn of a consumer's call, from the step that it makes.
use Rattle.std.proofs.Common.{◌≡◌, ℕ, ◌+◌, ◌<◌, ◌≤◌, Bool, true, false, cond, List, [], ◌∷◌, ◌++◌, refl, ap, sym, ◌∙◌, subst, arith, inl, inr, Option, Some, None}
use Rattle.std.specs.Prelude.{map, max, option_map, is_none, ◌⊎◌, All}
use Rattle.std.proofs.lemmas.List.{append_assoc}
use Rattle.std.proofs.lemmas.List.Elements.{All-nil, All-push}
use Rattle.gate_io.specs.Clocks.{Hand, after_read, after_pause}
use Rattle.model.specs.state.Log.{Log, IsLog}
use Rattle.model.specs.state.Forms.{Forms}
use Rattle.model.specs.state.World.{Key, Consumer, World}
use Rattle.model.specs.state.Entry.{Act, Batch, Call, Event, Question, Reply, Entry, Turn}
use Rattle.model.specs.state.Entry.Act.{Create, Delete, Assign, Assignments, Records, Seek, SeekEdge, Subscription}
use Rattle.model.specs.state.Entry.Call.{Ask, Of, Produce}
use Rattle.model.specs.state.Entry.Event.{Reset, Looked}
use Rattle.model.specs.step.Acts.{Acts, Live, Gone}
use Rattle.model.specs.step.Look.{IsLook, IsCut_off, IsWalked, LookEnds, Sends, after_events, at_most, saved_event, placed_event}
use Rattle.model.specs.step.Ends.{IsRefused, IsWanting}
use Rattle.model.specs.step.Walk.{Walked}
use Rattle.model.specs.step.Step.{ProduceEnds, Step, Does, Whole, Starved, left}
use Rattle.model.specs.history.Legal.{Tally, no_tally, plus, entry_tally, call_tally, one_if, is_fault, is_refusal}
use Rattle.model.specs.history.Causes.{IsCaused}
use Rattle.rest_replies.specs.Forms.{shown}
use Rattle.consumer_state.specs.Assign.{totals}
use Rattle.model.specs.history.Served.{EndsIn}
use Rattle.model.specs.history.Noted.{IsTable, Noted, round_of, said_of}
use Rattle.broker_link.specs.Causes.{Counts}
use Rattle.broker_link.specs.Replies.{CountsKept, IsCountedIf, IsGoodIf}
use Rattle.rest_calls.specs.Views.{asked_of}
use Rattle.rest_calls.specs.Responses.{response_in}
use Rattle.rest_calls.specs.declared.call.Call.{Call as CodeCall}
use Rattle.rest_calls.specs.declared.call.Call.TheVariants as call
use Rattle.rest_codes.specs.declared.response.Reply.{Reply as CodeReply}
use Rattle.desk.specs.Step.{noted, no_expiry, StepsSo}
use Rattle.broker_link.specs.Stands.{Stand}
use Rattle.desk.specs.Runs.{stood, Pays, IsTurn}
use Rattle.desk.specs.declared.entry.Entry.{Entry as CodeEntry}

-- ---- an entry without reply is a look

walk_marks : (moment : ℕ) (turn : Turn) (wait : ℕ) (c : Consumer) (walked : Walked) (looked : List Event) (c2 : Option Consumer) → LookEnds moment turn wait c walked looked None c2 → looked ≡ Looked turn.round ∷ []
walk_marks moment turn wait c walked looked c2 (inl unread) = absurd (cc unread.says)
walk_marks moment turn wait c walked looked c2 (inr (inl shown)) = absurd (cc shown.says)
walk_marks moment turn wait c walked looked c2 (inr (inr put_off)) = put_off.marks

look_marks : (moment : ℕ) (turn : Turn) (wait bound : ℕ) (sends : Type 0) (a b : Log) (c : Consumer) (looked : List Event) (c2 : Option Consumer)
    → IsCut_off moment sends c looked None c2 ⊎ IsWalked moment turn wait bound a b c looked None c2 → looked ≡ Looked turn.round ∷ []
look_marks moment turn wait bound sends a b c looked c2 (inl cut) = absurd (cc cut.says)
look_marks moment turn wait bound sends a b c looked c2 (inr walk) = walk_marks moment turn wait c walk.walked looked c2 walk.ends

look_ends : (key : Key) (moment : ℕ) (turn : Turn) (timeout bound : Option ℕ) (c : Consumer) (a : Log) (events : List Event) (b : Log) (c2 : Option Consumer)
    → (look : IsLook key moment turn timeout bound c a events None b c2) → EndsIn events turn.round
look_ends key moment turn timeout bound c a events b c2 look =
    let marks : look.looked ≡ Looked turn.round ∷ [] = look_marks moment turn (at_most c.settings.timeout_ms timeout) (at_most 4194304 bound) (Sends c) a b (after_events events c) look.looked c2 look.ends in (
      saved_event look.saved ++ (placed_event look.placed ++ map Reset look.resets),
      look.order ∙ (ap (λ (l : List Event). saved_event look.saved ++ (placed_event look.placed ++ (map Reset look.resets ++ l))) marks
          ∙ (ap (λ (l : List Event). saved_event look.saved ++ l) (sym (append_assoc (placed_event look.placed) (map Reset look.resets) (Looked turn.round ∷ [])))
          ∙ sym (append_assoc (saved_event look.saved) (placed_event look.placed ++ map Reset look.resets) (Looked turn.round ∷ [])))),
    )

-- a call on a live consumer that has no reply yet
live_looks : (code : CodeCall) (key : Key) (act : Act) → asked_of code ≡ Of key act → (moment : ℕ) (turn : Turn) (c : Consumer) (a : Log) (events : List Event) (b : Log) (c2 : Option Consumer)
    → Live key moment turn act c a events None b c2 → EndsIn events turn.round
live_looks (call.Produce topic batch) key act is moment turn c a events b c2 live = absurd (cc is)
live_looks (call.Ask question) key act is moment turn c a events b c2 live = absurd (cc is)
live_looks (call.Create group name settings) key (Create s) is moment turn c a events b c2 (e, same, inl refused) = absurd (cc refused.says)
live_looks (call.Create group name settings) key (Create s) is moment turn c a events b c2 (e, same, inr wants) = absurd (cc wants.says)
live_looks (call.Delete group name) key Delete is moment turn c a events b c2 (e, same, inl done) = absurd (cc done.says)
live_looks (call.Delete group name) key Delete is moment turn c a events b c2 (e, same, inr wants) = absurd (cc wants.says)
live_looks (call.Assignments group name) key Assignments is moment turn c a events b c2 (e, same, inl done) = absurd (cc done.says)
live_looks (call.Assignments group name) key Assignments is moment turn c a events b c2 (e, same, inr wants) = absurd (cc wants.says)
live_looks (call.Subscription group name) key Subscription is moment turn c a events b c2 (e, same, inl done) = absurd (cc done.says)
live_looks (call.Subscription group name) key Subscription is moment turn c a events b c2 (e, same, inr wants) = absurd (cc wants.says)
live_looks (call.Seek group name places) key (Seek news) is moment turn c a events b c2 (e, same, inl (inl (not, refused))) = absurd (cc refused.says)
live_looks (call.Seek group name places) key (Seek news) is moment turn c a events b c2 (e, same, inl (inr (all, done))) = absurd (cc done.says)
live_looks (call.Seek group name places) key (Seek news) is moment turn c a events b c2 (e, same, inr wants) = absurd (cc wants.says)
live_looks (call.SeekEdge group name code parts) key (SeekEdge edge ats) is moment turn c a events b c2 (e, same, inl (not, inl refused)) = absurd (cc refused.says)
live_looks (call.SeekEdge group name code parts) key (SeekEdge edge ats) is moment turn c a events b c2 (e, same, inl (not, inr wants)) = absurd (cc wants.says)
live_looks (call.SeekEdge group name code parts) key (SeekEdge edge ats) is moment turn c a events b c2 (e, same, inr (all, inl done)) = (let x = done.2 in absurd (cc x.says))
live_looks (call.SeekEdge group name code parts) key (SeekEdge edge ats) is moment turn c a events b c2 (e, same, inr (all, inr (inl wants))) = absurd (cc wants.says)
live_looks (call.SeekEdge group name code parts) key (SeekEdge edge ats) is moment turn c a events b c2 (e, same, inr (all, inr (inr cut))) = (let x = cut.1 in absurd (cc x.says))
live_looks (call.Assign group name parts) key (Assign ats) is moment turn c a events b c2 (e, same, inl (mode, inl refused)) = absurd (cc refused.says)
live_looks (call.Assign group name parts) key (Assign ats) is moment turn c a events b c2 (e, same, inl (mode, inr wants)) = absurd (cc wants.says)
live_looks (call.Assign group name parts) key (Assign ats) is moment turn c a events b c2 (e, same, inr (mode, inl (inl lacks))) = (let x = lacks.2 in absurd (cc x.says))
live_looks (call.Assign group name parts) key (Assign ats) is moment turn c a events b c2 (e, same, inr (mode, inl (inr assigned))) = absurd (cc assigned.says)
live_looks (call.Assign group name parts) key (Assign ats) is moment turn c a events b c2 (e, same, inr (mode, inr (inl wants))) = absurd (cc wants.says)
live_looks (call.Assign group name parts) key (Assign ats) is moment turn c a events b c2 (e, same, inr (mode, inr (inr cut))) = (let x = cut.1 in absurd (cc x.says))
live_looks (call.Records group name accepts timeout bound) key (Records formats t m) is moment turn c a events b c2 (inl (apart, e, same, inl refused, left)) = absurd (cc refused)
live_looks (call.Records group name accepts timeout bound) key (Records formats t m) is moment turn c a events b c2 (inl (apart, e, same, inr wants, left)) = absurd (cc wants)
live_looks (call.Records group name accepts timeout bound) key (Records formats t m) is moment turn c a events b c2 (inr (allowed, look)) = look_ends key moment turn t m c a events b c2 look
live_looks code key act is moment turn c a events b c2 live = absurd (cc is)

refused_none : (c2 : Option Consumer) → IsRefused 40403 None None c2 ⊎ IsWanting None None c2 → ⊥
refused_none c2 (inl refused) = absurd (cc refused.says)
refused_none c2 (inr wants) = absurd (cc wants.says)

gone_looks : (act : Act) (moment : ℕ) (a : Log) (events : List Event) (b : Log) (c2 : Option Consumer) → Gone moment act a events None b c2 → ⊥
gone_looks (Create settings) moment a events b c2 (e, same, inl made) = absurd (cc made.says)
gone_looks (Create settings) moment a events b c2 (e, same, inr wants) = absurd (cc wants.says)
gone_looks act moment a events b c2 gone = refused_none c2 gone.2

acts_look : (code : CodeCall) (key : Key) (act : Act) → asked_of code ≡ Of key act → (moment : ℕ) (turn : Turn) (found : Option Consumer) (a : Log) (events : List Event) (b : Log) (c2 : Option Consumer)
    → Acts key moment turn act found a events None b c2 → EndsIn events turn.round
acts_look code key act is moment turn None a events b c2 gone = absurd (gone_looks act moment a events b c2 gone)
acts_look code key act is moment turn (Some c) a events b c2 live = live_looks code key act is moment turn c a events b c2 live

-- a step of a consumer's call that has no reply yet
pub step_looks : (code : CodeCall) (key : Key) (act : Act) → asked_of code ≡ Of key act → (w : World) (a : Log) (e : Entry) (b : Log) (w2 : World) → e.call ≡ Some (asked_of code) → e.reply ≡ None → Step no_expiry w a e b w2 → EndsIn e.events e.turn.round
step_looks code key act is w a e b w2 asked none step = go step.does
  where
    go : Whole no_expiry w a e b w2 ⊎ Starved w a e b w2 → EndsIn e.events e.turn.round
    go (inr starved) = absurd (cc (none, starved.reply))
    go (inl whole) =
        let does : Does e.moment e.turn (Some (Of key act)) a e.events None b (left e.expired w) w2.at =
        subst (λ (r : Option Reply). Does e.moment e.turn (Some (Of key act)) a e.events r b (left e.expired w) w2.at) none
        (subst (λ (c : Option Call). Does e.moment e.turn c a e.events e.reply b (left e.expired w) w2.at) (asked ∙ ap Some is) whole.does) in
        acts_look code key act is e.moment e.turn (left e.expired w key) a e.events b (w2.at key) does.0

-- ---- one entry

pays_one : (before after : Counts) (w : World) (e : Entry) → call_tally (left e.expired w) e.call e.events ≡ no_tally → IsCaused (totals before) (totals after) after.last_code [] w e → Pays before after (plus (entry_tally w e) no_tally)
pays_one before after w e quiet caused = record {
  faults_paid = paid_if (is_fault e.reply) before.faults after.faults caused.rises.faults caused.fault (ap (λ (t : Tally). t.faults) quiet);
  refusals_paid = paid_if (is_refusal e.reply) before.refusals after.refusals caused.rises.refusals caused.refusal (ap (λ (t : Tally). t.refusals) quiet);
  short_none = (let z : (call_tally (left e.expired w) e.call e.events).short ≡ 0 = ap (λ (t : Tally). t.short) quiet in omega (arith, z));
  placed_none = (let z : (call_tally (left e.expired w) e.call e.events).placed ≡ 0 = ap (λ (t : Tally). t.placed) quiet in omega (arith, z));
  looks_none = (let z : (call_tally (left e.expired w) e.call e.events).looks ≡ 0 = ap (λ (t : Tally). t.looks) quiet in omega (arith, z));
}
  where
    paid_if : (b : Bool) (c d : ℕ) → c ≤ d → (b ≡ true → c < d) → {k : ℕ} → k ≡ 0 → c + (one_if b + k + 0) ≤ d
    paid_if true c d le rises none = (let lt = rises refl in omega (arith, lt, none))
    paid_if false c d le rises none = omega (arith, le, none)

kept_of : (before after : Counts) (reply : Option Reply) → IsCountedIf before after reply → CountsKept before after
kept_of before after None counted = counted
kept_of before after (Some r) counted = record { faults_kept = counted.faults_kept; refusals_kept = counted.refusals_kept; sent_kept = counted.sent_kept; polls_kept = counted.polls_kept; beats_kept = counted.beats_kept }

same_none : (advertise : List ℕ) (forms : Forms) (call : Call) (said : Option CodeReply) (reply : Option Reply) → option_map response_in said ≡ said_of advertise forms (Some call) reply → is_none said ≡ is_none reply
same_none advertise forms call None None is = refl
same_none advertise forms call None (Some r) is = absurd (cc is)
same_none advertise forms call (Some x) None is = absurd (cc is)
same_none advertise forms call (Some x) (Some r) is = refl

alone_holds : (P : Entry → Type 0) (e : Entry) → P e → All P (e ∷ [])
alone_holds P e is = All-push P [] e (All-nil P) is

same_round : (round : ℕ) (call : Option Call) (asked : Call) (n : ℕ) → call ≡ Some asked → Some n ≡ round_of round call → round ≡ n
same_round round call asked n called is = let same : Some n ≡ Some round = is ∙ ap (round_of round) called in sym (cc same)

pub turned_of : (asked : Call) (caller : ℕ) (advertise : List ℕ) (now round : ℕ) (a b : Stand) (ticks : Type 0) (w w2 : World) (hand hand2 : Hand) (e : CodeEntry) (said : Option CodeReply)
    → StepsSo no_expiry advertise a w (noted e) b w2 → e.caller ≡ caller → e.moment ≡ max now w.last → (noted e).call ≡ Some asked → e.round ≡ Some round
    → (ticks → now ≡ (after_read hand).now) → (ticks → hand2 ≡ cond (is_none e.reply) (after_pause 10 (after_read hand)) (after_read hand)) → said ≡ e.reply
    → ((x : Entry) → x.call ≡ Some asked → x.reply ≡ None → Step no_expiry w a.log x b.log w2 → EndsIn x.events x.turn.round)
    → a.tells → IsLog a.log → IsTurn no_expiry caller advertise a.plain ticks asked round (stood w a hand) (option_map response_in said) (stood w2 b hand2)
turned_of asked caller advertise now round a b ticks w w2 hand hand2 e said steps whose when called at reads rests says ends told log =
    let one = steps.steps told log in
    let entry = one.entry in
    let call_is : entry.call ≡ Some asked = sym (ap (λ (n : Noted). n.call) one.same) ∙ called in
    let round_is : entry.turn.round ≡ round = same_round entry.turn.round entry.call asked round call_is (sym at ∙ ap (λ (n : Noted). n.round) one.same) in
    let reply_is : option_map response_in e.reply ≡ said_of advertise (let x = entry.turn in x.forms) entry.call entry.reply = ap (λ (n : Noted). n.reply) one.same in
    record {
      entry = entry;
      runs = record {
        owed = plus (entry_tally w entry) no_tally;
        run = (b.log, w2, one.step, (no_tally, refl, (refl, refl, refl)));
        kept = kept_of a.counts b.counts steps.reply steps.counted;
        paid = λ low. pays_one a.counts b.counts w entry one.quiet (one.caused low);
        clocked = λ ticking. (
          sym (ap (λ (n : Noted). n.moment) one.same) ∙ (when ∙ ap (λ (n : ℕ). max n w.last) (reads ticking)),
          rests ticking ∙ ap (λ (x : Bool). cond x (after_pause 10 (after_read hand)) (after_read hand))
              (same_none advertise (let x = entry.turn in x.forms) asked e.reply entry.reply (reply_is ∙ ap (λ (c : Option Call). said_of advertise (let x = entry.turn in x.forms) c entry.reply) call_is)),
        );
        there = λ there. steps.there told log there;
        good = λ is_plain there. alone_holds (λ (x : Entry). IsGoodIf x.reply) entry (subst IsGoodIf (sym one.reply_is) (steps.good is_plain told log there));
        alone = steps.goes.alone;
        shows = alone_holds (λ (x : Entry). (table : List (List ℕ)) → IsTable shown table (let y = x.turn in y.forms)) entry one.shows;
        callers = alone_holds (λ (x : Entry). x.caller ≡ caller) entry (sym (ap (λ (n : Noted). n.caller) one.same) ∙ whose);
      };
      call_is = call_is;
      round_is = round_is;
      says = ap (option_map response_in) says ∙ (reply_is ∙ ap (λ (c : Option Call). said_of advertise (let x = entry.turn in x.forms) c entry.reply) call_is);
      looks = λ none. subst (λ (k : ℕ). EndsIn entry.events k) round_is (ends entry call_is none one.step);
      counted = subst (IsCountedIf a.counts b.counts) (sym one.reply_is) steps.counted;
    }

-- a produce has its reply
produce_replies : (a b : Log) (topic : List ℕ) (batch : Batch) → ProduceEnds a b topic batch None → ⊥
produce_replies a b topic batch (inl done) = absurd (cc done.says)
produce_replies a b topic batch (inr (inl lacks)) = absurd (cc lacks.2)
produce_replies a b topic batch (inr (inr (inl lacks))) = absurd (cc lacks.3)
produce_replies a b topic batch (inr (inr (inr failed))) = absurd (cc failed.says)

pub produce_looks : (topic : List ℕ) (batch : Batch) (w : World) (a : Log) (e : Entry) (b : Log) (w2 : World) → e.call ≡ Some (Produce topic batch) → e.reply ≡ None → Step no_expiry w a e b w2 → EndsIn e.events e.turn.round
produce_looks topic batch w a e b w2 asked none step = absurd (go step.does)
  where
    go : Whole no_expiry w a e b w2 ⊎ Starved w a e b w2 → ⊥
    go (inr starved) = absurd (cc (none, starved.reply))
    go (inl whole) =
        let does : Does e.moment e.turn (Some (Produce topic batch)) a e.events None b (left e.expired w) w2.at =
        subst (λ (r : Option Reply). Does e.moment e.turn (Some (Produce topic batch)) a e.events r b (left e.expired w) w2.at) none
        (subst (λ (c : Option Call). Does e.moment e.turn c a e.events e.reply b (left e.expired w) w2.at) asked whole.does) in
        produce_replies a b topic batch does.1

-- and so has a question
pub ask_looks : (question : Question) (w : World) (a : Log) (e : Entry) (b : Log) (w2 : World) → e.call ≡ Some (Ask question) → e.reply ≡ None → Step no_expiry w a e b w2 → EndsIn e.events e.turn.round
ask_looks question w a e b w2 asked none step = absurd (go step.does)
  where
    go : Whole no_expiry w a e b w2 ⊎ Starved w a e b w2 → ⊥
    go (inr starved) = absurd (cc (none, starved.reply))
    go (inl whole) =
        let does : Does e.moment e.turn (Some (Ask question)) a e.events None b (left e.expired w) w2.at =
        subst (λ (r : Option Reply). Does e.moment e.turn (Some (Ask question)) a e.events r b (left e.expired w) w2.at) none
        (subst (λ (c : Option Call). Does e.moment e.turn c a e.events e.reply b (left e.expired w) w2.at) asked whole.does) in
        cc does.1.1
