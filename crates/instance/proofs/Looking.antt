-- From what a look gathered and how it ended to the model's look.
use Rattle.std.proofs.Common.{◌≡◌, ℕ, ◌<◌, ◌&&◌, ◌==◌, Bool, true, false, List, [], ◌∷◌, ◌++◌, map, length, refl, ap, sym, subst, ◌∙◌, inl, inr, arith, Option, Some, None, pos}
use Rattle.std.specs.Prelude.{◌⊎◌, ◌≢◌, IsTrue, option_map}
use Rattle.std.proofs.lemmas.List.{append-nil, map-append}
use Rattle.model.specs.state.Log.{Log, IsLog, Keeps, TopicPart}
use Rattle.model.specs.step.Walk.{Place, Lot, Walked, unwalked, walk, turned}
use Rattle.model.specs.state.World.{Key, Format, Consumer, Mode, touched, with_position, with_positions, moved_places}
use Rattle.model.specs.state.World.Mode.{ByTopics, Unset, Assigned}
use Rattle.model.specs.state.Entry.{Event, Reply, Turn, IsLinks}
use Rattle.model.specs.state.Entry.Act.{Records}
use Rattle.model.specs.state.Entry.Call.{Of}
use Rattle.model.specs.state.Entry.Event.{Reset, Looked}
use Rattle.model.specs.state.Entry.Reply.{Refused as RefusedBy, Want as NoMemory}
use Rattle.model.specs.texts.Texts.{Response, response_of}
use Rattle.model.specs.history.Noted.{said_of, events_of, EndsInLook}
use Rattle.model.specs.history.Causes.{IsRebalanced, IsPumped, has_looked, placed_in, Pumped}
use Rattle.model.specs.history.Causes.Pumped.{Unpumped}
use Rattle.model.specs.history.Legal.{is_fault, is_refusal}
use Rattle.model.specs.step.Fixed.{SameCommits}
use Rattle.model.specs.step.Produced.{NoneAdded}
use Rattle.model.specs.step.Look.{IsCut_off, IsWalked, LookEnds, Looks, Sends, SetBack, after_events, allows, with_assignment, at_most, is_due, moved, rotation_behind}
use Rattle.model.proofs.Stretches.{keeps_itself}
use Rattle.broker_link.specs.Causes.{Counts, ComesOf}
use Rattle.broker_link.proofs.CountedLemmas.{counted_done}
use Rattle.broker_link.specs.Replies.{CountsKept, IsCounted, IsCountedIf, IsGood, IsGoodIf, link_reply}
use Rattle.broker_link.specs.Stands.{Stand}
use Rattle.broker_link.specs.declared.link.LinkNo.{LinkNo}
use Rattle.broker_link.specs.declared.link.LinkNo.TheVariants.{Fault, Refused, Want}
use Rattle.instance.specs.declared.event.Event.{Event as CodeEvent}
use Rattle.instance.specs.declared.event.Event.TheVariants.{Reset as CodeReset, Looked as CodeLooked}
use Rattle.rest_replies.specs.Forms.{forms}
use Rattle.consumer_state.specs.Assign.{ActsSo, AreThere, totals}
use Rattle.consumer_state.proofs.Linking.{counts_stay}
use Rattle.instance.specs.Ending.{IsOver, IsSettled, own_of, turn_of}
use Rattle.instance.specs.Gathering.{IsHand, SetsBack}
use Rattle.instance.specs.Walk.{rule_of}
use Rattle.instance.specs.Passing.{Passes}
use Rattle.rest_calls.specs.Views.{settings_of}
use Rattle.rest_calls.specs.Responses.{response_in}
use Rattle.rest_codes.specs.declared.response.Reply.{Reply as CodeReply}
use Rattle.consumer_state.specs.declared.consumer.Consumer.{Consumer as CodeConsumer}
use Rattle.instance.specs.declared.event.Outcome.{Outcome}
use Rattle.rest_replies.specs.Failure.{SaysOrWant}
use Rattle.broker_link.specs.Places.{place_of}
use Rattle.consumer_state.specs.Views.{consumer_of, mode_of}
use Rattle.instance.specs.Views.{event_of, events_in, said_in}
use Rattle.instance.proofs.Gathering.{at_hand}
use Rattle.instance.proofs.Moving.{ats_moved}
use Rattle.consumer_state.proofs.PositionLemmas.{ats_set_all, have_set}

-- ---- the events

pub own_events : (events : List CodeEvent) → map event_of events ≡ events_of [] (map own_of events)
own_events [] = refl
own_events (CodeReset place ∷ events) = ap (λ es. inr (own_of (CodeReset place)) ∷ es) (own_events events)
own_events (CodeLooked k ∷ events) = ap (λ es. inr (own_of (CodeLooked k)) ∷ es) (own_events events)

-- events that end in the mark of a look
pub ends_in_look : (before events : List CodeEvent) (round : ℕ) → events ≡ before ++ CodeLooked round ∷ [] → EndsInLook (map event_of events) round
ends_in_look before events round is = (map event_of before, ap (map event_of) is ∙ map-append event_of before (CodeLooked round ∷ []))

-- a look's last events: its mark, or none
pub data IsMark : List Event → Type 0 where
  NoMark : IsMark []
  OneMark : (k : ℕ) → IsMark (Looked k ∷ [])

-- however its walk ends
pub is_mark : (moment : ℕ) (turn : Turn) (wait : ℕ) (c : Consumer) (walked : Walked) (looked : List Event) (reply : Option Reply) (c2 : Option Consumer)
    → LookEnds moment turn wait c walked looked reply c2 → IsMark looked
is_mark moment turn wait c walked looked reply c2 (inl u) = subst IsMark (sym u.marks) NoMark
is_mark moment turn wait c walked looked reply c2 (inr (inl s)) = subst IsMark (sym s.marks) (OneMark turn.round)
is_mark moment turn wait c walked looked reply c2 (inr (inr p)) = subst IsMark (sym p.marks) (OneMark turn.round)

abbrev pub with_places : List Place → Consumer → Consumer
with_places places c = with_assignment places c.rotation c.unsaved c

pub after_resets : (news : List Place) (looked : List Event) (c : Consumer) → IsMark looked → after_events (map Reset news ++ looked) c ≡ with_places (with_positions news c.assignment) c
after_resets [] looked c NoMark = refl
after_resets [] looked c (OneMark k) = refl
after_resets (n ∷ ns) looked c mark = after_resets ns looked (with_places (with_position n c.assignment) c) mark

none_placed : (news : List Place) (looked : List Event) → IsMark looked → placed_in (map Reset news ++ looked) ≡ None
none_placed [] looked NoMark = refl
none_placed [] looked (OneMark k) = refl
none_placed (n ∷ ns) looked mark = none_placed ns looked mark

-- a look whose mode isn't topics pumps nothing
quiet : (before after : Counts) (c : Consumer) (own : List Event) → c.mode ≢ ByTopics → placed_in own ≡ None → IsRebalanced (totals before) (totals after) None None c own
quiet before after c own mode none = record {
  pumped = Unpumped;
  pump = record {
    pumps = λ e reached. absurd (mode e);
    quiet = λ e. refl;
    steady = λ e. absurd (cc e);
    not_yet = λ e. absurd (cc e);
    lost = λ e. absurd (cc e);
    shared = λ ats e. absurd (cc e);
  };
  ties = λ ats e. absurd (cc e);
  places = subst (λ o. Rattle.model.specs.history.Causes.Rebalances c Unpumped None (IsTrue (has_looked own)) o) (sym none) (λ looked. (refl, λ e. absurd (cc e)));
}

-- ---- the ends

not_due : (c : Consumer) (round : ℕ) → c.settings.auto_commit ≡ false → is_due c round ≡ false
not_due c round off = go (round == 0)
  where
    go : (b : Bool) → (b && (c.settings.auto_commit && c.unsaved)) ≡ false
    go true = ap (λ x. x && c.unsaved) off
    go false = refl

moved_touched : (items : List Rattle.model.specs.step.Walk.Item) (moment : ℕ) (c : Consumer) → moved items (touched moment c) ≡ touched moment (moved items c)
moved_touched items moment c = λ i. record { settings = c.settings; mode = c.mode; topics = c.topics; assignment = moved_places items c.assignment; rotation = turn (Rattle.model.specs.state.World.last_at items) i; unsaved = Rattle.model.specs.step.Events.or_taken items c.unsaved; last_use = moment }
  where
    turn : (o : Option TopicPart) → rotation_behind o (touched moment c) ≡ rotation_behind o c
    turn None = refl
    turn (Some at) = refl

-- the end of a consumer that was used then is that of the consumer before
pub ends_untouched : (moment : ℕ) (turn : Turn) (wait : ℕ) (c : Consumer) (walked : Walked) (looked : List Event) (reply : Option Reply) (c2 : Option Consumer)
    → LookEnds moment turn wait (touched moment c) walked looked reply c2 → LookEnds moment turn wait c walked looked reply c2
ends_untouched moment turn wait c walked looked reply c2 (inl u) = inl (record { item = u.item; taken = u.taken; met = u.met; marks = u.marks; number = u.number; why = u.why; says = u.says; left = u.left })
ends_untouched moment turn wait c walked looked reply c2 (inr (inl s)) =
    inr (inl (record { last = s.last; lasts = s.lasts; ready = s.ready; marks = s.marks; says = s.says; left = s.left ∙ ap (λ x. Some (touched moment x)) (moved_touched walked.taken moment c) }))
ends_untouched moment turn wait c walked looked reply c2 (inr (inr p)) = inr (inr (record { soon = p.soon; read = p.read; few = p.few; marks = p.marks; says = p.says; left = p.left }))

-- the partitions stay the same
ends_ats : (moment : ℕ) (turn : Turn) (wait : ℕ) (c : Consumer) (walked : Walked) (looked : List Event) (reply : Option Reply) (c2 : Consumer)
    → LookEnds moment turn wait c walked looked reply (Some c2) → map (λ (p : Place). p.at) c2.assignment ≡ map (λ (p : Place). p.at) c.assignment
ends_ats moment turn wait c walked looked reply c2 (inl u) = let e : c2 ≡ touched moment c = cc (u.left) in ap (λ (x : Consumer). map (λ (p : Place). p.at) x.assignment) e
ends_ats moment turn wait c walked looked reply c2 (inr (inl s)) = let e : c2 ≡ touched moment (moved walked.taken c) = cc (s.left) in ap (λ (x : Consumer). map (λ (p : Place). p.at) x.assignment) e ∙ ats_moved walked.taken c.assignment
ends_ats moment turn wait c walked looked reply c2 (inr (inr p)) = let e : c2 ≡ touched moment c = cc (p.left) in ap (λ (x : Consumer). map (λ (p : Place). p.at) x.assignment) e

-- ---- the look

-- every instance yet: nothing is committed by itself, and none is subscribed
pub record IsPlain (c : Consumer) : Type 0 where
  pub off : c.settings.auto_commit ≡ false
  pub mode : c.mode ≢ ByTopics

is_look : (key : Key) (moment round : ℕ) (formats : List Format) (timeout bound : Option ℕ) (c : Consumer) (a b : Log) (news : List Place) (looked : List Event) (reply : Option Reply) (c2 : Consumer)
    → IsPlain c → allows formats c.settings.format ≡ true → IsLog a → SameCommits a b → SetBack c.settings.reset a c.assignment news b
    → IsCut_off moment (Sends c) (after_events (map Reset news ++ looked) c) looked reply (Some c2)
    ⊎ IsWalked moment (turn_of round) (at_most c.settings.timeout_ms timeout) (at_most 4194304 bound) a b (after_events (map Reset news ++ looked) c) looked reply (Some c2)
    → Looks key moment (turn_of round) formats timeout bound c a (map Reset news ++ looked) reply b (Some c2)
is_look key moment round formats timeout bound c a b news looked reply c2 one allowed log commits set ends =
    let due : is_due c round ≡ false = not_due c round one.off in
    inr (
      allowed,
      record {
        saved = None;
        placed = None;
        resets = news;
        looked = looked;
        order = refl;
        code = λ place. pos 0;
        saves = inl (due, commits);
        answered = λ k e some. absurd (cc some);
        due = λ e none. absurd (cc (e, due));
        middle = a;
        log = log;
        places = keeps_itself a;
        set = set;
        ends = ends;
      },
    )

-- what a look says of the calls that it made
pub record Passed (tells : Type 0) (a b : Log) (before after : Counts) : Type 0 where
  pub keeps : tells → Keeps a b
  pub added : tells → NoneAdded a b
  pub commits : tells → SameCommits a b
  pub is_log : tells → IsLog a → IsLog b
  pub counts : CountsKept before after

pub passed : (s t : Stand) → Passes s t → Passed s.tells s.log t.log s.counts t.counts
passed s t is = record { keeps = is.keeps; added = is.added; commits = is.commits; is_log = is.is_log; counts = is.counts }

-- what the call owes, by its parts
acts_so : (advertise : List ℕ) (key : Key) (now round : ℕ) (formats : List Format) (timeout bound : Option ℕ) (tells plain : Type 0) (before after : Counts) (c : Consumer) (a : Log) (events : List CodeEvent) (said : Option Response) (b : Log) (c2 : Consumer)
    → (news : List Place) (looked : List Event) (reply : Option Reply) → IsMark looked → IsPlain c → allows formats c.settings.format ≡ true → Passed tells a b before after
    → map own_of events ≡ map Reset news ++ looked
    → said ≡ said_of advertise forms (Some (Of key (Records formats timeout bound))) reply → IsCountedIf before after reply
    → (tells → IsLog a → SetBack c.settings.reset a c.assignment news b)
    → (tells → IsLog a → IsCut_off now (Sends c) (after_events (map Reset news ++ looked) c) looked reply (Some c2)
    ⊎ IsWalked now (turn_of round) (at_most c.settings.timeout_ms timeout) (at_most 4194304 bound) a b (after_events (map Reset news ++ looked) c) looked reply (Some c2))
    → map (λ (p : Place). p.at) c2.assignment ≡ map (λ (p : Place). p.at) c.assignment
    → (plain → tells → IsLog a → AreThere a c → IsGoodIf reply)
    → ActsSo advertise key now round (Records formats timeout bound) tells plain before after c a (map event_of events) said b c2
acts_so advertise key now round formats timeout bound tells plain before after c a events said b c2 news looked reply mark one allowed passes own says counted set ends ats good = record {
  reply = reply;
  says = says;
  counted = counted;
  acted = λ t log table. (
    record {
      forms = forms;
      shows = λ format bytes. refl;
      own = map own_of events;
      same = own_events events;
      reply = reply;
      says = says;
      acts = subst (λ es. Looks key now (turn_of round) formats timeout bound c a es reply b (Some c2)) (sym own) (is_look key now round formats timeout bound c a b news looked reply c2 one allowed log (passes.commits t) (set t log) (ends t log));
      added = passes.added t;
      looks = quiet before after c (map own_of events) one.mode (ap placed_in own ∙ none_placed news looked mark);
    },
    refl,
  );
  there = λ t log there. have_set a b c.assignment c2.assignment (passes.keeps t) ats there;
  good = good;
}

-- the consumer after the positions were set back, once it was used
abbrev pub Mid : ℕ → Consumer → List Place → Consumer → Type 0
Mid now c news cm = cm ≡ touched now (with_places (with_positions news c.assignment) c)

-- something ended the look before its walk
pub acts_cut : (advertise : List ℕ) (key : Key) (now round : ℕ) (formats : List Format) (timeout bound : Option ℕ) (tells plain : Type 0) (before after : Counts) (c : Consumer) (a : Log) (events : List CodeEvent) (said : Option Response) (b : Log) (c2 : Consumer)
    → (why : Reply) (news : List Place) → IsPlain c → allows formats c.settings.format ≡ true → Passed tells a b before after
    → map own_of events ≡ map Reset news → (tells → IsLog a → SetBack c.settings.reset a c.assignment news b) → Mid now c news c2
    → IsLinks why → ((why ≡ NoMemory) ⊎ Sends c)
    → said ≡ Some (response_of advertise forms (Of key (Records formats timeout bound)) why) → IsCounted before after why
    → (plain → tells → IsLog a → AreThere a c → IsGood why)
    → ActsSo advertise key now round (Records formats timeout bound) tells plain before after c a (map event_of events) said b c2
acts_cut advertise key now round formats timeout bound tells plain before after c a events said b c2 why news one allowed passes told set mid links cause says counted good =
    acts_so advertise key now round formats timeout bound tells plain before after c a events said b c2 news [] (Some why) NoMark one allowed passes (told ∙ sym (append-nil (map Reset news))) says counted set
    (λ t log. inl (record { why = why; links = links; cause = cause; marks = refl; says = refl; left = ap (λ x. Some x) (mid ∙ ap (touched now) (sym (after_resets news [] c NoMark))) }))
    (ap (λ (x : Consumer). map (λ (p : Place). p.at) x.assignment) mid ∙ ats_set_all news c.assignment) good

-- the walk ended the look
pub acts_walked : (advertise : List ℕ) (key : Key) (now round : ℕ) (formats : List Format) (timeout bound : Option ℕ) (tells plain : Type 0) (before after : Counts) (c : Consumer) (a : Log) (events all : List CodeEvent) (said : Option Response) (b : Log) (cm c2 : Consumer) (lots : List Lot)
    → IsPlain c → allows formats c.settings.format ≡ true → Passed tells a b before after
    → (sets : SetsBack tells c.settings.reset a c.assignment events b cm.assignment) → Mid now c sets.news cm
    → (tells → IsLog a → IsHand b cm.assignment lots)
    → IsSettled round (at_most c.settings.timeout_ms timeout) (at_most 4194304 bound) cm lots events all said c2
    → ActsSo advertise key now round (Records formats timeout bound) tells plain before after c a (map event_of all) said b c2
acts_walked advertise key now round formats timeout bound tells plain before after c a events all said b cm c2 lots one allowed passes sets mid hand settled =
    let looked : List Event = map own_of settled.marks in
    let ended = settled.ended in
    let wait : ℕ = at_most c.settings.timeout_ms timeout in
    let most : ℕ = at_most 4194304 bound in
    let own : map own_of all ≡ map Reset sets.news ++ looked = ap (map own_of) settled.added ∙ (map-append own_of events settled.marks ∙ ap (λ es. es ++ looked) sets.told) in
    let here : Consumer = with_places (with_positions sets.news c.assignment) c in
    let walked : Walked = walk (rule_of most c.settings.format) unwalked (turned c.rotation lots) in
    let ends : LookEnds now (turn_of round) wait (touched now here) walked looked ended.reply (Some c2) =
    subst (λ (x : Consumer). LookEnds x.last_use (turn_of round) wait x (walk (rule_of most x.settings.format) unwalked (turned x.rotation lots)) looked ended.reply (Some c2)) mid ended.ends in
    let mark : IsMark looked = is_mark now (turn_of round) wait (touched now here) walked looked ended.reply (Some c2) ends in
    let after_is : after_events (map Reset sets.news ++ looked) c ≡ here = after_resets sets.news looked c mark in
    let ats : map (λ (p : Place). p.at) c2.assignment ≡ map (λ (p : Place). p.at) c.assignment = ends_ats now (turn_of round) wait (touched now here) walked looked ended.reply c2 ends ∙ ats_set_all sets.news c.assignment in
    acts_so advertise key now round formats timeout bound tells plain before after c a all said b c2 sets.news looked ended.reply mark one allowed passes own (ended.says advertise (Of key (Records formats timeout bound))) (ended.counted before after passes.counts) (λ t log. sets.set t log)
    (λ t log. inr (subst (λ (x : Consumer). IsWalked now (turn_of round) wait most a b x looked ended.reply (Some c2)) (sym after_is) (record {
      lots = lots;
      hand = at_hand a b here.assignment lots (0 < length looked) (passes.is_log t log) (passes.keeps t) (subst (λ (ps : List Place). IsHand b ps lots) sets.after (hand t log));
      walked = walked;
      walk = refl;
      ends = ends_untouched now (turn_of round) wait here walked looked ended.reply (Some c2) ends;
    })))
    ats (λ plain t log there. ended.good)

-- ---- failures of the link

pub links_of : (c d : Counts) (e : LinkNo) → ComesOf c d e → IsLinks (link_reply e)
links_of c d Fault comes = tt
links_of c d (Refused code) comes = comes.0
links_of c d Want comes = tt

pub want_counted : (c d : Counts) → CountsKept c d → IsCounted c d NoMemory
want_counted c d kept = record {
  faults_kept = kept.faults_kept;
  refusals_kept = kept.refusals_kept;
  sent_kept = kept.sent_kept;
  polls_kept = kept.polls_kept;
  beats_kept = kept.beats_kept;
  fault = λ e. absurd (cc e);
  refusal = λ e. absurd (cc e);
  code = λ code e. absurd (cc e);
}

pub failure_counted : (c d : Counts) (e : LinkNo) → CountsKept c d → ComesOf c d e → IsCounted c d (link_reply e)
failure_counted c d Fault kept comes = record {
  faults_kept = kept.faults_kept;
  refusals_kept = kept.refusals_kept;
  sent_kept = kept.sent_kept;
  polls_kept = kept.polls_kept;
  beats_kept = kept.beats_kept;
  fault = λ e. comes;
  refusal = λ e. absurd (cc e);
  code = λ code e. absurd (cc e);
}
failure_counted c d (Refused code) kept comes = record {
  faults_kept = kept.faults_kept;
  refusals_kept = kept.refusals_kept;
  sent_kept = kept.sent_kept;
  polls_kept = kept.polls_kept;
  beats_kept = kept.beats_kept;
  fault = λ e. absurd (cc e);
  refusal = λ e. comes.1.0;
  code = λ other e. comes.1.1 ∙ cc e;
}
failure_counted c d Want kept comes = want_counted c d kept

pub good_want : (e : LinkNo) → e ≡ Want → IsGood (link_reply e)
good_want e is = subst (λ (x : LinkNo). IsGood (link_reply x)) (sym is) tt

-- partitions stay assigned while positions are set back
mode_set : (new : Place) (ps : List Place) → mode_of (with_position new ps) ≡ mode_of ps
mode_set new [] = refl
mode_set new (p ∷ ps) = refl

pub mode_set_all : (news ps : List Place) → mode_of (with_positions news ps) ≡ mode_of ps
mode_set_all [] ps = refl
mode_set_all (n ∷ ns) ps = mode_set_all ns (with_position n ps) ∙ mode_set n ps

pub not_by_topics : (ps : List Place) → mode_of ps ≢ ByTopics
not_by_topics [] = λ e. absurd (cc e)
not_by_topics (p ∷ ps) = λ e. absurd (cc e)

-- the consumer after the positions were set back, as the code has it
pub mid_is : (now : ℕ) (c d : CodeConsumer) (news : List Place) → d.settings ≡ c.settings → d.rotation ≡ c.rotation → d.unsaved ≡ c.unsaved → d.last_use ≡ now
    → map place_of d.assignment.items ≡ with_positions news (map place_of c.assignment.items) → Mid now (consumer_of c) news (consumer_of d)
mid_is now c d news settings rotation unsaved last_use after =
    let mode : mode_of (map place_of d.assignment.items) ≡ mode_of (map place_of c.assignment.items) = ap mode_of after ∙ mode_set_all news (map place_of c.assignment.items) in
    λ i. record { settings = settings_of (settings i); mode = mode i; topics = []; assignment = after i; rotation = rotation i; unsaved = unsaved i; last_use = last_use i }

pub is_plain : (c : CodeConsumer) → IsPlain (consumer_of c)
is_plain c = record { off = refl; mode = not_by_topics (map place_of c.assignment.items) }

-- a look that came to its walk
pub acts_over : (advertise : List ℕ) (key : Key) (now round : ℕ) (formats : List Format) (timeout bound : Option ℕ) (tells plain : Type 0) (before after : Counts) (c : Consumer) (a : Log) (events : List CodeEvent) (out : Outcome) (b : Log) (cm c2 : Consumer) (lots : List Lot) (wait most : ℕ)
    → IsPlain c → allows formats c.settings.format ≡ true → Passed tells a b before after
    → (sets : SetsBack tells c.settings.reset a c.assignment events b cm.assignment) → Mid now c sets.news cm
    → wait ≡ at_most c.settings.timeout_ms timeout → most ≡ at_most 4194304 bound → (tells → IsLog a → IsHand b cm.assignment lots)
    → IsOver round wait most cm lots events out c2
    → ActsSo advertise key now round (Records formats timeout bound) tells plain before after c a (events_in out) (said_in out) b c2
acts_over advertise key now round formats timeout bound tells plain before after c a events out b cm c2 lots wait most one allowed passes sets mid wait_is most_is hand (inl w) =
    acts_cut advertise key now round formats timeout bound tells plain before after c a out.events (said_in out) b c2 NoMemory sets.news one allowed passes
    (ap (map own_of) w.1 ∙ sets.told) (λ t log. sets.set t log) (w.2 ∙ mid) tt (inl refl) (ap (option_map response_in) w.0) (want_counted before after passes.counts) (λ plain t log there. tt)
acts_over advertise key now round formats timeout bound tells plain before after c a events out b cm c2 lots wait most one allowed passes sets mid wait_is most_is hand (inr w) =
    acts_walked advertise key now round formats timeout bound tells plain before after c a events out.events (said_in out) b cm c2 lots one allowed passes sets mid hand
    (subst (λ n. IsSettled round n (at_most 4194304 bound) cm lots events out.events (said_in out) c2) wait_is (subst (λ n. IsSettled round wait n cm lots events out.events (said_in out) c2) most_is w))

-- a look that a failure of the link ended
pub acts_failed : (advertise : List ℕ) (key : Key) (now round : ℕ) (formats : List Format) (timeout bound : Option ℕ) (tells plain : Type 0) (before after : Counts) (c : Consumer) (a : Log) (events : List CodeEvent) (r : CodeReply) (b : Log) (c2 : Consumer) (e : LinkNo)
    → IsPlain c → allows formats c.settings.format ≡ true → Passed tells a b before after
    → (sets : SetsBack tells c.settings.reset a c.assignment events b c2.assignment) → Mid now c sets.news c2
    → 0 < length c.assignment → ComesOf before after e → (plain → tells → AreThere a c → e ≡ Want) → SaysOrWant (link_reply e) r
    → ActsSo advertise key now round (Records formats timeout bound) tells plain before after c a (map event_of events) (Some (response_in r)) b c2
acts_failed advertise key now round formats timeout bound tells plain before after c a events r b c2 e one allowed passes sets mid sent comes good (inl says) =
    acts_cut advertise key now round formats timeout bound tells plain before after c a events (Some (response_in r)) b c2 (link_reply e) sets.news one allowed passes sets.told (λ t log. sets.set t log) mid
    (links_of before after e comes) (inr (inr (λ none. absurd (omega (arith, sent, ap length none))))) (ap (λ x. Some x) (says advertise forms (Of key (Records formats timeout bound)))) (failure_counted before after e passes.counts comes)
    (λ p t log there. good_want e (good p t there))
acts_failed advertise key now round formats timeout bound tells plain before after c a events r b c2 e one allowed passes sets mid sent comes good (inr want) =
    acts_cut advertise key now round formats timeout bound tells plain before after c a events (Some (response_in r)) b c2 NoMemory sets.news one allowed passes sets.told (λ t log. sets.set t log) mid
    tt (inl refl) (ap (λ x. Some (response_in x)) want) (want_counted before after passes.counts) (λ p t log there. tt)

-- ---- a format that isn't accepted

refused_by : (advertise : List ℕ) (key : Key) (now round : ℕ) (formats : List Format) (timeout bound : Option ℕ) (tells plain : Type 0) (counts : Counts) (c : Consumer) (a : Log) (answer : Reply) (r : CodeReply)
    → IsPlain c → allows formats c.settings.format ≡ false → (Some answer ≡ Some (RefusedBy 40601)) ⊎ (Some answer ≡ Some NoMemory)
    → response_in r ≡ response_of advertise forms (Of key (Records formats timeout bound)) answer → is_fault (Some answer) ≡ false → is_refusal (Some answer) ≡ false → IsGood answer
    → ActsSo advertise key now round (Records formats timeout bound) tells plain counts counts c a [] (Some (response_in r)) a (touched now c)
refused_by advertise key now round formats timeout bound tells plain counts c a answer r one other which says no_fault no_refusal good = record {
  reply = Some answer;
  says = ap (λ x. Some x) says;
  counted = counted_done counts counts answer (counts_stay counts) no_fault no_refusal;
  acted = λ t log table. (
    record {
      forms = forms;
      shows = λ format bytes. refl;
      own = [];
      same = refl;
      reply = Some answer;
      says = ap (λ x. Some x) says;
      acts = inl (other, refl, λ group at. refl, which, refl);
      added = refl;
      looks = quiet counts counts c [] one.mode refl;
    },
    refl,
  );
  there = λ t log there. there;
  good = λ plain t log there. good;
}

-- the refusal, or want of memory in its place
pub acts_refused : (advertise : List ℕ) (key : Key) (now round : ℕ) (formats : List Format) (timeout bound : Option ℕ) (tells plain : Type 0) (counts : Counts) (c : Consumer) (a : Log) (events : List (Key ⊎ Event)) (said : Option Response) (r : CodeReply)
    → IsPlain c → allows formats c.settings.format ≡ false → events ≡ [] → said ≡ Some (response_in r) → SaysOrWant (RefusedBy 40601) r
    → ActsSo advertise key now round (Records formats timeout bound) tells plain counts counts c a events said a (touched now c)
acts_refused advertise key now round formats timeout bound tells plain counts c a events said r one other none said_is says =
    subst (λ (es : List (Key ⊎ Event)). ActsSo advertise key now round (Records formats timeout bound) tells plain counts counts c a es said a (touched now c)) (sym none)
    (subst (λ (x : Option Response). ActsSo advertise key now round (Records formats timeout bound) tells plain counts counts c a [] x a (touched now c)) (sym said_is) (go says))
  where
    go : SaysOrWant (RefusedBy 40601) r → ActsSo advertise key now round (Records formats timeout bound) tells plain counts counts c a [] (Some (response_in r)) a (touched now c)
    go (inl is) = refused_by advertise key now round formats timeout bound tells plain counts c a (RefusedBy 40601) r one other (inl refl) (is advertise forms (Of key (Records formats timeout bound))) refl refl tt
    go (inr want) = refused_by advertise key now round formats timeout bound tells plain counts c a NoMemory r one other (inr refl) (ap response_in want) refl refl tt
