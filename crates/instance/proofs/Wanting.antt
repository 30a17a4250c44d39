-- Want of memory may be the answer of any call, which then does nothing but use the consumer.
use Rattle.std.proofs.Common.{◌≡◌, ℕ, Bool, true, false, List, [], ◌∷◌, map, refl, inl, inr, ap, sym, subst, arith, Option, Some, None}
use Rattle.std.specs.Prelude.{pos, ◌&&◌, ◌==◌, ◌≢◌}
use Rattle.model.specs.state.Log.{Log, IsLog}
use Rattle.model.specs.step.Walk.{Place}
use Rattle.model.specs.state.World.{Key, Format, Consumer, touched}
use Rattle.model.specs.state.World.Mode.{ByTopics}
use Rattle.model.specs.state.Entry.{Act, Turn}
use Rattle.model.specs.state.Entry.Act.{Create, Delete, Assign, Assignments, Records, Seek, SeekEdge, Subscription}
use Rattle.model.specs.state.Entry.Call.{Of}
use Rattle.model.specs.state.Entry.Reply.{Want}
use Rattle.model.specs.step.Fixed.{SameCommits}
use Rattle.model.specs.step.Look.{allows, is_due, IsLook, Looks}
use Rattle.model.specs.step.Acts.{Live}
use Rattle.model.specs.history.Legal as legal
use Rattle.model.specs.history.Causes.Pumped.{Unpumped}
use Rattle.model.specs.history.Noted.{live_after, LooksWell}
use Rattle.model.proofs.Stretches.{keeps_itself}
use Rattle.rest_calls.specs.Views.{asked_of}
use Rattle.rest_calls.specs.declared.call.Call.{Call}
use Rattle.rest_calls.specs.declared.call.Call.TheVariants as call
use Rattle.broker_link.specs.Causes.{Counts}
use Rattle.model.specs.texts.Texts.Response.{Wanting}
use Rattle.rest_replies.specs.Forms.{forms}
use Rattle.consumer_state.specs.Assign.{ActsSo, totals}
use Rattle.broker_link.specs.Places.{place_of}
use Rattle.consumer_state.proofs.SeekLemmas.{edge_wanting}
use Rattle.consumer_state.specs.Views.{mode_of, consumer_of}
use Rattle.instance.specs.Views.{Live as Seen, event_of}
use Rattle.consumer_state.specs.declared.consumer.Consumer.{Consumer as Kept}
use Rattle.instance.specs.declared.event.Event.{Event as CodeEvent}

pub same : (a : Log) → SameCommits a a
same a = λ other at. refl

-- nothing is due where the consumer doesn't commit by itself
pub not_due : (c : Consumer) (round : ℕ) → c.settings.auto_commit ≡ false → is_due c round ≡ false
not_due c round off = rw off (go (round == 0))
  where
    go : (b : Bool) → (b && false) ≡ false
    go true = refl
    go false = refl

pub wanting_look : (key : Key) (moment : ℕ) (turn : Turn) (timeout bound : Option ℕ) (c : Consumer) (a : Log) → c.settings.auto_commit ≡ false → IsLog a
    → IsLook key moment turn timeout bound c a [] (Some Want) a (Some (touched moment c))
wanting_look key moment turn timeout bound c a off log =
    let none : is_due c turn.round ≡ false = not_due c turn.round off in record {
      saved = None;
      placed = None;
      resets = [];
      looked = [];
      order = refl;
      code = λ p. pos 0;
      saves = inl (none, same a);
      answered = λ k is some. absurd (cc some);
      due = λ is no. absurd (cc (none, is));
      middle = a;
      log = log;
      places = keeps_itself a;
      set = keeps_itself a;
      ends = inl (record { why = Want; links = tt; cause = inl refl; marks = refl; says = refl; left = refl });
    }

-- whichever formats the request accepts
wanting_looks : (key : Key) (moment : ℕ) (turn : Turn) (formats : List Format) (timeout bound : Option ℕ) (c : Consumer) (a : Log) → c.settings.auto_commit ≡ false → IsLog a
    → (allowed : Bool) → allows formats c.settings.format ≡ allowed → Looks key moment turn formats timeout bound c a [] (Some Want) a (Some (touched moment c))
wanting_looks key moment turn formats timeout bound c a off log true is = inr (is, wanting_look key moment turn timeout bound c a off log)
wanting_looks key moment turn formats timeout bound c a off log false is = inl (is, refl, same a, inr refl, refl)

pub mode_is : (places : List Place) → mode_of places ≢ ByTopics
mode_is [] is = absurd (cc is)
mode_is (place ∷ places) is = absurd (cc is)

-- what a call that only wants memory does
pub wanting : (call : Call) (key : Key) (act : Act) → asked_of call ≡ Of key act → (moment : ℕ) (turn : Turn) (c : Consumer) (a : Log) → c.settings.auto_commit ≡ false → c.mode ≢ ByTopics → IsLog a
    → Live key moment turn act c a [] (Some Want) a (live_after act (Some Want) (touched moment c))
wanting (call.Produce topic batch) key act is moment turn c a off mode log = absurd (cc is)
wanting (call.Ask question) key act is moment turn c a off mode log = absurd (cc is)
wanting (call.Create group name settings) key (Create s) is moment turn c a off mode log = (refl, same a, inr (record { says = refl; left = refl }))
wanting (call.Delete group name) key Delete is moment turn c a off mode log = (refl, inl (not_due c 0 off, same a), inr (record { says = refl; left = refl }))
wanting (call.Assign group name parts) key (Assign ats) is moment turn c a off mode log = (refl, same a, inr (mode, inr (inl (record { says = refl; left = refl }))))
wanting (call.Assignments group name) key Assignments is moment turn c a off mode log = (refl, same a, inr (record { says = refl; left = refl }))
wanting (call.Subscription group name) key Subscription is moment turn c a off mode log = (refl, same a, inr (record { says = refl; left = refl }))
wanting (call.Seek group name places) key (Seek news) is moment turn c a off mode log = (refl, same a, inr (record { says = refl; left = refl }))
wanting (call.SeekEdge group name code parts) key (SeekEdge edge ats) is moment turn c a off mode log = (refl, same a, edge_wanting moment edge ats c a a)
wanting (call.Records group name accepts timeout bound) key (Records formats t b) is moment turn c a off mode log = wanting_looks key moment turn formats t b c a off log (allows formats c.settings.format) refl
wanting call key act is moment turn c a off mode log = absurd (cc is)

pub unpumped : (call : Call) (key : Key) (act : Act) → asked_of call ≡ Of key act → (before after : legal.Counts) (c : Consumer) → c.mode ≢ ByTopics → LooksWell before after None None c act []
unpumped (call.Produce topic batch) key act is before after c mode = absurd (cc is)
unpumped (call.Ask question) key act is before after c mode = absurd (cc is)
unpumped (call.Create group name settings) key (Create s) is before after c mode = tt
unpumped (call.Delete group name) key Delete is before after c mode = tt
unpumped (call.Assign group name parts) key (Assign ats) is before after c mode = tt
unpumped (call.Assignments group name) key Assignments is before after c mode = tt
unpumped (call.Subscription group name) key Subscription is before after c mode = tt
unpumped (call.Seek group name places) key (Seek news) is before after c mode = tt
unpumped (call.SeekEdge group name code parts) key (SeekEdge edge ats) is before after c mode = tt
unpumped (call.Records group name accepts timeout bound) key (Records formats t b) is before after c mode =
    record { pumped = Unpumped; pump = record { pumps = λ by reached. absurd (mode by); quiet = λ other. refl; steady = λ e. absurd (cc e); not_yet = λ e. absurd (cc e); lost = λ e. absurd (cc e); shared = λ ats e. absurd (cc e) }; ties = λ ats e. absurd (cc e); places = λ looked. (refl, λ e. absurd (cc e)) }
unpumped call key act is before after c mode = absurd (cc is)

pub want_acts : (call : Call) (advertise : List ℕ) (key : Key) (moment round : ℕ) (act : Act) → asked_of call ≡ Of key act → (tells plain : Type 0) (before : Counts) (c : Consumer) (a : Log)
    → c.settings.auto_commit ≡ false → c.mode ≢ ByTopics → ActsSo advertise key moment round act tells plain before before c a [] (Some Wanting) a (touched moment c)
want_acts call advertise key moment round act is tells plain before c a off mode = record {
  reply = Some Want;
  says = refl;
  counted = record { faults_kept = omega arith; refusals_kept = omega arith; sent_kept = omega arith; polls_kept = omega arith; beats_kept = omega arith; fault = λ e. absurd (cc e); refusal = λ e. absurd (cc e); code = λ code e. absurd (cc e) };
  acted = λ told log table. (
    record {
      forms = forms;
      shows = λ format bytes. refl;
      own = [];
      same = refl;
      reply = Some Want;
      says = refl;
      acts = wanting call key act is moment (record { round = round; forms = forms }) c a off mode log;
      added = refl;
      looks = unpumped call key act is (totals before) (totals before) c mode;
    },
    refl,
  );
  there = λ told log there. there;
  good = λ is_plain told log there. tt;
}

used : ℕ → Kept → Kept
used moment k = record { settings = k.settings; assignment = k.assignment; rotation = k.rotation; unsaved = k.unsaved; last_use = moment }

pub want_seen : (call : Call) (advertise : List ℕ) (kept : Kept) (key : Key) (live : Seen) (events : List CodeEvent) → record { key = key; consumer = consumer_of kept } ≡ live → events ≡ []
    → (moment round : ℕ) (act : Act) → asked_of call ≡ Of live.key act → (tells plain : Type 0) (before : Counts) (a : Log)
    → ActsSo advertise live.key moment round act tells plain before before live.consumer a (map event_of events) (Some Wanting) a (consumer_of (record { settings = kept.settings; assignment = kept.assignment; rotation = kept.rotation; unsaved = kept.unsaved; last_use = moment }))
want_seen call advertise kept key live events seen none moment round act is tells plain before a =
    subst (λ (es : List CodeEvent). ActsSo advertise live.key moment round act tells plain before before live.consumer a (map event_of es) (Some Wanting) a (touched moment (consumer_of kept))) (sym none)
    (subst (λ (c : Consumer). ActsSo advertise live.key moment round act tells plain before before c a [] (Some Wanting) a (touched moment (consumer_of kept))) (ap (λ (l : Seen). l.consumer) seen)
    (want_acts call advertise live.key moment round act is tells plain before (consumer_of kept) a refl (mode_is (map place_of kept.assignment.items))))

-- no instance is subscribed
pub never_by_topics : (kept : Kept) (key : Key) (live : Seen) → record { key = key; consumer = consumer_of kept } ≡ live → live.consumer.mode ≢ ByTopics
never_by_topics kept key live seen = subst (λ (l : Seen). l.consumer.mode ≢ ByTopics) seen (mode_is (map place_of kept.assignment.items))
