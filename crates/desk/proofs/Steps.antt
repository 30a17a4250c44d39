-- A consumer's call is one step of the model.
use Rattle.std.proofs.Common.{◌≡◌, ℕ, suc, ◌+◌, ◌-◌, ◌^◌, ◌<◌, Bool, true, false, cond, List, [], ◌∷◌, get_or, zero, refl, ap, sym, ◌∙◌, subst, arith, inl, Option, Some, None}
use Rattle.std.specs.Prelude.{ℤ, bytes_eq, codes, map, max, option_map, length, ◌≢◌, IfSome}
use Rattle.gate_io.specs.Counts.{Rose}
use Rattle.model.specs.state.Log.{TopicPart, Topic, Log, IsLog, Keeps, parts_in}
use Rattle.model.specs.state.World.{Key, is_key, Consumer, World, IsConsumer}
use Rattle.model.specs.state.World.{Mode}
use Rattle.model.specs.state.World.Mode.{Unset, ByTopics, Assigned}
use Rattle.model.proofs.Moves.{same_from_is_key}
use Rattle.model.specs.state.World.{Format}
use Rattle.model.specs.state.World.Format.{Binary, Json, Avro}
use Rattle.model.specs.state.Forms.{Forms, IsForms, Showing}
use Rattle.model.specs.state.Forms.Showing.{Text, Unshown}
use Rattle.model.specs.state.Entry.{Act, Call, Event, Reply, Entry}
use Rattle.model.specs.state.Entry.Act.{Records}
use Rattle.model.specs.state.Entry.Call.{Of}
use Rattle.model.specs.state.Entry.Event.{Committed, Rebalanced, Reset, Looked}
use Rattle.model.specs.state.Entry.Reply.{Broker}
use Rattle.model.specs.step.Fixed.{SameCommits, HasPart}
use Rattle.model.specs.step.Step.{left, is_by_topics, IsIdle, IsExpired}
use Rattle.model.specs.history.Legal.{one_if, Tally, no_tally, plus, entry_tally, events_tally, event_tally, call_tally, is_fault, is_refusal}
use Rattle.model.specs.history.Causes.{IsCaused, Rises}
use Rattle.model.specs.history.Noted.{IsTable, events_of, said_of}
use Rattle.broker_link.specs.Causes.{Counts}
use Rattle.broker_link.specs.Replies.{IsCountedIf}
use Rattle.rest_calls.specs.Responses.{response_in}
use Rattle.broker_link.specs.Places.{place_of}
use Rattle.instance.specs.Views.{event_of}
use Rattle.instance.specs.declared.event.Event.{Event as CodeEvent}
use Rattle.instance.specs.declared.event.Event.TheVariants as code
use Rattle.rest_replies.specs.Forms.{forms, shown, shows}
use Rattle.consumer_state.specs.Assign.{AreThere, totals}
use Rattle.desk.specs.Shelf.{consumer_in, world_in, AreSound, AllThere}
use Rattle.desk.specs.Call.{CallsSo, OthersStay}
use Rattle.desk.specs.declared.consumers.Consumers.{Consumers}
use Rattle.broker_link.specs.Stands.{Goes, Stand}
use Rattle.desk.specs.Step.{noted, no_expiry, AreLow, StepsSo}
use Rattle.desk.specs.declared.entry.Entry.{Entry as CodeEntry}

-- ---- the world

not_idle : (moment : ℕ) (o : Option Consumer) → moment < 2 ^ 64 → IsIdle no_expiry moment o → ⊥
not_idle moment None low idle = idle
not_idle moment (Some c) low idle = absurd (omega (arith, low, idle))

pub none_expired : (moment : ℕ) (w : World) → moment < 2 ^ 64 → IsExpired no_expiry moment w []
none_expired moment w low = record { rise = λ i j d less short. absurd (omega (arith, short)); each = λ key. (λ e. absurd (cc e), λ idle. absurd (not_idle moment (w.at key) low idle)) }

text_in : Showing → List ℕ
text_in (Text text) = text
text_in (Unshown reason) = []

null_shown : (format : Format) → shows format None ≡ Text (codes "null")
null_shown Binary = refl
null_shown Json = refl
null_shown Avro = refl

pub forms_from : (forms : Forms) → ((table : List (List ℕ)) → IsTable shown table forms) → IsForms forms
unfolding text_in
forms_from shown_forms is = record { null = λ format. is [] format None ∙ null_shown format; base64 = λ bytes. text_in (shows Binary (Some bytes)); binary = λ bytes. is [] Binary (Some bytes) }

-- ---- what an entry owes

-- neither a commit nor a rebalance
abbrev IsQuiet : Event → Type 0
IsQuiet (Committed rows) = ⊥
IsQuiet (Rebalanced places) = ⊥
IsQuiet (Reset place) = Unit {0}
IsQuiet (Looked round) = Unit {0}

are_quiet : (own : List Event) (es : List CodeEvent) → map event_of es ≡ events_of [] own → (k : ℕ) (d : Event) → k < length own → IsQuiet (get_or own k d)
are_quiet [] es is k d lt = absurd (omega (arith, lt))
are_quiet (e ∷ own) [] is k d lt = absurd (cc is)
are_quiet (e ∷ own) (code.Reset place ∷ es) is zero d lt = (let f : Reset (place_of place) ≡ e = cc is in subst IsQuiet f tt)
are_quiet (e ∷ own) (code.Looked round ∷ es) is zero d lt = (let f : Looked round ≡ e = cc is in subst IsQuiet f tt)
are_quiet (e ∷ own) (x ∷ es) is (suc k) d lt = (let f : map event_of es ≡ events_of [] own = cc is in are_quiet own es f k d (omega (arith, lt)))

not_by_topics : (m : Mode) → m ≢ ByTopics → is_by_topics m ≡ false
not_by_topics ByTopics mode = absurd (mode refl)
not_by_topics Unset mode = refl
not_by_topics Assigned mode = refl

quiet_event : (c : Consumer) (e : Event) → c.mode ≢ ByTopics → IsQuiet e → event_tally c e ≡ no_tally
quiet_event c (Committed rows) mode quiet = absurd quiet
quiet_event c (Rebalanced places) mode quiet = absurd quiet
quiet_event c (Reset place) mode quiet = refl
quiet_event c (Looked round) mode quiet = ap (λ (b : Bool). record { faults = 0; refusals = 0; short = 0; placed = 0; looks = one_if b }) (not_by_topics c.mode mode)

quiet_events : (c : Consumer) (own : List Event) → c.mode ≢ ByTopics → ((k : ℕ) (d : Event) → k < length own → IsQuiet (get_or own k d)) → events_tally (Some c) own ≡ no_tally
quiet_events c [] mode quiet = refl
quiet_events c (e ∷ own) mode quiet =
    ap (λ (t : Tally). plus t (events_tally (Some c) own)) (quiet_event c e mode (quiet 0 e (omega arith)))
    ∙ ap (λ (t : Tally). plus no_tally t) (quiet_events c own mode (λ k d lt. quiet (suc k) d (omega (arith, lt))))

quiet_of : (o : Option Consumer) (own : List Event) → IfSome o (λ (x : Consumer). x.mode ≢ ByTopics) → ((k : ℕ) (d : Event) → k < length own → IsQuiet (get_or own k d)) → events_tally o own ≡ no_tally
quiet_of None own mode quiet = refl
quiet_of (Some c) own mode quiet = quiet_events c own mode quiet

quiet_call : (found : Key → Option Consumer) (key : Key) (act : Act) (own : List Event) → events_tally (found key) own ≡ no_tally → call_tally found (Some (Of key act)) own ≡ no_tally
quiet_call found key (Records formats timeout bound) own quiet = quiet
quiet_call found key act own quiet = refl

-- ---- the causes

rose_low : (c d : ℕ) → Rose c d → d < 2 ^ 64 - 1 → c < d
rose_low c d rose low = omega (arith, rose, low)

counted_rises : (c d : Counts) (reply : Option Reply) → IsCountedIf c d reply → Rises (totals c) (totals d)
counted_rises c d None counted = record { faults = counted.faults_kept; refusals = counted.refusals_kept; polls = counted.polls_kept; beats = counted.beats_kept }
counted_rises c d (Some r) counted = record { faults = counted.faults_kept; refusals = counted.refusals_kept; polls = counted.polls_kept; beats = counted.beats_kept }

fault_rises : (c d : Counts) (reply : Option Reply) → IsCountedIf c d reply → AreLow d → is_fault reply ≡ true → c.faults < d.faults
fault_rises c d None counted low is = absurd (cc is)
fault_rises c d (Some r) counted low is = rose_low c.faults d.faults (counted.fault is) low.faults_low

refusal_rises : (c d : Counts) (reply : Option Reply) → IsCountedIf c d reply → AreLow d → is_refusal reply ≡ true → c.refusals < d.refusals
refusal_rises c d None counted low is = absurd (cc is)
refusal_rises c d (Some r) counted low is = rose_low c.refusals d.refusals (counted.refusal is) low.refusals_low

code_comes : (c d : Counts) (reply : Option Reply) (k : ℤ) → IsCountedIf c d reply → reply ≡ Some (Broker k) → k ≡ d.last_code
code_comes c d None k counted is = absurd (cc is)
code_comes c d (Some r) k counted is = sym (counted.code k (let f = is in cc f))

-- an entry whose call owes nothing but its reply has its causes in the counts
pub caused_by : (c d : Counts) (w : World) (e : Entry) → IsCountedIf c d e.reply → call_tally (left e.expired w) e.call e.events ≡ no_tally → AreLow d → IsCaused (totals c) (totals d) d.last_code [] w e
caused_by c d w e counted quiet low = record {
  rises = counted_rises c d e.reply counted;
  fault = fault_rises c d e.reply counted low;
  refusal = refusal_rises c d e.reply counted low;
  code = λ k is. inl (code_comes c d e.reply k counted is);
  told = λ commit fed some. absurd (some refl);
  passed = λ records fed code is. absurd (cc is);
  short = λ lt. (let z : (entry_tally w e).short ≡ 0 = ap (λ (t : Tally). 0 + t.short) quiet in absurd (omega (arith, lt, z)));
  looked = λ lt. (let z : (entry_tally w e).looks ≡ 0 = ap (λ (t : Tally). 0 + t.looks) quiet in absurd (omega (arith, lt, z)));
}

-- ---- the partitions that are there stay there

abbrev shapes : List Topic → List (List ℕ × ℕ)
shapes topics = map (λ (t : Topic). (t.name, length t.parts)) topics

count_kept : (xs ys : List Topic) (name : List ℕ) → shapes ys ≡ shapes xs → length (parts_in ys name) ≡ length (parts_in xs name)
count_kept [] [] name e = refl
count_kept [] (y ∷ ys) name e = absurd (cc e)
count_kept (x ∷ xs) [] name e = absurd (cc e)
count_kept (x ∷ xs) (y ∷ ys) name e = (let rest : shapes ys ≡ shapes xs = cc e in let pair : (y.name, length y.parts) ≡ (x.name, length x.parts) = cc e in let same : y.name ≡ x.name = ap (λ (p : List ℕ × ℕ). p.0) pair in let count : length y.parts ≡ length x.parts = ap (λ (p : List ℕ × ℕ). p.1) pair in both (bytes_eq x.name name) refl (count_kept xs ys name rest) same count)
  where
    both : (t : Bool) → bytes_eq x.name name ≡ t → length (parts_in ys name) ≡ length (parts_in xs name) → y.name ≡ x.name → length y.parts ≡ length x.parts
        → length (parts_in (y ∷ ys) name) ≡ length (parts_in (x ∷ xs) name)
    both true f rest same count = rw (same, f) count
    both false f rest same count = rw (same, f) rest

part_kept : (a b : Log) (at : TopicPart) → Keeps a b → HasPart a at → HasPart b at
part_kept a b at keeps has = (let e = count_kept a.topics b.topics at.topic keeps.shape in omega (arith, has, e))

pub there_later : (a b : Log) → Keeps a b → (c : Consumer) → AreThere a c → AreThere b c
there_later a b keeps c there = λ k d lt. part_kept a b (get_or c.assignment k d).at keeps (there k d lt)

if_some : (o : Option Consumer) (P : Consumer → Type 0) → ((c : Consumer) → o ≡ Some c → P c) → IfSome o P
if_some None P each = tt
if_some (Some c) P each = each c refl

all_there : (key : Key) (xs ys : Consumers) (last moment : ℕ) (a b : Log) → Keeps a b → OthersStay key xs ys → (IfSome (consumer_in xs key) (AreThere a) → IfSome (consumer_in ys key) (AreThere b)) → AllThere a (world_in xs last) → AllThere b (world_in ys moment)
all_there key xs ys last moment a b keeps others own there = λ other c is. go other c is (is_key other key) refl
  where
    one : (o : Option Consumer) (P : Consumer → Type 0) (c : Consumer) → IfSome o P → o ≡ Some c → P c
    one None P c holds is = absurd (cc is)
    one (Some x) P c holds is = subst P (let f = is in cc f) holds

    go : (other : Key) (c : Consumer) → consumer_in ys other ≡ Some c → (same : Bool) → is_key other key ≡ same → AreThere b c
    go other c is true e =
        let at : other ≡ key = same_from_is_key other key e in
        one (consumer_in ys key) (AreThere b) c (own (if_some (consumer_in xs key) (AreThere a) (λ d found. there key d found))) (ap (λ (k : Key). consumer_in ys k) (sym at) ∙ is)
    go other c is false e = there_later a b keeps c (there other c (sym (others other e) ∙ is))

-- ---- the step

pub step_of : (advertise : List ℕ) (caller now round : ℕ) (call : Call) (key : Key) (act : Act) (a b : Stand) (xs ys : Consumers) (last moment last2 : ℕ) (e : CodeEntry)
    → call ≡ Of key act → CallsSo advertise key moment round act a.tells a.plain a.counts b.counts (consumer_in xs key) a.log (map event_of e.events) (option_map response_in e.reply) b.log (consumer_in ys key)
    → OthersStay key xs ys → AreSound ys → Goes a b → e.caller ≡ caller → e.moment ≡ moment → (noted e).call ≡ Some call → e.round ≡ Some round → moment ≡ max now last → moment < 2 ^ 64 → last2 ≡ moment
    → StepsSo no_expiry advertise a (world_in xs last) (noted e) b (world_in ys last2)
step_of advertise caller now round call key act a b xs ys last moment last2 e is calls others sound goes whose when called at latest low still = record {
  goes = goes;
  reply = calls.reply;
  says = calls.says ∙ ap (λ (c : Option Call). said_of advertise forms c calls.reply) (sym asked);
  counted = calls.counted;
  steps = λ told log.
      let one = calls.called told log in
      let entry : Entry = record { caller = caller; moment = moment; turn = record { round = round; forms = one.turn_forms }; expired = []; events = one.own; call = Some (Of key act); reply = calls.reply } in
      record {
        entry = entry;
        same = λ i. record { caller = whose i; moment = when i; events = one.same i; call = asked i; round = at i; table = (noted e).table; reply = one.says i };
        reply_is = refl;
        shows = one.shows;
        step = record {
          keeps = goes.keeps told;
          log = goes.is_log told log;
          world = λ k c found. sound k c found;
          forms = forms_from one.turn_forms one.shows;
          later = omega (arith, latest);
          last = still;
          does = inl (record { expired = none_expired moment (world_in xs last) low; does = (one.acts, one.added, others) });
        };
        quiet = quiet_call (consumer_in xs) key act one.own (quiet_of (consumer_in xs key) one.own calls.unsubscribed (are_quiet one.own e.events one.same));
        caused = λ lower. caused_by a.counts b.counts (world_in xs last) entry calls.counted (quiet_call (consumer_in xs) key act one.own (quiet_of (consumer_in xs key) one.own calls.unsubscribed (are_quiet one.own e.events one.same))) lower;
      };
  there = λ told log. all_there key xs ys last last2 a.log b.log (goes.keeps told) others (calls.there told log);
  good = λ is_plain told log there. calls.good is_plain told log (if_some (consumer_in xs key) (AreThere a.log) (λ c found. there key c found));
}
  where
    asked : (noted e).call ≡ Some (Of key act)
    asked = called ∙ ap Some is
