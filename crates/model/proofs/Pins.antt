-- The laws that fix the model's words follow from them one by one.
use Rattle.std.proofs.Common.{◌≡◌, ℕ, ◌+◌, ◌<◌, ◌≤◌, ◌==◌, ◌&&◌, not, Bool, true, false, cond, List, [], ◌∷◌, ◌++◌, map, length, refl, sym, ap, subst, ◌∙◌, inl, inr, arith, Option, Some, None}
use Rattle.std.specs.Prelude.{ℤ, pos, nat_lt, ◌<ℤ◌, ◌⊎◌, ◌↔◌, ◌≢◌, AllPairs, All, Contains, IsTrue, IsSome, bytes_eq, count_by, sum_by}
use Rattle.std.specs.List.{list_any}
use mathlib.Core.List.{IsPrefix}
use Rattle.std.proofs.lemmas.List.{append-nil}
use Rattle.std.proofs.lemmas.List.Sums.{sum_by-cons}
use Rattle.std.proofs.lemmas.List.Elements.{All-contains, All-cons, All-head, All-nil}
use Rattle.std.proofs.lemmas.Slice.Eq.{bytes_eq-Decides}
use Rattle.model.specs.state.Log.{TopicPart, Log, part_at}
use Rattle.model.specs.step.Walk.{Place, Lot, Item, rows_at}
use Rattle.model.specs.state.World.{Key, is_key, Settings, Format, Consumer, World, touched, position_in}
use Rattle.model.specs.state.World.{Mode}
use Rattle.model.specs.state.World.Mode.{ByTopics}
use Rattle.model.specs.state.Entry.{Event, Reply, Turn, Entry, Call, PartTold, Placed, Batch, Given}
use Rattle.model.specs.state.Entry.Act.{Create, Delete, Subscription, Unsubscribe, Assignments, Subscribe, Assign, Fixed, Seek, SeekEdge, Commit, Records}
use Rattle.model.specs.state.Entry.Call.{Produce, Ask, Of}
use Rattle.model.specs.state.Entry.Event.{Committed, Rebalanced, Reset, Looked}
use Rattle.model.specs.state.Entry.Placed.{Failed}
use Rattle.model.specs.state.Entry.Question.{Brokers}
use Rattle.model.specs.state.Entry.Reply.{Done, Answers, Broker, Nodes, Refused, Shown, Told, Want}
use Rattle.model.specs.step.Fixed.{IsOutside}
use Rattle.model.specs.step.Look.{Looks, allows, is_listed}
use Rattle.model.specs.step.Step.{Live, Gone, Acts, Step, Whole, Starved, Does, Tells, is_by_topics, left, sent_of, first_code, saved_if, IsDone, IsWanting, EndsIf}
use Rattle.model.specs.history.Legal.{Counts, Tally, Run, Legal, Ran, AreLive, event_tally, events_tally, call_tally, entry_tally, is_fault, one_if}
use Rattle.model.specs.history.Causes.{IsCaused, is_commit, is_records, IsRebalanced, IsPumped, Rises, Pumped, has_looked, is_out, placed_in, Rebalances, to_fix}
use Rattle.model.specs.history.Causes.Pumped.{Unpumped, Steady, NotYet, Lost, Shared}
use Rattle.model.specs.history.Sessions.{IsCodeOf, IsQuiet, IsTooLarge, records_for, records_of}
use Rattle.model.specs.step.Buffers.{Fetches, IsBuffered, IsFetched, buffered_at, rows_at_hand}
use Rattle.model.specs.history.Nodes.{Heard, HasNodes}
use Rattle.model.specs.examples.Pinned.{rebalances_in, rebalances_of}
use Rattle.model.proofs.Singles.{short_by, same_mark}

pub nodes_rise : (a b : Log) (nodes : List ℤ) → Tells Brokers a b (Nodes nodes) → AllPairs (λ x y. x <ℤ y) nodes
nodes_rise a b nodes t = let e : t.0 ≡ nodes = sym (cc t.2) in subst (λ (ns : List ℤ). AllPairs (λ x y. x <ℤ y) ns) e t.1

pub names_are_taken : (key : Key) (moment : ℕ) (turn : Turn) (settings : Settings) (c : Consumer) (a : Log) (events : List Event) (reply : Option Reply) (b : Log) (c2 : Option Consumer)
    → Live key moment turn (Create settings) c a events reply b c2 → (reply ≡ Some (Refused 40902)) ⊎ (reply ≡ Some Want)
names_are_taken key moment turn settings c a events reply b c2 (e, s, inl r) = inl r.says
names_are_taken key moment turn settings c a events reply b c2 (e, s, inr w) = inr w.says

pub formats_are_uses : (key : Key) (moment : ℕ) (turn : Turn) (formats : List Format) (timeout bound : Option ℕ) (c : Consumer) (a : Log) (events : List Event) (reply : Option Reply) (b : Log) (c2 : Option Consumer)
    → allows formats (let s = c.settings in s.format) ≡ false → Looks key moment turn formats timeout bound c a events reply b c2 → (events ≡ []) × (c2 ≡ Some (touched moment c))
formats_are_uses key moment turn formats timeout bound c a events reply b c2 other (inl r) = (r.1, r.4)
formats_are_uses key moment turn formats timeout bound c a events reply b c2 other (inr r) = absurd (cc (r.0, other))

pub refused_commits : (key : Key) (moment : ℕ) (turn : Turn) (c d : Consumer) (a : Log) (events : List Event) (code : ℤ) (b : Log)
    → Live key moment turn (Commit None) c a events (Some (Broker code)) b (Some d) → d.unsaved ≡ c.unsaved
refused_commits key moment turn c d a events code b (inl r) = go r.ends
  where
    go : IsDone (first_code r.code c.assignment) (Some (Broker code)) (Some (touched moment (saved_if (length r.taken == length c.assignment) c))) (Some d) ⊎ IsWanting (Some (Broker code)) (Some (touched moment c)) (Some d)
        → d.unsaved ≡ c.unsaved
    go (inl x) =
        let answered : first_code r.code c.assignment ≡ Broker code = cc x.says in
        let fewer : length r.taken < length c.assignment = subst (λ (xs : List Place). length xs < length c.assignment) (sym r.took) (short_by r.code c.assignment code answered) in
        let differ : (length r.taken == length c.assignment) ≡ false = grind (arith, fewer) in
        let e : d ≡ touched moment (saved_if (length r.taken == length c.assignment) c) = cc x.left in
        ap (λ (y : Consumer). y.unsaved) e ∙ (ap (λ b. c.unsaved && not b) differ ∙ same_mark c.unsaved)
    go (inr x) = absurd (cc x.says)
refused_commits key moment turn c d a events code b (inr r) = go r.2
  where
    go : EndsIf c.assignment moment c (Some (Broker code)) (Some d) ⊥ → d.unsaved ≡ c.unsaved
    go (inl no_way) = absurd no_way
    go (inr (inl x)) = absurd (cc x.says)
    go (inr (inr x)) = let y = x.1 in let e : d ≡ touched moment c = cc y.left in ap (λ (z : Consumer). z.unsaved) e

pub inside_stay : (seen : Log) (places : List Place) (new : Place) (old : ℕ)
    → position_in places new.at ≡ Some old → (let p = part_at seen new.at in (p.start ≤ old) × (old ≤ p.end)) → IsOutside seen places new → ⊥
inside_stay seen places new old is inside out = go out.outside
  where
    same : out.old ≡ old
    same = cc (out.was, is)

    go : (out.old < (part_at seen new.at).start) ⊎ ((part_at seen new.at).end < out.old) → ⊥
    go (inl lt) = absurd (omega (arith, lt, same, inside.0))
    go (inr lt) = absurd (omega (arith, lt, same, inside.1))

pub commits_tell : (before after : Counts) (last : ℤ) (w : World) (e : Entry) → is_commit e.call ≡ true
    → (IsCaused before after last (pos 16 ∷ []) w e → e.reply ≡ Some Done → ⊥)
    × (IsCaused before after last (pos 0 ∷ pos 3 ∷ pos 16 ∷ []) w e → e.reply ≡ Some (Broker (pos 16)) → ⊥)
    × (IsCaused before after last (pos 0 ∷ pos 0 ∷ []) w e → e.reply ≢ Some Want → e.reply ≡ Some Done)
commits_tell before after last w e commit = (
  λ caused done. let says : e.reply ≡ Some (Broker (pos 16)) = caused.told commit (λ want. absurd (cc (done, want))) (λ none. absurd (cc none)) in absurd (cc (says, done)),
  λ caused last. let says : e.reply ≡ Some (Broker (pos 3)) = caused.told commit (λ want. absurd (cc (last, want))) (λ none. absurd (cc none)) in absurd (cc (says, last)),
  λ caused some. caused.told commit some (λ none. absurd (cc none)),
)

pub others_are_answered : (before after : Counts) (last : ℤ) (w : World) (e : Entry) (format : Format) (items : List Item) → is_records e.call ≡ true
    → (IsCaused before after last (pos 16 ∷ []) w e → e.reply ≡ Some (Shown format items) → ⊥)
    × (IsCaused before after last (pos 27 ∷ pos 3 ∷ []) w e → e.reply ≡ Some (Broker (pos 16)) → ⊥)
others_are_answered before after last w e format items records = (
  λ caused shown. let says : e.reply ≡ Some (Broker (pos 16)) = caused.passed records (λ want. absurd (cc (shown, want))) (pos 16) refl in absurd (cc (says, shown)),
  λ caused answered. let says : e.reply ≡ Some (Broker (pos 3)) = caused.passed records (λ want. absurd (cc (answered, want))) (pos 3) refl in absurd (cc (says, answered)),
)

pub looks_pump : (before after : Counts) (given unfixed : Option (List TopicPart)) (c : Consumer) (events : List Event)
    → Rises before after → IsRebalanced before after given unfixed c events → c.mode ≡ ByTopics → has_looked events ≡ true
    → before.beats + before.polls + before.refusals < after.beats + after.polls + after.refusals
looks_pump before after given unfixed c events rises r mode looked = go r.pumped r.pump
  where
    go : (p : Pumped) → IsPumped before after c (IsTrue (has_looked events)) p → before.beats + before.polls + before.refusals < after.beats + after.polls + after.refusals
    go Unpumped pump = absurd (pump.pumps mode looked refl)
    go Steady pump = omega (arith, pump.steady refl, rises.polls, rises.refusals)
    go NotYet pump = omega (arith, pump.not_yet refl, rises.beats, rises.refusals)
    go Lost pump = omega (arith, pump.lost refl, rises.beats, rises.polls)
    go (Shared ats) pump = let up = pump.shared ats refl in omega (arith, up, rises.beats, rises.refusals)

-- what a rebalance says once its places are known
places_of : (before after : Counts) (given unfixed : Option (List TopicPart)) (c : Consumer) (events : List Event) (r : IsRebalanced before after given unfixed c events) (places : Option (List Place))
    → placed_in events ≡ places → Rebalances c r.pumped unfixed (IsTrue (has_looked events)) places
places_of before after given unfixed c events r places is = subst (Rebalances c r.pumped unfixed (IsTrue (has_looked events))) is r.places

pub lost_are_told : (before after : Counts) (given unfixed : Option (List TopicPart)) (c : Consumer) (events : List Event) (r : IsRebalanced before after given unfixed c events)
    → is_out r.pumped ≡ true → has_looked events ≡ true → c.assignment ≢ [] → placed_in events ≡ Some []
lost_are_told before after given unfixed c events r out looked some = go (placed_in events) refl
  where
    none_fixed : (p : Pumped) → is_out p ≡ true → to_fix p unfixed ≡ None
    none_fixed Unpumped e = absurd (cc e)
    none_fixed Steady e = absurd (cc e)
    none_fixed NotYet e = refl
    none_fixed Lost e = refl
    none_fixed (Shared ats) e = absurd (cc e)

    go : (places : Option (List Place)) → placed_in events ≡ places → placed_in events ≡ Some []
    go None is = let x = places_of before after given unfixed c events r None is looked in absurd (some (x.1 out))
    go (Some places) is = of_places (places_of before after given unfixed c events r (Some places) is)
      where
        of_places : Rebalances c r.pumped unfixed (IsTrue (has_looked events)) (Some places) → placed_in events ≡ Some []
        of_places (inl x) = absurd (cc (x.1, none_fixed r.pumped out))
        of_places (inr x) = is ∙ ap Some x.1

pub shares_are_given : (before after : Counts) (given unfixed : Option (List TopicPart)) (c : Consumer) (events : List Event) (r : IsRebalanced before after given unfixed c events) (ats : List TopicPart) (places : List Place)
    → to_fix r.pumped unfixed ≡ Some ats → placed_in events ≡ Some places
    → (given ≡ Some ats) × ((at : TopicPart) → Contains (map (λ (place : Place). place.at) places) at ↔ (Contains ats at × IsTrue (is_listed c.topics at.topic)))
shares_are_given before after given unfixed c events r ats places fixes is =
    (r.ties ats fixes, go (places_of before after given unfixed c events r (Some places) is))
  where
    none_fixed : (p : Pumped) → is_out p ≡ true → to_fix p unfixed ≡ None
    none_fixed Unpumped e = absurd (cc e)
    none_fixed Steady e = absurd (cc e)
    none_fixed NotYet e = refl
    none_fixed Lost e = refl
    none_fixed (Shared bs) e = absurd (cc e)

    go : Rebalances c r.pumped unfixed (IsTrue (has_looked events)) (Some places) → (at : TopicPart) → Contains (map (λ (place : Place). place.at) places) at ↔ (Contains ats at × IsTrue (is_listed c.topics at.topic))
    go (inl x) at =
        let e : x.0 ≡ ats = (let both : Some x.0 ≡ Some ats = sym x.1 ∙ fixes in cc both) in
        let share = x.2 in
        subst (λ (gs : List TopicPart). Contains (map (λ (place : Place). place.at) places) at ↔ (Contains gs at × IsTrue (is_listed c.topics at.topic))) e (share.same at)
    go (inr x) at = absurd (cc (none_fixed r.pumped x.0, fixes))

-- what a rebalance assigns was given, whichever partitions these are
pub shares_of : (before after : Counts) (given unfixed : Option (List TopicPart)) (c : Consumer) (events : List Event) (r : IsRebalanced before after given unfixed c events) (places : List Place)
    → placed_in events ≡ Some places → places ≢ []
    → (ats : List TopicPart) × (given ≡ Some ats) × ((at : TopicPart) → Contains (map (λ (place : Place). place.at) places) at ↔ (Contains ats at × IsTrue (is_listed c.topics at.topic)))
shares_of before after given unfixed c events r places is some = go (places_of before after given unfixed c events r (Some places) is)
  where
    go : Rebalances c r.pumped unfixed (IsTrue (has_looked events)) (Some places)
        → (ats : List TopicPart) × (given ≡ Some ats) × ((at : TopicPart) → Contains (map (λ (place : Place). place.at) places) at ↔ (Contains ats at × IsTrue (is_listed c.topics at.topic)))
    go (inl x) = (let share = shares_are_given before after given unfixed c events r x.0 places x.1 is in (x.0, share.0, share.1))
    go (inr x) = absurd (some x.1)

pub late_are_fixed : (before after : Counts) (given unfixed : Option (List TopicPart)) (c : Consumer) (events : List Event) (r : IsRebalanced before after given unfixed c events) (ats : List TopicPart)
    → r.pumped ≡ Steady → unfixed ≡ Some ats → has_looked events ≡ true → placed_in events ≢ None
late_are_fixed before after given unfixed c events r ats steady waiting looked none =
    let x = places_of before after given unfixed c events r None none looked in
    let e : to_fix r.pumped unfixed ≡ unfixed = ap (λ p. to_fix p unfixed) steady in
    absurd (cc (x.0, e, waiting))

pub nobody_pays_later : (idle : ℕ) (before after : Counts) (w : World) (a : Log) (entries : List Entry) (b : Log) (w2 : World) (ran : Ran idle before after w a entries b w2)
    → ((key : Key) → w.at key ≡ None) → (let n = ran.tally in before.polls + before.refusals + n.placed ≤ after.polls + after.refusals)
nobody_pays_later idle before after w a entries b w2 ran nobody = go ran.keys ran.live ran.placed_paid
  where
    go : (keys : List Key) → AreLive w keys → (let n = ran.tally in before.polls + before.refusals + n.placed ≤ after.polls + after.refusals + length keys)
        → (let n = ran.tally in before.polls + before.refusals + n.placed ≤ after.polls + after.refusals)
    go [] live paid = omega (arith, paid)
    go (key ∷ keys) live paid = absurd (none_live (w.at key) (nobody key) ((live.each key).0 (listed key keys)))
      where
        none_live : (c : Option Consumer) → c ≡ None → IsSome c → ⊥
        none_live None e some = absurd (cc some)
        none_live (Some c) e some = absurd (cc e)

        listed : (k : Key) (ks : List Key) → IsTrue (list_any (λ x. is_key x k) (k ∷ ks))
        listed k ks =
            let group : bytes_eq k.group k.group ≡ true = (bytes_eq-Decides k.group k.group).1 refl in
            let instance : bytes_eq k.instance k.instance ≡ true = (bytes_eq-Decides k.instance k.instance).1 refl in
            let itself : is_key k k ≡ true = rw group instance in
            rw itself refl

-- a look's events owe one of the group's answers for each rebalance
events_owe : (c : Consumer) (events : List Event) → rebalances_in events ≡ (let n = events_tally (Some c) events in n.placed)
events_owe c [] = refl
events_owe c (Committed rows ∷ events) = omega (arith, events_owe c events)
events_owe c (Rebalanced places ∷ events) = omega (arith, events_owe c events)
events_owe c (Reset place ∷ events) = omega (arith, events_owe c events)
events_owe c (Looked round ∷ events) = omega (arith, events_owe c events)

-- an entry's rebalances are owed
entry_owes : (idle : ℕ) (w : World) (a : Log) (e : Entry) (b : Log) (w2 : World) → Step idle w a e b w2 → rebalances_of e.call e.events ≤ (let n = entry_tally w e in n.placed)
entry_owes idle w a e b w2 step = go e.call refl
  where
    none : (call : Option Call) → e.events ≡ [] → rebalances_of call e.events ≡ 0
    none None is = refl
    none (Some (Produce topic batch)) is = refl
    none (Some (Ask question)) is = refl
    none (Some (Of key (Records formats timeout bound))) is = ap rebalances_in is
    none (Some (Of key act)) is = refl

    found : (key : Key) (formats : List Format) (timeout bound : Option ℕ) → e.call ≡ Some (Of key (Records formats timeout bound)) → (o : Option Consumer) → left e.expired w key ≡ o
        → rebalances_in e.events ≤ (let n = events_tally (left e.expired w key) e.events in n.placed)
    found key formats timeout bound is (Some c) live = rw live (omega (arith, events_owe c e.events))
    found key formats timeout bound is None gone = let nothing : rebalances_in e.events ≡ 0 = ap rebalances_in (of_step step.does) in omega (arith, nothing)
      where
        of_step : Whole idle w a e b w2 ⊎ Starved w a e b w2 → e.events ≡ []
        of_step (inr starved) = starved.events
        of_step (inl whole) =
            let does : Does e.moment e.turn (Some (Of key (Records formats timeout bound))) a e.events e.reply b (left e.expired w) w2.at = subst (λ (call : Option Call). Does e.moment e.turn call a e.events e.reply b (left e.expired w) w2.at) is whole.does in
            let acts : Acts key e.moment e.turn (Records formats timeout bound) None a e.events e.reply b (w2.at key) = subst (λ o. Acts key e.moment e.turn (Records formats timeout bound) o a e.events e.reply b (w2.at key)) gone does.0 in
            acts.0

    go : (call : Option Call) → e.call ≡ call → rebalances_of e.call e.events ≤ (let n = entry_tally w e in n.placed)
    go None is = rw is (omega arith)
    go (Some (Produce topic batch)) is = rw is (omega arith)
    go (Some (Ask question)) is = rw is (omega arith)
    go (Some (Of key (Records formats timeout bound))) is = let x = found key formats timeout bound is (left e.expired w key) refl in rw is (omega (arith, x))
    go (Some (Of key act)) is = rw is (omega arith)

rebalances_owed : (idle : ℕ) (w : World) (a : Log) (entries : List Entry) (b : Log) (w2 : World) (n : Tally) → Run idle w a entries b w2 n → sum_by (λ (e : Entry). rebalances_of e.call e.events) entries ≤ n.placed
rebalances_owed idle w a [] b w2 n run = omega arith
rebalances_owed idle w a (e ∷ entries) b w2 n run =
    let rest = rebalances_owed idle run.1 run.0 entries b w2 run.3.0 run.3.2 in
    let one = entry_owes idle w a e run.0 run.1 run.2 in
    omega (arith, rest, one, sum_by-cons (λ (x : Entry). rebalances_of x.call x.events) e entries, ap (λ (t : Tally). t.placed) run.3.1)

pub rebalances_are_paid : (idle : ℕ) (counts : Counts) (history : List Entry) (w : World) (l : Log) → Legal idle counts history w l → sum_by (λ (e : Entry). rebalances_of e.call e.events) history ≤ counts.polls + counts.refusals
rebalances_are_paid idle counts history w l legal = let p = legal.paid in omega (arith, rebalances_owed idle _ _ history l w legal.tally legal.run, p.placed_paid)

pub buffered_first : (before after : List Lot) (shown : List Item) (at : TopicPart)
    → IsBuffered before after [] shown → buffered_at at after ≡ [] → IsPrefix (buffered_at at before) (rows_at at shown)
buffered_first before after shown at is none = (is.more at, sym (sym (append-nil (rows_at at shown)) ∙ (ap (λ xs. rows_at at shown ++ xs) (sym none) ∙ is.order at)))

pub blame_nobody : (entries : List Entry) → count_by (λ (e : Entry). is_fault e.reply) entries ≤ 0 → All (λ (e : Entry). is_fault e.reply ≡ false) entries
blame_nobody [] few = All-nil (λ (e : Entry). is_fault e.reply ≡ false)
blame_nobody (e ∷ entries) few = All-cons (λ (x : Entry). is_fault x.reply ≡ false) e entries (none (is_fault e.reply) (omega (arith, few, split))) (blame_nobody entries (omega (arith, few, split)))
  where
    split : count_by (λ (x : Entry). is_fault x.reply) (e ∷ entries) ≡ cond (is_fault e.reply) 1 0 + count_by (λ (x : Entry). is_fault x.reply) entries
    split = sum_by-cons (λ (x : Entry). cond (is_fault x.reply) 1 0) e entries

    none : (b : Bool) → cond b 1 0 ≤ 0 → b ≡ false
    none true few = absurd (omega (arith, few))
    none false few = refl

pub refused_are_large : (size : List Given → ℕ) (log : Log) (grouped : List ℕ → Bool) (w : World) (e : Entry) (topic : List ℕ) (batch : Batch) (partition : ℕ) (code : ℤ)
    → IsQuiet size log grouped w e → e.call ≡ Some (Produce topic batch) → e.reply ≡ Some (Answers (Failed partition code ∷ []))
    → (code ≡ pos 10) × (4194304 < size (records_for partition batch.records (Failed partition code ∷ [])))
refused_are_large size log grouped w e topic batch partition code quiet call reply =
    let answers : List Placed = Failed partition code ∷ [] in
    let all : All (IsTooLarge size (records_of e.call) answers) answers = quiet.too_large answers reply in
    subst (λ (c : Option Call). (code ≡ pos 10) × (4194304 < size (records_for partition (records_of c) answers))) call (All-head (IsTooLarge size (records_of e.call) answers) (Failed partition code) [] all)

pub parts_heard : (heard : Heard) (part : PartTold) (parts : List PartTold) → HasNodes heard (Some (Told parts)) → Contains parts part → Contains heard.parts part
parts_heard heard part parts all there = All-contains (Contains heard.parts) parts part all there

pub looks_owe : (c : Consumer) (round : ℕ) → c.mode ≡ ByTopics → (let n = event_tally c (Looked round) in n.looks ≡ 1)
looks_owe c round mode = ap (λ (m : Mode). one_if (is_by_topics m)) mode

pub commits_owe : (c : Consumer) (rows : List Place) → length rows < length c.assignment → (let n = event_tally c (Committed rows) in n.short ≡ 1)
commits_owe c rows fewer = (let less : nat_lt (length rows) (length c.assignment) ≡ true = grind (arith, fewer) in ap one_if less)

pub events_owed : (w : World) (e : Entry) (key : Key) (formats : List Format) (timeout bound : Option ℕ) (c : Consumer)
    → e.call ≡ Some (Of key (Records formats timeout bound)) → left e.expired w key ≡ Some c
    → (let n = entry_tally w e in let m = events_tally (Some c) e.events in (n.short ≡ m.short) × (n.placed ≡ m.placed) × (n.looks ≡ m.looks))
events_owed w e key formats timeout bound c call live =
    let owed : call_tally (left e.expired w) e.call e.events ≡ events_tally (Some c) e.events =
    ap (λ (o : Option Call). call_tally (left e.expired w) o e.events) call ∙ ap (λ (o : Option Consumer). events_tally o e.events) live in
    let short : (let t = call_tally (left e.expired w) e.call e.events in t.short) ≡ (let t = events_tally (Some c) e.events in t.short) = ap (λ (t : Tally). t.short) owed in
    let placed : (let t = call_tally (left e.expired w) e.call e.events in t.placed) ≡ (let t = events_tally (Some c) e.events in t.placed) = ap (λ (t : Tally). t.placed) owed in
    let looks : (let t = call_tally (left e.expired w) e.call e.events in t.looks) ≡ (let t = events_tally (Some c) e.events in t.looks) = ap (λ (t : Tally). t.looks) owed in
    (omega (arith, short), omega (arith, placed), omega (arith, looks))

-- a code comes where a call commits or reads
no_code : (log : Log) (grouped : List ℕ → Bool) (found : Option Consumer) (call : Option Call) (code : ℤ) → is_commit call ≡ false → is_records call ≡ false → IsCodeOf log grouped found call code → ⊥
no_code log grouped None call code not_commit not_records is = is
no_code log grouped (Some c) None code not_commit not_records is = is
no_code log grouped (Some c) (Some (Produce topic batch)) code not_commit not_records is = is
no_code log grouped (Some c) (Some (Ask question)) code not_commit not_records is = is
no_code log grouped (Some c) (Some (Of key (Create settings))) code not_commit not_records is = is
no_code log grouped (Some c) (Some (Of key Delete)) code not_commit not_records is = is
no_code log grouped (Some c) (Some (Of key Subscription)) code not_commit not_records is = is
no_code log grouped (Some c) (Some (Of key Unsubscribe)) code not_commit not_records is = is
no_code log grouped (Some c) (Some (Of key Assignments)) code not_commit not_records is = is
no_code log grouped (Some c) (Some (Of key (Subscribe names))) code not_commit not_records is = is
no_code log grouped (Some c) (Some (Of key (Assign ats))) code not_commit not_records is = is
no_code log grouped (Some c) (Some (Of key (Fixed ats))) code not_commit not_records is = is
no_code log grouped (Some c) (Some (Of key (Seek news))) code not_commit not_records is = is
no_code log grouped (Some c) (Some (Of key (SeekEdge edge ats))) code not_commit not_records is = is
no_code log grouped (Some c) (Some (Of key (Commit rows))) code not_commit not_records is = absurd (cc not_commit)
no_code log grouped (Some c) (Some (Of key (Records formats timeout bound))) code not_commit not_records is = absurd (cc not_records)

pub other_calls : (log : Log) (grouped : List ℕ → Bool) (found : Option Consumer) (call : Option Call) (code : ℤ)
    → (IsCodeOf log grouped None call code → ⊥) × (is_commit call ≡ false → is_records call ≡ false → IsCodeOf log grouped found call code → ⊥)
other_calls log grouped found call code = (λ is. is, no_code log grouped found call code)
