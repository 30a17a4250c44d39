-- From positions that were set, or why they weren't, to what a seek does and answers.
use Rattle.std.proofs.Common.{◌≡◌, ℕ, true, false, List, [], ◌∷◌, map, refl, ap, sym, subst, ◌∙◌, inl, inr, Some, replicate, negsuc, length, suc, zero, Bool, arith, Option, IfSome, unwrap_or}
use Rattle.std.specs.Prelude.{◌⊎◌, ◌≢◌}
use Rattle.std.proofs.lemmas.List.{length-map}
use Rattle.model.specs.state.Log.{TopicPart, Log, Keeps, IsLog}
use Rattle.model.specs.step.Walk.{Place}
use Rattle.model.specs.state.World.{Edge, IsLow, Key, Consumer, touched, with_position, with_positions}
use Rattle.model.specs.state.Entry.{Reply}
use Rattle.model.specs.state.Entry.Act.{Seek, SeekEdge}
use Rattle.model.specs.state.Entry.Call.{Of}
use Rattle.model.specs.state.Entry.Reply.{Done, Broker, LinkFault, Refused, Want}
use Rattle.model.specs.history.Legal.{is_fault, is_refusal}
use Rattle.model.specs.texts.Texts.{response_of}
use Rattle.model.specs.step.Fixed.{Edges, SameCommits}
use Rattle.model.specs.step.Produced.{NoneAdded}
use Rattle.model.specs.step.Ends.{EndsAlone, EndsIf, IsDone, IsRefused, at_positions}
use Rattle.model.specs.step.Rules.{AllAssigned}
use Rattle.model.proofs.Stretches.{keeps_itself}
use Rattle.broker_link.specs.Causes.{Counts}
use Rattle.broker_link.specs.Replies.{IsCounted, IsGood}
use Rattle.broker_link.specs.declared.link.LinkNo.TheVariants as link
use Rattle.broker_link.proofs.CountedLemmas.{counted_done}
use Rattle.consumer_state.proofs.Linking.{counts_stay}
use Rattle.rest_codes.specs.declared.response.Reply.{Reply as CodeReply}
use Rattle.rest_codes.specs.declared.response.Reply.TheVariants as reply
use Rattle.rest_calls.specs.Responses.{response_in}
use Rattle.rest_replies.specs.Failure.{Says, SaysOrWant}
use Rattle.rest_replies.specs.Forms.{forms}
use Rattle.consumer_state.specs.Assign.{ActsSo, AreThere}
use Rattle.consumer_state.specs.Fix.{AreFixed}
use Rattle.consumer_state.specs.LinkCalls.{ComesOf, IsFailed, refusal_of}
use Rattle.consumer_state.specs.Positions.{SeeksSo, are_assigned}
use Rattle.consumer_state.specs.Views.{IsSound, mode_of}
use Rattle.consumer_state.specs.declared.consumer.Consumer.{Consumer as Kept}
use Rattle.broker_link.specs.Places.{place_of}
use Rattle.consumer_state.specs.declared.topics.AssignNo.{AssignNo}
use Rattle.consumer_state.specs.declared.topics.AssignNo.TheVariants.{NoTopic, NoPartition, Failed}
use Rattle.consumer_state.proofs.PositionLemmas.{all_assigned, ats_set_all, have_set, not_assigned, order_set}

-- the consumer as it is kept, with positions set and used
abbrev pub now_at : Consumer → List Place → ℕ → Consumer
now_at c places now = record { settings = c.settings; mode = mode_of places; topics = []; assignment = places; rotation = c.rotation; unsaved = c.unsaved; last_use = now }

mode_set_one : (new : Place) (ps : List Place) → mode_of (with_position new ps) ≡ mode_of ps
mode_set_one new [] = refl
mode_set_one new (p ∷ ps) = refl

mode_set : (news ps : List Place) → mode_of (with_positions news ps) ≡ mode_of ps
mode_set [] ps = refl
mode_set (new ∷ news) ps = mode_set news (with_position new ps) ∙ mode_set_one new ps

pub now_at_is : (c : Consumer) (news places : List Place) (now : ℕ) → c.mode ≡ mode_of c.assignment → c.topics ≡ [] → places ≡ with_positions news c.assignment → now_at c places now ≡ at_positions news now c
now_at_is c news places now mode topics set =
    let m : mode_of places ≡ c.mode = ap mode_of set ∙ (mode_set news c.assignment ∙ sym mode) in
    λ i. record { settings = c.settings; mode = m i; topics = sym topics i; assignment = set i; rotation = c.rotation; unsaved = c.unsaved; last_use = now }

-- what holds of every consumer holds of one whose positions were set
pub sound_set : (c c2 : Kept) (news : List Place) → IsSound c → map place_of c2.assignment.items ≡ with_positions news (map place_of c.assignment.items) → IsLow (map place_of c2.assignment.items) → c2.rotation ≡ c.rotation → IsSound c2
sound_set c c2 news sound set low same =
    let old : List Place = map place_of c.assignment.items in
    let ats : map (λ (p : Place). p.at) (map place_of c2.assignment.items) ≡ map (λ (p : Place). p.at) old = ap (map (λ (p : Place). p.at)) set ∙ ats_set_all news old in
    let long : length c2.assignment.items ≡ length c.assignment.items =
    omega (arith, ap length ats, length-map (map place_of c2.assignment.items) (λ (p : Place). p.at), length-map old (λ (p : Place). p.at), length-map c.assignment.items place_of, length-map c2.assignment.items place_of) in
    let order = order_set old news (map place_of c2.assignment.items) set sound.order in
    record { order = order; rotation = omega (arith, same, long, sound.rotation); sound = record { order = order; low = low; names = (let s = sound.sound in s.names) } }

-- ---- a seek to positions

pub seek_refused : (now : ℕ) (news : List Place) (c : Consumer) (r : CodeReply) → are_assigned c.assignment (map (λ place. place.at) news) ≡ false → SaysOrWant (Refused 40990) r → SeeksSo now news c r (touched now c)
seek_refused now news c r e (inl says) = record { reply = Refused 40990; says = says; ends = inl (inl (not_assigned c (map (λ (place : Place). place.at) news) e, record { says = refl; left = refl })) }
seek_refused now news c r e (inr want) = record { reply = Want; says = λ advertise forms call. ap response_in want; ends = inr (record { says = refl; left = refl }) }

pub seek_done : (now : ℕ) (news : List Place) (c c2 : Consumer) → are_assigned c.assignment (map (λ place. place.at) news) ≡ true → c2 ≡ at_positions news now c → SeeksSo now news c reply.Empty c2
seek_done now news c c2 e is =
    record { reply = Done; says = λ advertise forms call. refl; ends = inl (inr (all_assigned c (map (λ (place : Place). place.at) news) e, record { says = refl; left = ap (λ x. Some x) is })) }

-- the partitions are still in the topics
pub set_there : (a b : Log) (news : List Place) (c c2 : Consumer) → Keeps a b → c2.assignment ≡ with_positions news c.assignment → AreThere a c → AreThere b c2
set_there a b news c c2 keeps set there = have_set a b c.assignment c2.assignment keeps (ap (map (λ (p : Place). p.at)) set ∙ ats_set_all news c.assignment) there

-- how a seek answers, and that its partitions stay
said : (answer other : Reply) → Some answer ≡ Some other → answer ≡ other
said answer other is = ap (λ (o : Option Reply). unwrap_or o answer) is

abbrev SeekEnds : ℕ → List Place → Consumer → Reply → Consumer → Type 0
SeekEnds now news c answer c2 =
    EndsAlone now c (Some answer) (Some c2)
    (((AllAssigned (map (λ place. place.at) news) c → ⊥) × IsRefused 40990 (Some answer) (Some (touched now c)) (Some c2))
    ⊎ (AllAssigned (map (λ place. place.at) news) c × IsDone Done (Some answer) (Some (at_positions news now c)) (Some c2)))

seek_says : (now : ℕ) (news : List Place) (c : Consumer) (answer : Reply) (c2 : Consumer) → SeekEnds now news c answer c2 → (answer ≡ Refused 40990) ⊎ ((answer ≡ Done) ⊎ (answer ≡ Want))
seek_says now news c answer c2 (inl (inl (none, refused))) = inl (said answer (Refused 40990) refused.says)
seek_says now news c answer c2 (inl (inr (all, done))) = inr (inl (said answer Done done.says))
seek_says now news c answer c2 (inr want) = inr (inr (said answer Want want.says))

there_of : (a : Log) (c c2 : Consumer) → Some c2 ≡ Some c → AreThere a c → AreThere a c2
there_of a c c2 is there = subst (λ o. IfSome o (AreThere a)) (sym is) there

seek_there : (a : Log) (now : ℕ) (news : List Place) (c : Consumer) (answer : Reply) (c2 : Consumer) → SeekEnds now news c answer c2 → AreThere a c → AreThere a c2
seek_there a now news c answer c2 (inl (inl (none, refused))) there = there_of a (touched now c) c2 refused.left there
seek_there a now news c answer c2 (inl (inr (all, done))) there = there_of a (at_positions news now c) c2 done.left (set_there a a news c (at_positions news now c) (keeps_itself a) refl there)
seek_there a now news c answer c2 (inr want) there = there_of a (touched now c) c2 want.left there

pub seek_acts : (advertise : List ℕ) (key : Key) (now round : ℕ) (news : List Place) (tells plain : Type 0) (counts : Counts) (c : Consumer) (a : Log) (r : CodeReply) (c2 : Consumer) → SeeksSo now news c r c2
    → ActsSo advertise key now round (Seek news) tells plain counts counts c a [] (Some (response_in r)) a c2
seek_acts advertise key now round news tells plain counts c a r c2 seeks = record {
  reply = Some seeks.reply;
  says = said_so;
  counted = (let q = quietly (seek_says now news c seeks.reply c2 seeks.ends) in counted_done counts counts seeks.reply (counts_stay counts) q.0 q.1);
  acted = λ t is table. (
    record {
      forms = forms;
      shows = λ format bytes. refl;
      own = [];
      same = refl;
      reply = Some seeks.reply;
      says = said_so;
      acts = (refl, λ other at. refl, seeks.ends);
      added = refl;
      looks = tt;
    },
    refl,
  );
  there = λ t is there. seek_there a now news c seeks.reply c2 seeks.ends there;
  good = λ p t is there. (quietly (seek_says now news c seeks.reply c2 seeks.ends)).2;
}
  where
    said_so : Some (response_in r) ≡ Some (response_of advertise forms (Of key (Seek news)) seeks.reply)
    said_so = ap (λ x. Some x) (seeks.says advertise forms (Of key (Seek news)))

    Quiet : Reply → Type 0
    Quiet answer = (is_fault (Some answer) ≡ false) × (is_refusal (Some answer) ≡ false) × IsGood answer

    quietly : (seeks.reply ≡ Refused 40990) ⊎ ((seeks.reply ≡ Done) ⊎ (seeks.reply ≡ Want)) → Quiet seeks.reply
    quietly (inl e) = subst Quiet (sym e) (refl, refl, tt)
    quietly (inr (inl e)) = subst Quiet (sym e) (refl, refl, tt)
    quietly (inr (inr e)) = subst Quiet (sym e) (refl, refl, tt)

-- ---- a seek to an edge

-- how it ends
abbrev pub EdgeEnds : ℕ → Edge → List TopicPart → Consumer → Log → Reply → Log → Consumer → Type 0
EdgeEnds now edge ats c a reply b c2 =
    ((AllAssigned ats c → ⊥) × EndsAlone now c (Some reply) (Some c2) (IsRefused 40990 (Some reply) (Some (touched now c)) (Some c2)))
    ⊎ (AllAssigned ats c × EndsIf ats now c (Some reply) (Some c2) ((news : List Place) × Edges edge a ats news b × IsDone Done (Some reply) (Some (at_positions news now c)) (Some c2)))

pub edge_acts : (advertise : List ℕ) (key : Key) (now round : ℕ) (edge : Edge) (ats : List TopicPart) (tells plain : Type 0) (before after : Counts) (c : Consumer) (a : Log) (answer : Reply) (r : CodeReply) (b : Log) (c2 : Consumer)
    → (tells → Keeps a b × NoneAdded a b × SameCommits a b) → Says answer r → IsCounted before after answer
    → (tells → IsLog a → EdgeEnds now edge ats c a answer b c2) → (tells → IsLog a → AreThere a c → AreThere b c2) → (plain → tells → IsLog a → AreThere a c → IsGood answer)
    → ActsSo advertise key now round (SeekEdge edge ats) tells plain before after c a [] (Some (response_in r)) b c2
edge_acts advertise key now round edge ats tells plain before after c a answer r b c2 keeps says counted ends there good = record {
  reply = Some answer;
  says = said;
  counted = counted;
  acted = λ t is table. (
    record {
      forms = forms;
      shows = λ format bytes. refl;
      own = [];
      same = refl;
      reply = Some answer;
      says = said;
      acts = (refl, (keeps t).2, ends t is);
      added = (keeps t).1;
      looks = tt;
    },
    refl,
  );
  there = there;
  good = good;
}
  where
    said : Some (response_in r) ≡ Some (response_of advertise forms (Of key (SeekEdge edge ats)) answer)
    said = ap (λ x. Some x) (says advertise forms (Of key (SeekEdge edge ats)))

pub edge_refused : (now : ℕ) (edge : Edge) (ats : List TopicPart) (c : Consumer) (a b : Log) → are_assigned c.assignment ats ≡ false → EdgeEnds now edge ats c a (Refused 40990) b (touched now c)
edge_refused now edge ats c a b e = inl (not_assigned c ats e, inl (record { says = refl; left = refl }))

-- memory was wanting
pub edge_wanting : (now : ℕ) (edge : Edge) (ats : List TopicPart) (c : Consumer) (a b : Log) → EdgeEnds now edge ats c a Want b (touched now c)
edge_wanting now edge ats c a b = either (are_assigned c.assignment ats) refl
  where
    either : (e : Bool) → are_assigned c.assignment ats ≡ e → EdgeEnds now edge ats c a Want b (touched now c)
    either true e = inr (all_assigned c ats e, inr (inl (record { says = refl; left = refl })))
    either false e = inl (not_assigned c ats e, inr (record { says = refl; left = refl }))

pub edge_failed : (now : ℕ) (edge : Edge) (ats : List TopicPart) (c : Consumer) (a b : Log) (before after : Counts) (why : AssignNo) → are_assigned c.assignment ats ≡ true → ats ≢ [] → ComesOf before after why → IsFailed why
    → EdgeEnds now edge ats c a (refusal_of why) b (touched now c)
edge_failed now edge ats c a b before after NoTopic e some comes failed = absurd failed
edge_failed now edge ats c a b before after NoPartition e some comes failed = absurd failed
edge_failed now edge ats c a b before after (Failed link.Want) e some comes failed = edge_wanting now edge ats c a b
edge_failed now edge ats c a b before after (Failed link.Fault) e some comes failed = inr (all_assigned c ats e, inr (inr (some, record { why = LinkFault; links = tt; says = refl; left = refl })))
edge_failed now edge ats c a b before after (Failed (link.Refused code)) e some comes failed = inr (all_assigned c ats e, inr (inr (some, record { why = Broker code; links = comes.0; says = refl; left = refl })))

pub edge_done : (now : ℕ) (edge : Edge) (ats : List TopicPart) (c : Consumer) (a : Log) (news : List Place) (b : Log) (c2 : Consumer) → are_assigned c.assignment ats ≡ true → Edges edge a ats news b → c2 ≡ at_positions news now c
    → EdgeEnds now edge ats c a Done b c2
edge_done now edge ats c a news b c2 e edges is = inr (all_assigned c ats e, inl (news, edges, record { says = refl; left = ap (λ x. Some x) is }))

-- nothing is listed, so nothing moves
pub edge_none : (now : ℕ) (edge : Edge) (ats : List TopicPart) (c : Consumer) (a : Log) → ats ≡ [] → EdgeEnds now edge ats c a Done a (touched now c)
edge_none now edge ats c a none =
    subst (λ (l : List TopicPart). EdgeEnds now edge l c a Done a (touched now c)) (sym none) (edge_done now edge [] c a [] a (touched now c) refl (keeps_itself a) refl)

-- positions that weren't known are edges
pub edges_of_fixed : (edge : Edge) (a : Log) (ats : List TopicPart) (count : ℕ) (places : List Place) (b : Log) → AreFixed edge a ats (replicate count (negsuc 0)) places b → Edges edge a ats places b
edges_of_fixed edge a [] zero [] b fixed = fixed
edges_of_fixed edge a [] zero (p ∷ ps) b fixed = absurd fixed
edges_of_fixed edge a [] (suc n) ps b fixed = absurd fixed
edges_of_fixed edge a (at ∷ ats) zero ps b fixed = absurd fixed
edges_of_fixed edge a (at ∷ ats) (suc n) [] b fixed = absurd fixed
edges_of_fixed edge a (at ∷ ats) (suc n) (p ∷ ps) b fixed =
    (fixed.0, fixed.1, fixed.3.have refl, fixed.2, fixed.3.is ∙ refl, edges_of_fixed edge fixed.0 ats n ps b fixed.4)
