-- From the reply to a call that asks the link nothing to what the call does and answers.
use Rattle.std.proofs.Common.{◌≡◌, ℕ, false, cond, List, [], map, refl, ap, sym, subst, ◌∙◌, inl, inr, Option, Some}
use Rattle.std.specs.Prelude.{◌⊎◌, ◌≢◌}
use Rattle.model.specs.state.Log.{TopicPart, Log, IsLog}
use Rattle.model.specs.step.Walk.{Place}
use Rattle.model.specs.state.World.{Key, Consumer, Mode, touched}
use Rattle.model.specs.state.World.Mode.{Assigned, ByTopics, Unset}
use Rattle.model.specs.state.Entry as model
use Rattle.model.specs.state.Entry.{Act, Event, Reply, Turn}
use Rattle.model.specs.state.Entry.Act.{Create, Delete, Assignments, Seek, SeekEdge, Subscription}
use Rattle.model.specs.state.Entry.Call.{Of}
use Rattle.model.specs.state.Entry.Reply.{Done, Listed, Names, Refused, Want}
use Rattle.model.specs.step.Acts.{Live}
use Rattle.model.specs.step.Ends.{is_by_topics}
use Rattle.model.specs.history.Legal.{is_fault, is_refusal}
use Rattle.model.specs.history.Noted.{live_after}
use Rattle.model.specs.state.Forms.{Forms}
use Rattle.model.specs.texts.Texts.{Response, response_of}
use Rattle.rest_calls.specs.Responses.{response_in}
use Rattle.rest_calls.specs.Views.{asked_of}
use Rattle.rest_calls.specs.declared.call.Call.{Call}
use Rattle.rest_calls.specs.declared.call.Call.TheVariants as calls
use Rattle.rest_codes.specs.declared.response.Reply.{Reply as CodeReply}
use Rattle.broker_link.specs.Causes.{Counts}
use Rattle.broker_link.specs.declared.fetch.Edge.{Edge as CodeEdge}
use Rattle.broker_link.specs.declared.fetch.TopicPart.{TopicPart as Part}
use Rattle.broker_link.specs.declared.place.Place.{Place as CodePlace}
use Rattle.broker_link.specs.Replies.{IsGood}
use Rattle.rest_replies.specs.Forms.{forms}
use Rattle.consumer_state.specs.Assign.{ActsSo, totals}
use Rattle.consumer_state.specs.Positions.{SeeksSo}
use Rattle.consumer_state.proofs.SeekLemmas.{seek_acts}
use Rattle.rest_replies.specs.Failure.{SaysOrWant}
use Rattle.rest_replies.specs.Subscription.{SaysSubscribed}
use Rattle.instance.specs.Telling.{AsksNothing, TellsSo}
use Rattle.broker_link.specs.Places.{at_in, place_of}
use Rattle.consumer_state.specs.Views.{consumer_of}
use Rattle.instance.specs.Views.{Live as Seen}
use Rattle.consumer_state.specs.declared.consumer.Consumer.{Consumer as Kept}
use Rattle.consumer_state.proofs.Fixing.{ats_are}
use Rattle.broker_link.proofs.CountedLemmas.{counted_done}
use Rattle.consumer_state.proofs.Linking.{counts_stay}
use Rattle.instance.proofs.Wanting.{mode_is, not_due, same, unpumped, wanting}

-- where nothing is subscribed to
no_topics : (c : Consumer) → c.mode ≢ ByTopics → cond (is_by_topics c.mode) c.topics [] ≡ []
no_topics c other = go c.mode refl
  where
    go : (m : Mode) → c.mode ≡ m → cond (is_by_topics c.mode) c.topics [] ≡ []
    go Unset e = rw e refl
    go ByTopics e = absurd (other e)
    go Assigned e = rw e refl

quiet : (advertise : List ℕ) (call : Call) (key : Key) (now round : ℕ) (act : Act) → asked_of call ≡ Of key act → (tells plain : Type 0) (counts : Counts) (c : Consumer) (a : Log) (answer : Reply) (r : CodeReply)
    → c.mode ≢ ByTopics → ((advertise : List ℕ) (forms : Forms) → response_in r ≡ response_of advertise forms (Of key act) answer) → is_fault (Some answer) ≡ false → is_refusal (Some answer) ≡ false → IsGood answer
    → ((turn : Turn) → IsLog a → Live key now turn act c a [] (Some answer) a (live_after act (Some answer) (touched now c)))
    → ActsSo advertise key now round act tells plain counts counts c a [] (Some (response_in r)) a (touched now c)
quiet advertise call key now round act is tells plain counts c a answer r mode says no_fault no_refusal good does = record {
  reply = Some answer;
  says = said;
  counted = counted_done counts counts answer (counts_stay counts) no_fault no_refusal;
  acted = λ told log table. (
    record {
      forms = forms;
      shows = λ format bytes. refl;
      own = [];
      same = refl;
      reply = Some answer;
      says = said;
      acts = does (record { round = round; forms = forms }) log;
      added = refl;
      looks = unpumped call key act is (totals counts) (totals counts) c mode;
    },
    refl,
  );
  there = λ told log there. there;
  good = λ is_plain told log there. good;
}
  where
    said : Some (response_in r) ≡ Some (response_of advertise forms (Of key act) answer)
    said = ap (λ x. Some x) (says advertise forms)

-- the answer, or want of memory in its place
either : (advertise : List ℕ) (call : Call) (key : Key) (now round : ℕ) (act : Act) → asked_of call ≡ Of key act → (tells plain : Type 0) (counts : Counts) (c : Consumer) (a : Log) (answer : Reply) (r : CodeReply)
    → c.settings.auto_commit ≡ false → c.mode ≢ ByTopics → SaysOrWant answer r → is_fault (Some answer) ≡ false → is_refusal (Some answer) ≡ false → IsGood answer
    → ((turn : Turn) → IsLog a → Live key now turn act c a [] (Some answer) a (live_after act (Some answer) (touched now c)))
    → ActsSo advertise key now round act tells plain counts counts c a [] (Some (response_in r)) a (touched now c)
either advertise call key now round act is tells plain counts c a answer r off mode (inl says) no_fault no_refusal good does =
    quiet advertise call key now round act is tells plain counts c a answer r mode (λ advertise forms. says advertise forms (Of key act)) no_fault no_refusal good does
either advertise call key now round act is tells plain counts c a answer r off mode (inr want) no_fault no_refusal good does =
    quiet advertise call key now round act is tells plain counts c a Want r mode (λ advertise forms. ap response_in want) refl refl tt (λ turn log. wanting call key act is now turn c a off mode log)

-- the topics of the subscription, or want of memory in their place
subscribed : (advertise : List ℕ) (call : Call) (key : Key) (now round : ℕ) → asked_of call ≡ Of key Subscription → (tells plain : Type 0) (counts : Counts) (c : Consumer) (a : Log) (topics : List (List ℕ)) (r : CodeReply)
    → c.settings.auto_commit ≡ false → c.mode ≢ ByTopics → SaysSubscribed topics r
    → ((turn : Turn) → IsLog a → Live key now turn Subscription c a [] (Some (Names topics)) a (live_after Subscription (Some (Names topics)) (touched now c)))
    → ActsSo advertise key now round Subscription tells plain counts counts c a [] (Some (response_in r)) a (touched now c)
subscribed advertise call key now round is tells plain counts c a topics r off mode (inl says) does =
    quiet advertise call key now round Subscription is tells plain counts c a (Names topics) r mode (λ advertise forms. says advertise forms key) refl refl tt does
subscribed advertise call key now round is tells plain counts c a topics r off mode (inr want) does =
    quiet advertise call key now round Subscription is tells plain counts c a Want r mode (λ advertise forms. ap response_in want) refl refl tt (λ turn log. wanting call key Subscription is now turn c a off mode log)

pub told_acts : (advertise : List ℕ) (call : Call) (key : Key) (now round : ℕ) (act : Act) → asked_of call ≡ Of key act → (tells plain : Type 0) (counts : Counts) (c : Consumer) (a : Log) (r : CodeReply)
    → c.settings.auto_commit ≡ false → c.mode ≢ ByTopics → AsksNothing call → TellsSo (map (λ (place : Place). place.at) c.assignment) call r
    → ActsSo advertise key now round act tells plain counts counts c a [] (Some (response_in r)) a (touched now c)
told_acts advertise (calls.Create group name settings) key now round (Create s) is tells plain counts c a r off mode asks says =
    either advertise (calls.Create group name settings) key now round (Create s) is tells plain counts c a (Refused 40902) r off mode says refl refl tt (λ turn log. (refl, same a, inl (record { says = refl; left = refl })))
told_acts advertise (calls.Delete group name) key now round Delete is tells plain counts c a r off mode asks says =
    either advertise (calls.Delete group name) key now round Delete is tells plain counts c a Done r off mode says refl refl tt (λ turn log. (refl, inl (not_due c 0 off, same a), inl (record { says = refl; left = refl })))
told_acts advertise (calls.Assignments group name) key now round Assignments is tells plain counts c a r off mode asks says =
    either advertise (calls.Assignments group name) key now round Assignments is tells plain counts c a (Listed (map (λ (place : Place). place.at) c.assignment)) r off mode says refl refl tt
    (λ turn log. (refl, same a, inl (record { says = refl; left = refl })))
told_acts advertise (calls.Subscription group name) key now round Subscription is tells plain counts c a r off mode asks says =
    subscribed advertise (calls.Subscription group name) key now round is tells plain counts c a [] r off mode says
    (λ turn log. (refl, same a, inl (record { says = ap (λ names. Some (Names names)) (sym (no_topics c mode)); left = refl })))
told_acts advertise (calls.Produce topic batch) key now round act is tells plain counts c a r off mode asks says = absurd asks
told_acts advertise (calls.Ask question) key now round act is tells plain counts c a r off mode asks says = absurd asks
told_acts advertise (calls.Assign group name parts) key now round act is tells plain counts c a r off mode asks says = absurd asks
told_acts advertise (calls.Seek group name places) key now round act is tells plain counts c a r off mode asks says = absurd asks
told_acts advertise (calls.SeekEdge group name edge parts) key now round act is tells plain counts c a r off mode asks says = absurd asks
told_acts advertise (calls.Records group name accepts timeout bound) key now round act is tells plain counts c a r off mode asks says = absurd asks
told_acts advertise call key now round act is tells plain counts c a r off mode asks says = absurd (cc is)

-- a call that is none of these asks nothing
pub asks_nothing : (call : Call) (key : Key) (act : Act) → asked_of call ≡ Of key act → ((group instance : List ℕ) (parts : List Part) → call ≡ calls.Assign group instance parts → ⊥)
    → ((group instance : List ℕ) (places : List CodePlace) → call ≡ calls.Seek group instance places → ⊥) → ((group instance : List ℕ) (edge : CodeEdge) (parts : List Part) → call ≡ calls.SeekEdge group instance edge parts → ⊥)
    → ((group instance : List ℕ) (accepts : _) (timeout bound : Option ℕ) → call ≡ calls.Records group instance accepts timeout bound → ⊥) → AsksNothing call
asks_nothing (calls.Produce topic batch) key act is no_assign no_seek no_edge no_records = cc is
asks_nothing (calls.Ask question) key act is no_assign no_seek no_edge no_records = cc is
asks_nothing (calls.Create group name settings) key act is no_assign no_seek no_edge no_records = tt
asks_nothing (calls.Delete group name) key act is no_assign no_seek no_edge no_records = tt
asks_nothing (calls.Assign group name parts) key act is no_assign no_seek no_edge no_records = no_assign group name parts refl
asks_nothing (calls.Assignments group name) key act is no_assign no_seek no_edge no_records = tt
asks_nothing (calls.Subscription group name) key act is no_assign no_seek no_edge no_records = tt
asks_nothing (calls.Seek group name places) key act is no_assign no_seek no_edge no_records = no_seek group name places refl
asks_nothing (calls.SeekEdge group name edge parts) key act is no_assign no_seek no_edge no_records = no_edge group name edge parts refl
asks_nothing (calls.Records group name accepts timeout bound) key act is no_assign no_seek no_edge no_records = no_records group name accepts timeout bound refl

-- the same as an instance is seen
pub told_seen : (advertise : List ℕ) (call : Call) (kept : Kept) (key : Key) (live : Seen) → record { key = key; consumer = consumer_of kept } ≡ live → (now round : ℕ) (act : Act) → asked_of call ≡ Of live.key act
    → (tells plain : Type 0) (counts : Counts) (a : Log) (r : CodeReply) (events : List (Key ⊎ Event)) (said : Option Response) → events ≡ [] → said ≡ Some (response_in r)
    → AsksNothing call → TellsSo (map at_in kept.assignment.items) call r → ActsSo advertise live.key now round act tells plain counts counts live.consumer a events said a (touched now (consumer_of kept))
told_seen advertise call kept key live seen now round act is tells plain counts a r events said none says asks tells_so =
    let old : Consumer = consumer_of kept in
    let ats : map at_in kept.assignment.items ≡ map (λ (place : Place). place.at) old.assignment = sym (ats_are kept.assignment.items) in
    let base : ActsSo advertise live.key now round act tells plain counts counts old a [] (Some (response_in r)) a (touched now old) =
    told_acts advertise call live.key now round act is tells plain counts old a r refl (mode_is old.assignment) asks (subst (λ (l : List TopicPart). TellsSo l call r) ats tells_so) in
    subst (λ (c : Consumer). ActsSo advertise live.key now round act tells plain counts counts c a events said a (touched now old)) (ap (λ (l : Seen). l.consumer) seen)
    (subst (λ (es : List (Key ⊎ Event)). ActsSo advertise live.key now round act tells plain counts counts old a es said a (touched now old)) (sym none)
    (subst (λ (x : Option Response). ActsSo advertise live.key now round act tells plain counts counts old a [] x a (touched now old)) (sym says) base))

-- a seek, as an instance is seen
pub seek_seen : (advertise : List ℕ) (call : Call) (kept kept2 : Kept) (key : Key) (live : Seen) → record { key = key; consumer = consumer_of kept } ≡ live → (now round : ℕ) (act : Act) → asked_of call ≡ Of live.key act
    → (group instance : List ℕ) (places : List CodePlace) → call ≡ calls.Seek group instance places → (tells plain : Type 0) (counts : Counts) (a : Log) (r : CodeReply) (events : List (Key ⊎ Event)) (said : Option Response)
    → events ≡ [] → said ≡ Some (response_in r) → SeeksSo now (map place_of places) (consumer_of kept) r (consumer_of kept2)
    → ActsSo advertise live.key now round act tells plain counts counts live.consumer a events said a (consumer_of kept2)
seek_seen advertise call kept kept2 key live seen now round act is group instance places call_is tells plain counts a r events said none says seeks =
    let old : Consumer = consumer_of kept in
    let new : Consumer = consumer_of kept2 in
    let news : List Place = map place_of places in
    let act_is : act ≡ Seek news = ap act_in (sym is ∙ ap asked_of call_is) in
    let base : ActsSo advertise live.key now round (Seek news) tells plain counts counts old a [] (Some (response_in r)) a new = seek_acts advertise live.key now round news tells plain counts old a r new seeks in
    subst (λ (x : Act). ActsSo advertise live.key now round x tells plain counts counts live.consumer a events said a new) (sym act_is)
    (subst (λ (c : Consumer). ActsSo advertise live.key now round (Seek news) tells plain counts counts c a events said a new) (ap (λ (l : Seen). l.consumer) seen)
    (subst (λ (es : List (Key ⊎ Event)). ActsSo advertise live.key now round (Seek news) tells plain counts counts old a es said a new) (sym none)
    (subst (λ (x : Option Response). ActsSo advertise live.key now round (Seek news) tells plain counts counts old a [] x a new) (sym says) base)))
  where
    act_in : model.Call → Act
    act_in (Of k x) = x
    act_in _ = Subscription
