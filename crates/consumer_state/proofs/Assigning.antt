-- From the places of an Assign, or why there are none, to what the call does and answers.
use Rattle.std.proofs.Common.{◌≡◌, ℕ, ◌<◌, length, get_or, arith, true, false, List, [], ◌∷◌, map, refl, ap, sym, subst, ◌∙◌, inl, inr, Some, None, Err}
use Rattle.std.specs.Prelude.{◌⊎◌, ◌≢◌, ◌==◌, All}
use Rattle.std.proofs.lemmas.Bool.Decides.{nat_tests}
use Rattle.std.proofs.lemmas.List.Elements.{All-nil}
use Rattle.std.proofs.lemmas.List.{get_or-map, length-map}
use Rattle.model.specs.state.Log.{TopicPart, Log, Keeps, IsLog}
use Rattle.model.specs.step.Walk.{Place}
use Rattle.model.specs.state.World.{Key, Consumer, touched}
use Rattle.model.specs.state.World.Mode.{ByTopics}
use Rattle.model.specs.state.Entry.{Reply}
use Rattle.model.specs.state.Entry.Act.{Assign}
use Rattle.model.specs.state.Entry.Call.{Of}
use Rattle.model.specs.texts.Texts.{response_of}
use Rattle.model.specs.state.Entry.Reply.{Done, Broker, LinkFault, Want}
use Rattle.model.specs.step.Fixed.{Fixes, HasPart, SameCommits}
use Rattle.model.specs.step.Produced.{NoneAdded}
use Rattle.model.specs.step.Ends.{EndsIf, as_assigned}
use Rattle.model.specs.step.Rules.{IsSet, IsLacking, IsAssigned, lacking}
use Rattle.model.proofs.Stretches.{keeps_itself}
use Rattle.broker_link.specs.Causes.{Counts}
use Rattle.broker_link.specs.Fetching.{at_of}
use Rattle.broker_link.specs.declared.fetch.TopicPart.{TopicPart as Part}
use Rattle.broker_link.specs.Replies.{IsCounted, IsGood}
use Rattle.broker_link.proofs.Puts.{get_or_any}
use Rattle.broker_link.specs.declared.link.LinkNo.TheVariants as link
use Rattle.rest_codes.specs.declared.response.Reply.{Reply as CodeReply}
use Rattle.rest_calls.specs.Responses.{response_in}
use Rattle.rest_replies.specs.Forms.{forms}
use Rattle.consumer_state.specs.Assign.{ActsSo, AreThere}
use Rattle.rest_replies.specs.Failure.{Says}
use Rattle.consumer_state.specs.LinkCalls.{ComesOf, FitsCode, refusal_of}
use Rattle.consumer_state.specs.Views.{mode_of}
use Rattle.consumer_state.specs.declared.topics.AssignNo.{AssignNo}
use Rattle.consumer_state.specs.declared.topics.AssignNo.TheVariants.{NoTopic, NoPartition, Failed}
use Rattle.consumer_state.proofs.Fixing.{has_part_later}
use Rattle.consumer_state.proofs.Lacking.{part_there}

-- how an Assign ends
abbrev pub AssignEnds : Key → ℕ → List TopicPart → Consumer → Log → Reply → Log → Consumer → Type 0
AssignEnds key now ats c a reply b c2 = EndsIf ats now c (Some reply) (Some c2) (IsLacking now ats c a (Some reply) (Some c2) ⊎ IsAssigned key now ats c a (Some reply) b (Some c2))

pub assign_acts : (advertise : List ℕ) (key : Key) (now round : ℕ) (ats : List TopicPart) (tells plain : Type 0) (before after : Counts) (c : Consumer) (a : Log) (reply : Reply) (r : CodeReply) (b : Log) (c2 : Consumer)
    → (tells → Keeps a b × NoneAdded a b × SameCommits a b) → Says reply r → IsCounted before after reply → c.mode ≢ ByTopics
    → (tells → IsLog a → AssignEnds key now ats c a reply b c2) → (tells → IsLog a → AreThere a c → AreThere b c2) → (plain → tells → IsLog a → IsGood reply)
    → ActsSo advertise key now round (Assign ats) tells plain before after c a [] (Some (response_in r)) b c2
assign_acts advertise key now round ats tells plain before after c a reply r b c2 keeps says counted mode ends there good = record {
  reply = Some reply;
  says = said;
  counted = counted;
  acted = λ t is table. (
    record {
      forms = forms;
      shows = λ format bytes. refl;
      own = [];
      same = refl;
      reply = Some reply;
      says = said;
      acts = (refl, (keeps t).2, inr (mode, ends t is));
      added = (keeps t).1;
      looks = tt;
    },
    refl,
  );
  there = there;
  good = λ p t is all. good p t is;
}
  where
    said : Some (response_in r) ≡ Some (response_of advertise forms (Of key (Assign ats)) reply)
    said = ap (λ x. Some x) (says advertise forms (Of key (Assign ats)))

-- nothing is assigned by topics
pub not_by_topics : (places : List Place) → mode_of places ≢ ByTopics
not_by_topics [] e = cc e
not_by_topics (place ∷ places) e = cc e

-- ---- where it isn't done

-- memory was wanting
pub ends_wanting : (key : Key) (now : ℕ) (ats : List TopicPart) (c : Consumer) (a b : Log) → AssignEnds key now ats c a Want b (touched now c)
ends_wanting key now ats c a b = inr (inl (record { says = refl; left = refl }))

pub ends_failed : (key : Key) (now : ℕ) (ats : List TopicPart) (c : Consumer) (a b : Log) (before after : Counts) (T : Type 0) (why : AssignNo) → ats ≢ [] → ComesOf before after why
    → FitsCode {T = T} (lacking a ats ats) (Err why) → AssignEnds key now ats c a (refusal_of why) b (touched now c)
ends_failed key now ats c a b before after T NoTopic some comes fits = inl (inl (40401, fits, record { says = refl; left = refl }))
ends_failed key now ats c a b before after T NoPartition some comes fits = inl (inl (40402, fits, record { says = refl; left = refl }))
ends_failed key now ats c a b before after T (Failed link.Want) some comes fits = ends_wanting key now ats c a b
ends_failed key now ats c a b before after T (Failed link.Fault) some comes fits = inr (inr (some, record { why = LinkFault; links = tt; says = refl; left = refl }))
ends_failed key now ats c a b before after T (Failed (link.Refused code)) some comes fits = inr (inr (some, record { why = Broker code; links = comes.0; says = refl; left = refl }))

pub still_there : (a b : Log) (now : ℕ) (c : Consumer) → Keeps a b → AreThere a c → AreThere b (touched now c)
still_there a b now c keeps all = λ k d lt. has_part_later a b (get_or c.assignment k d).at keeps (all k d lt)

-- ---- where it is done

abbrev pub now_assigned : Consumer → List Place → ℕ → Consumer
now_assigned c places now = record { settings = c.settings; mode = mode_of places; topics = []; assignment = places; rotation = 0; unsaved = c.unsaved; last_use = now }

assigned_is : (c : Consumer) (places : List Place) (now : ℕ) → now_assigned c places now ≡ as_assigned places now c
assigned_is c [] now = refl
assigned_is c (place ∷ places) now = refl

pub ends_assigned : (key : Key) (now : ℕ) (ats : List TopicPart) (c : Consumer) (a b : Log) (places : List Place) → c.mode ≢ ByTopics → lacking a ats ats ≡ None → IsSet ats places
    → Fixes (a.committed key.group) c.settings.reset c.assignment a (map (λ place. place.at) places) places b → AssignEnds key now ats c a Done b (now_assigned c places now)
ends_assigned key now ats c a b places mode none set fixes = inl (inr (record {
  mode = mode;
  have = none;
  places = places;
  set = set;
  fixes = fixes;
  says = refl;
  left = ap (λ x. Some x) (assigned_is c places now);
}))

pub set_there : (a b : Log) (ats : List TopicPart) (places : List Place) → Keeps a b → lacking a ats ats ≡ None → IsSet ats places → All (λ place. HasPart b place.at) places
set_there a b ats places keeps none set = λ k d lt.
    let at : TopicPart = (get_or places k d).at in
    let long : k < length (map (λ (place : Place). place.at) places) = omega (arith, lt, length-map places (λ (place : Place). place.at)) in
    let here : get_or (map (λ (place : Place). place.at) places) k at ≡ at =
    get_or_any (map (λ (place : Place). place.at) places) k at d.at long ∙ get_or-map (λ (place : Place). place.at) places k d d.at lt in
    has_part_later a b at keeps (part_there a ats at none ((set.same at).1 (k, long, here)))

pub set_of_none : IsSet [] []
set_of_none = record { same = λ at. (λ c. c, λ c. c); order = λ i j d lt le. absurd (omega (arith, lt, le)) }

-- an empty list assigns nothing
pub ends_cleared : (key : Key) (now : ℕ) (ats : List TopicPart) (c : Consumer) (a : Log) (places : List Place) → ats ≡ [] → places ≡ [] → c.mode ≢ ByTopics
    → AssignEnds key now ats c a Done a (now_assigned c places now)
ends_cleared key now ats c a places none cleared mode =
    subst (λ (l : List TopicPart). AssignEnds key now l c a Done a (now_assigned c places now)) (sym none)
    (subst (λ (ps : List Place). AssignEnds key now [] c a Done a (now_assigned c ps now)) (sym cleared) (ends_assigned key now [] c a a [] mode refl set_of_none (keeps_itself a)))

pub none_there : (b : Log) (places : List Place) → places ≡ [] → All (λ place. HasPart b place.at) places
none_there b places cleared = subst (λ (ps : List Place). All (λ (place : Place). HasPart b place.at) ps) (sym cleared) (All-nil (λ (place : Place). HasPart b place.at))

-- a list is empty or not by its length
pub none_listed : (parts : List Part) → (length parts == 0) ≡ true → map at_of parts ≡ []
none_listed [] e = refl
none_listed (p ∷ ps) e = absurd (grind (arith, nat_tests))

pub some_listed : (parts : List Part) → (length parts == 0) ≡ false → map at_of parts ≢ []
some_listed [] e is = absurd (cc e)
some_listed (p ∷ ps) e is = cc is
