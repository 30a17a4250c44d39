-- A call under whose key nobody is live: a Create makes one, and any other is refused.
use Rattle.std.proofs.Common.{◌≡◌, ℕ, Bool, true, false, List, [], ◌∷◌, ◌++◌, refl, ap, sym, ◌∙◌, subst, arith, inl, inr, Option, Some, None}
use Rattle.std.specs.Prelude.{ℤ, ◌⊎◌, map, option_map}
use Rattle.model.specs.history.Legal.{is_fault, is_refusal}
use Rattle.model.specs.state.Log.{Log}
use Rattle.model.specs.state.World.{Key, is_key, Settings, Consumer, IsConsumer, fresh}
use Rattle.model.specs.state.Entry.{Act, Call, Reply}
use Rattle.model.specs.state.Entry.Act.{Create}
use Rattle.model.specs.state.Entry.Call.{Of}
use Rattle.model.specs.state.Entry.Reply.{Made, Refused, Broker, Want}
use Rattle.model.specs.texts.Texts.Response.{Wanting}
use Rattle.model.specs.step.Acts.{Gone}
use Rattle.broker_link.specs.Causes.{Counts}
use Rattle.broker_link.specs.Replies.{IsCounted}
use Rattle.rest_calls.specs.Responses.{response_in}
use Rattle.rest_codes.specs.declared.response.Reply.{Reply as CodeReply}
use Rattle.rest_codes.specs.declared.response.Reply.TheVariants as reply
use Rattle.instance.specs.declared.event.Event.{Event as CodeEvent}
use Rattle.instance.specs.Views.{Live, event_of}
use Rattle.rest_replies.specs.Forms.{forms}
use Rattle.rest_replies.specs.Creation.{SaysMade}
use Rattle.rest_replies.specs.Failure.{SaysOrWant}
use Rattle.broker_link.specs.Stands.{Stand}
use Rattle.model.specs.state.Entry.{Event}
use Rattle.model.specs.texts.Texts.{Response}
use Rattle.model.specs.state.World.{nobody}
use Rattle.desk.specs.Consumers.{live_under}
use Rattle.desk.specs.declared.consumers.Consumers.{Consumers}
use Rattle.desk.specs.Shelf.{is_create_call, world_in}
use Rattle.desk.specs.Call.{CallsSo}

pub is_fresh : (settings : Settings) (moment : ℕ) → IsConsumer (fresh settings moment)
is_fresh settings moment = record { order = λ i j d less short. absurd (omega (arith, short)); low = λ k d short. absurd (omega (arith, short)); names = λ i j d less short. absurd (omega (arith, short)) }

-- the gateway refused or found no memory, and the link was not asked
uncounted : (c : Counts) (r : Reply) → (is_fault (Some r) ≡ false) → (is_refusal (Some r) ≡ false) → ((code : ℤ) → r ≡ Broker code → ⊥) → IsCounted c c r
uncounted c r faultless unrefused codeless = record {
  faults_kept = omega arith;
  refusals_kept = omega arith;
  sent_kept = omega arith;
  polls_kept = omega arith;
  beats_kept = omega arith;
  fault = λ e. absurd (cc (faultless, e));
  refusal = λ e. absurd (cc (unrefused, e));
  code = λ code e. absurd (codeless code e);
}

want_uncounted : (c : Counts) → IsCounted c c Want
want_uncounted c = uncounted c Want refl refl (λ code e. absurd (cc e))

gone_wants : (moment : ℕ) (act : Act) (a : Log) → Gone moment act a [] (Some Want) a None
gone_wants moment (Create settings) a = (refl, λ other at. refl, inr (record { says = refl; left = refl }))
gone_wants moment act a = (refl, λ other at. refl, inr (record { says = refl; left = refl }))

gone_refuses : (moment : ℕ) (key : Key) (act : Act) (a : Log) → is_create_call (Of key act) ≡ false → Gone moment act a [] (Some (Refused 40403)) a None
gone_refuses moment key (Create settings) a other = absurd (cc other)
gone_refuses moment key act a other = (refl, λ other at. refl, inl (record { says = refl; left = refl }))

-- memory was wanting
pub wants_calls : (advertise : List ℕ) (key : Key) (moment round : ℕ) (act : Act) (tells plain : Type 0) (counts : Counts) (a : Log) (left : Option Consumer) → left ≡ None
    → CallsSo advertise key moment round act tells plain counts counts None a [] (Some Wanting) a left
wants_calls advertise key moment round act tells plain counts a left is = subst (λ (o : Option Consumer). CallsSo advertise key moment round act tells plain counts counts None a [] (Some Wanting) a o) (sym is) (record {
  reply = Some Want;
  says = refl;
  counted = want_uncounted counts;
  unsubscribed = tt;
  called = λ told log. record { turn_forms = forms; shows = λ table format bytes. refl; own = []; same = refl; says = refl; acts = gone_wants moment act a; added = refl };
  there = λ told log were. tt;
  good = λ is_plain told log were. tt;
})

-- nobody is live under the key
pub missing_calls : (advertise : List ℕ) (key : Key) (moment round : ℕ) (act : Act) (tells plain : Type 0) (counts : Counts) (a : Log) (left : Option Consumer) (said : CodeReply) → left ≡ None
    → is_create_call (Of key act) ≡ false → SaysOrWant (Refused 40403) said
    → CallsSo advertise key moment round act tells plain counts counts None a [] (Some (response_in said)) a left
missing_calls advertise key moment round act tells plain counts a left said is other (inr wants) =
    subst (λ (r : CodeReply). CallsSo advertise key moment round act tells plain counts counts None a [] (Some (response_in r)) a left) (sym wants) (wants_calls advertise key moment round act tells plain counts a left is)
missing_calls advertise key moment round act tells plain counts a left said is other (inl says) = subst (λ (o : Option Consumer). CallsSo advertise key moment round act tells plain counts counts None a [] (Some (response_in said)) a o) (sym is) (record {
  reply = Some (Refused 40403);
  says = ap Some (says advertise forms (Of key act));
  counted = uncounted counts (Refused 40403) refl refl (λ code e. absurd (cc e));
  unsubscribed = tt;
  called = λ told log. record { turn_forms = forms; shows = λ table format bytes. refl; own = []; same = refl; says = ap Some (says advertise forms (Of key act)); acts = gone_refuses moment key act a other; added = refl };
  there = λ told log were. tt;
  good = λ is_plain told log were. tt;
})

-- a new one was made
pub made_calls : (advertise : List ℕ) (key : Key) (moment round : ℕ) (act : Act) (tells plain : Type 0) (counts : Counts) (a : Log) (live : Live) (left : Option Consumer) (said : CodeReply)
    → left ≡ Some live.consumer → is_create_call (Of key act) ≡ true → SaysMade advertise key said → (said ≡ reply.Want → ⊥)
    → ((settings : Settings) → act ≡ Create settings → live.consumer ≡ fresh settings moment)
    → CallsSo advertise key moment round act tells plain counts counts None a [] (Some (response_in said)) a left
made_calls advertise key moment round act tells plain counts a live left said is_live creates (inr wants) some new = absurd (some wants)
made_calls advertise key moment round (Create settings) tells plain counts a live left said is_live creates (inl says) some new =
    let now : left ≡ Some (fresh settings moment) = is_live ∙ ap Some (new settings refl) in
    subst (λ (o : Option Consumer). CallsSo advertise key moment round (Create settings) tells plain counts counts None a [] (Some (response_in said)) a o) (sym now) (record {
      reply = Some Made;
      says = ap Some (says forms settings);
      counted = uncounted counts Made refl refl (λ code e. absurd (cc e));
      unsubscribed = tt;
      called = λ told log. record { turn_forms = forms; shows = λ table format bytes. refl; own = []; same = refl; says = ap Some (says forms settings); acts = (refl, λ other at. refl, inl (record { says = refl; left = refl })); added = refl };
      there = λ told log were k d short. absurd (omega (arith, short));
      good = λ is_plain told log were. tt;
    })
made_calls advertise key moment round act tells plain counts a live left said is_live creates (inl says) some new = absurd (cc creates)

-- the outcome has no event
pub eventless_calls : (advertise : List ℕ) (key : Key) (now round : ℕ) (act : Act) (tells plain : Type 0) (before after : Counts) (c : Option Consumer) (a : Log) (events : List CodeEvent) (said : Option CodeReply) (r : CodeReply) (b : Log) (c2 : Option Consumer)
    → events ≡ [] → said ≡ Some r → CallsSo advertise key now round act tells plain before after c a [] (Some (response_in r)) b c2
    → CallsSo advertise key now round act tells plain before after c a (map event_of events) (option_map response_in said) b c2
eventless_calls advertise key now round act tells plain before after c a events said r b c2 none is calls =
    subst (λ (es : List CodeEvent). CallsSo advertise key now round act tells plain before after c a (map event_of es) (option_map response_in said) b c2) (sym none)
    (subst (λ (o : Option CodeReply). CallsSo advertise key now round act tells plain before after c a [] (option_map response_in o) b c2) (sym is) calls)

-- what was called where nobody is live, from before the look-up to after the call
pub missing_from : (advertise seen : List ℕ) (key : Key) (now round : ℕ) (act : Act) (a m b : Stand) (c : Option Consumer) (events : List (Key ⊎ Event)) (said : Option Response) (left : Option Consumer)
    → seen ≡ advertise → m ≡ a → b ≡ m → c ≡ None
    → CallsSo seen key now round act m.tells m.plain m.counts m.counts None m.log events said m.log left
    → CallsSo advertise key now round act a.tells a.plain a.counts b.counts c a.log events said b.log left
missing_from advertise seen key now round act a m b c events said left same stands after none calls =
    subst (λ (o : Option Consumer). CallsSo advertise key now round act a.tells a.plain a.counts b.counts o a.log events said b.log left) (sym none)
    (subst (λ (s : Stand). CallsSo advertise key now round act a.tells a.plain a.counts s.counts None a.log events said s.log left) (sym (after ∙ stands))
    (subst (λ (s : Stand). CallsSo advertise key now round act s.tells s.plain s.counts s.counts None s.log events said s.log left) stands
    (subst (λ (t : List ℕ). CallsSo t key now round act m.tells m.plain m.counts m.counts None m.log events said m.log left) same calls)))

-- the world of nobody
pub world_of_nobody : (consumers : Consumers) (last : ℕ) → ((key : Key) → live_under consumers.groups key ≡ None) → last ≡ 0 → world_in consumers last ≡ nobody
world_of_nobody consumers last none is = λ i. record { at = λ key. option_map (λ (l : Live). l.consumer) (none key i); last = is i }
