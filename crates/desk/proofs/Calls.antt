-- A call of a live consumer, from what its instance does to what becomes of all.
use Rattle.std.proofs.Common.{◌≡◌, ℕ, ◌<◌, Bool, true, false, cond, List, [], ◌++◌, length, get_or, refl, ap, sym, ◌∙◌, subst, arith, Option, Some, None, slice_set}
use Rattle.std.specs.Prelude.{codes, option_map, ◌≢◌, ◌&&◌, ◌⊎◌, bytes_eq, IfSome}
use Rattle.std.specs.List.{remove}
use Rattle.std.proofs.lemmas.List.{get_or_default, length-set}
use Rattle.model.specs.state.Log.{Log}
use Rattle.model.specs.state.World.{Key, is_key, Consumer}
use Rattle.model.specs.state.World.Mode.{ByTopics}
use Rattle.model.specs.state.Forms.{Forms}
use Rattle.model.specs.state.Entry.{Act, Call, Event, Reply}
use Rattle.model.specs.state.Entry.Act.{Delete}
use Rattle.model.specs.state.Entry.Call.{Of}
use Rattle.model.specs.state.Entry.Reply.{Done, Made, Names, Nodes, Offsets, Told, Edged, Listed, Answers, Shown, Unread, Refused, Broker, LinkFault, Want}
use Rattle.model.specs.texts.Texts.{Response, response_of, error_text, is_retriable}
use Rattle.model.specs.step.Acts.{Acts}
use Rattle.model.specs.texts.Texts.Response.{Empty}
use Rattle.std.specs.Fmt.{signed_decimal}
use Rattle.rest_calls.specs.Responses.{response_in}
use Rattle.rest_codes.specs.declared.response.Reply.{Reply as CodeReply}
use Rattle.rest_codes.specs.declared.response.Reply.TheVariants as reply
use Rattle.model.specs.history.Noted.{live_after, said_of}
use Rattle.model.proofs.Moves.{same_from_is_key}
use Rattle.std.proofs.lemmas.Slice.Eq.{bytes_eq-Decides}
use Rattle.broker_link.specs.Causes.{Counts}
use Rattle.instance.specs.Views.{Live}
use Rattle.rest_replies.specs.Forms.{forms}
use Rattle.consumer_state.specs.Assign.{ActsSo, AreThere}
use Rattle.rest_calls.specs.Views.{key_in}
use Rattle.desk.specs.Keys.{consumer_key, group_in, name_in_call}
use Rattle.desk.specs.Consumers.{Groups, live_under, consumer_under, AreKeyed, Puts}
use Rattle.desk.specs.Action.{Does}
use Rattle.desk.specs.Shelf.{is_delete_call, is_empty_reply}
use Rattle.desk.specs.Call.{CallsSo}
use Rattle.desk.proofs.ConsumersLemmas.{found_put, others_put}

-- ---- who is live behind a call

other_act : (advertise : List ℕ) (forms : Forms) (key : Key) (r : Reply) → response_of advertise forms (Of key Delete) r ≡ Empty → r ≡ Done
other_act advertise forms key Done is = refl
other_act advertise forms key Made is = absurd (cc is)
other_act advertise forms key (Names names) is = absurd (cc is)
other_act advertise forms key (Nodes nodes) is = absurd (cc is)
other_act advertise forms key (Offsets places) is = absurd (cc is)
other_act advertise forms key (Told parts) is = absurd (cc is)
other_act advertise forms key (Edged start end) is = absurd (cc is)
other_act advertise forms key (Listed ats) is = absurd (cc is)
other_act advertise forms key (Answers answers) is = absurd (cc is)
other_act advertise forms key (Shown format items) is = absurd (cc is)
other_act advertise forms key (Unread item reason) is = absurd (cc is)
other_act advertise forms key (Refused code) is = absurd (cc is)
other_act advertise forms key (Broker code) is = absurd (go (is_retriable code) refl)
  where
    go : (b : Bool) → is_retriable code ≡ b → ⊥
    go true e = absurd (cc (sym (ap (λ (b : Bool). cond b (error_text 50003 (codes "Kafka retriable error: broker code " ++ (signed_decimal code ++ codes "."))) (error_text 50002 (codes "Kafka error: broker code " ++ (signed_decimal code ++ codes ".")))) e) ∙ is))
    go false e = absurd (cc (sym (ap (λ (b : Bool). cond b (error_text 50003 (codes "Kafka retriable error: broker code " ++ (signed_decimal code ++ codes "."))) (error_text 50002 (codes "Kafka error: broker code " ++ (signed_decimal code ++ codes ".")))) e) ∙ is))
other_act advertise forms key LinkFault is = absurd (cc is)
other_act advertise forms key Want is = absurd (cc is)

-- a Delete that was done and is answered so takes its consumer away
pub gone_after : (advertise : List ℕ) (forms : Forms) (key : Key) (act : Act) (reply : Option Reply) (said : Option CodeReply) (c : Consumer)
    → option_map response_in said ≡ said_of advertise forms (Some (Of key act)) reply → (is_delete_call (Of key act) && is_empty_reply said) ≡ true → live_after act reply c ≡ None
gone_after advertise forms key Delete (Some r) (Some reply.Empty) c is takes =
    let same : response_of advertise forms (Of key Delete) r ≡ Empty = (let e = is in cc e) in
    ap (λ (x : Reply). live_after Delete (Some x) c) (other_act advertise forms key r same)
gone_after advertise forms key Delete None (Some reply.Empty) c is takes = absurd (cc is)
gone_after advertise forms key act reply said c is takes = absurd (cc takes)

-- any other call leaves it
pub stays_after : (advertise : List ℕ) (forms : Forms) (key : Key) (act : Act) (reply : Option Reply) (said : Option CodeReply) (c : Consumer)
    → option_map response_in said ≡ said_of advertise forms (Some (Of key act)) reply → (is_delete_call (Of key act) && is_empty_reply said) ≡ false → live_after act reply c ≡ Some c
stays_after advertise forms key Delete (Some Done) None c is other = absurd (cc is)
stays_after advertise forms key Delete (Some Done) (Some reply.Empty) c is other = absurd (cc other)
stays_after advertise forms key Delete (Some Done) (Some (reply.Body media text)) c is other = absurd (cc is)
stays_after advertise forms key Delete (Some Done) (Some (reply.Error code text)) c is other = absurd (cc is)
stays_after advertise forms key Delete (Some Done) (Some (reply.NoMethod allow)) c is other = absurd (cc is)
stays_after advertise forms key Delete (Some Done) (Some reply.Want) c is other = absurd (cc is)
stays_after advertise forms key act reply said c is other = refl

-- ---- from the instance to all

live_there : (b : Log) (act : Act) (reply : Option Reply) (c : Consumer) → AreThere b c → IfSome (live_after act reply c) (AreThere b)
live_there b Delete (Some Done) c there = tt
live_there b act reply c there = there

-- what becomes of the consumer that the call found, where the list behind the call is known
calls_from : (advertise : List ℕ) (key : Key) (now round : ℕ) (act : Act) (tells plain : Type 0) (before after : Counts) (c : Consumer) (a : Log) (events : List (Key ⊎ Event)) (said : Option CodeReply) (b : Log) (c2 : Consumer) (found left : Option Consumer)
    → (x : ActsSo advertise key now round act tells plain before after c a events (option_map response_in said) b c2) → c.mode ≢ ByTopics → found ≡ Some c → left ≡ live_after act x.reply c2
    → CallsSo advertise key now round act tells plain before after found a events (option_map response_in said) b left
calls_from advertise key now round act tells plain before after c a events said b c2 found left x mode was is = record {
  reply = x.reply;
  says = x.says;
  counted = x.counted;
  unsubscribed = subst (λ (o : Option Consumer). IfSome o (λ (y : Consumer). y.mode ≢ ByTopics)) (sym was) mode;
  called = λ told log.
      let one = x.acted told log [] in
      let y = one.0 in
      record {
        turn_forms = y.forms;
        shows = λ table. y.shows;
        own = y.own;
        same = y.same;
        says = subst (λ (r : Option Reply). option_map response_in said ≡ said_of advertise y.forms (Some (Of key act)) r) one.1 y.says;
        acts = subst (λ (o : Option Consumer). Acts key now (record { round = round; forms = y.forms }) act o a y.own x.reply b left) (sym was)
            (subst (λ (o : Option Consumer). Acts key now (record { round = round; forms = y.forms }) act (Some c) a y.own x.reply b o) (sym is)
            (subst (λ (r : Option Reply). Acts key now (record { round = round; forms = y.forms }) act (Some c) a y.own r b (live_after act r c2)) one.1 y.acts));
        added = y.added;
      };
  there = λ told log were.
      subst (λ (o : Option Consumer). IfSome o (AreThere b)) (sym is) (live_there b act x.reply c2 (x.there told log (subst (λ (o : Option Consumer). IfSome o (AreThere a)) was were)));
  good = λ is_plain told log were. x.good is_plain told log (subst (λ (o : Option Consumer). IfSome o (AreThere a)) was were);
}

-- ---- the consumer under the call's key

-- any other call leaves it there
pub kept_calls : (old new : Groups) (call : Call) (key : Key) (act : Act) (advertise : List ℕ) (now round : ℕ) (tells plain : Type 0) (before after : Counts) (a : Log) (events : List (Key ⊎ Event)) (said : Option CodeReply) (b : Log)
    → AreKeyed old → call ≡ Of key act → Does (live_under old (consumer_key call)) (λ live. Puts old (consumer_key call) live new) call now round tells plain before after a events (option_map response_in said) b → (is_delete_call call && is_empty_reply said) ≡ false
    → CallsSo advertise key now round act tells plain before after (consumer_under old key) a events (option_map response_in said) b (consumer_under new key)
kept_calls old new call key act advertise now round tells plain before after a events said b keyed is one other =
    let key_is : consumer_key call ≡ key = ap consumer_key is in
    let stood_is : one.stood.key ≡ key = keyed (consumer_key call) one.stood one.was ∙ key_is in
    let acts = one.acts advertise act (is ∙ ap (λ (k : Key). Of k act) (sym stood_is)) in
    let moved = subst (λ (k : Key). ActsSo advertise k now round act tells plain before after one.stood.consumer a events (option_map response_in said) b one.live.consumer) stood_is acts in
    let was : consumer_under old key ≡ Some one.stood.consumer = ap (λ (k : Key). consumer_under old k) (sym key_is) ∙ ap (λ (o : Option Live). option_map (λ (l : Live). l.consumer) o) one.was in
    let left : consumer_under new key ≡ Some one.live.consumer = ap (λ (k : Key). consumer_under new k) (sym key_is) ∙ ap (λ (o : Option Live). option_map (λ (l : Live). l.consumer) o) (found_put old new (consumer_key call) (Some one.live) one.puts) in
    calls_from advertise key now round act tells plain before after one.stood.consumer a events said b one.live.consumer (consumer_under old key) (consumer_under new key) moved one.unsubscribed was
    (left ∙ sym (stays_after advertise forms key act moved.reply said one.live.consumer moved.says (subst (λ (k : Call). (is_delete_call k && is_empty_reply said) ≡ false) is other)))

-- a Delete that was done is followed by a removal
pub taken_calls : (old mid new : Groups) (call : Call) (key : Key) (act : Act) (advertise : List ℕ) (now round : ℕ) (tells plain : Type 0) (before after : Counts) (a : Log) (events : List (Key ⊎ Event)) (said : Option CodeReply) (b : Log)
    → AreKeyed old → call ≡ Of key act → Does (live_under old (consumer_key call)) (λ live. Puts old (consumer_key call) live mid) call now round tells plain before after a events (option_map response_in said) b → (is_delete_call call && is_empty_reply said) ≡ true
    → Puts mid (consumer_key call) None new
    → CallsSo advertise key now round act tells plain before after (consumer_under old key) a events (option_map response_in said) b (consumer_under new key)
taken_calls old mid new call key act advertise now round tells plain before after a events said b keyed is one takes removed =
    let key_is : consumer_key call ≡ key = ap consumer_key is in
    let stood_is : one.stood.key ≡ key = keyed (consumer_key call) one.stood one.was ∙ key_is in
    let acts = one.acts advertise act (is ∙ ap (λ (k : Key). Of k act) (sym stood_is)) in
    let moved = subst (λ (k : Key). ActsSo advertise k now round act tells plain before after one.stood.consumer a events (option_map response_in said) b one.live.consumer) stood_is acts in
    let was : consumer_under old key ≡ Some one.stood.consumer = ap (λ (k : Key). consumer_under old k) (sym key_is) ∙ ap (λ (o : Option Live). option_map (λ (l : Live). l.consumer) o) one.was in
    let left : consumer_under new key ≡ None = ap (λ (k : Key). consumer_under new k) (sym key_is) ∙ ap (λ (o : Option Live). option_map (λ (l : Live). l.consumer) o) (found_put mid new (consumer_key call) None removed) in
    calls_from advertise key now round act tells plain before after one.stood.consumer a events said b one.live.consumer (consumer_under old key) (consumer_under new key) moved one.unsubscribed was
    (left ∙ sym (gone_after advertise forms key act moved.reply said one.live.consumer moved.says (subst (λ (k : Call). (is_delete_call k && is_empty_reply said) ≡ true) is takes)))

-- ---- the others

pub others_of : (old new : Groups) (call : Call) (key : Key) (act : Act) (live : Option Live) → call ≡ Of key act → Puts old (consumer_key call) live new
    → (other : Key) → is_key other key ≡ false → consumer_under new other ≡ consumer_under old other
others_of old new call key act live is puts = λ other apart.
    ap (λ (o : Option Live). option_map (λ (l : Live). l.consumer) o) (others_put old new (consumer_key call) other live puts (subst (λ (k : Key). is_key other k ≡ false) (sym (ap consumer_key is)) apart))

-- the key, from the texts of its group and its name
pub key_here : (call : Call) (group name : List ℕ) → group ≡ group_in call → name ≡ name_in_call call → key_in group name ≡ consumer_key call
key_here call group name group_is name_is = λ i. key_in (group_is i) (name_is i)
