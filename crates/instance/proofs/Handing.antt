-- From what a look fetched and how it ended to what its walk had at hand.
use Rattle.std.proofs.Common.{◌≡◌, ℕ, ◌*◌, List, [], ◌∷◌, ◌++◌, map, length, min, refl, ap, sym, subst, ◌∙◌, inl, inr, arith, Option, Some}
use Rattle.std.specs.Prelude.{◌⊎◌, option_map}
use Rattle.std.proofs.lemmas.List.{map-append}
use Rattle.model.specs.state.Log.{Log}
use Rattle.model.specs.step.Walk.{Place, Lot, Walked, unwalked, walk, turned}
use Rattle.model.specs.state.World.{Key, Format, Consumer, touched, with_positions}
use Rattle.model.specs.state.Entry.{Event}
use Rattle.model.specs.state.Entry.Act.{Records}
use Rattle.model.specs.state.Entry.Call.{Of}
use Rattle.model.specs.state.Entry.Event.{Reset}
use Rattle.model.specs.state.Entry.Reply.{Want as NoMemory}
use Rattle.model.specs.texts.Texts.{Response}
use Rattle.model.specs.step.Look.{LookEnds, after_events, at_most}
use Rattle.broker_link.specs.Causes.{Counts, ComesOf}
use Rattle.broker_link.specs.Fetching.{rows_in}
use Rattle.broker_link.specs.Replies.{link_reply}
use Rattle.broker_link.specs.declared.fetch.Fetched.{Fetched}
use Rattle.broker_link.specs.declared.link.LinkNo.{LinkNo}
use Rattle.rest_calls.specs.Responses.{response_in}
use Rattle.rest_calls.specs.Views.{asked_of}
use Rattle.rest_calls.specs.declared.call.Call.{Call}
use Rattle.rest_calls.specs.declared.call.Call.TheVariants as calls
use Rattle.rest_codes.specs.declared.response.Reply.{Reply as CodeReply}
use Rattle.instance.specs.Telling.{AsksNothing}
use Rattle.instance.specs.declared.event.Event.{Event as CodeEvent}
use Rattle.instance.specs.declared.event.Outcome.{Outcome}
use Rattle.broker_link.specs.declared.place.Place.{Place as CodePlace}
use Rattle.rest_replies.specs.Forms.{forms}
use Rattle.instance.specs.Ending.{IsOver, IsSettled, own_of, turn_of}
use Rattle.rest_replies.specs.Failure.{SaysOrWant}
use Rattle.instance.specs.Gathering.{AreGiven, SetsBack}
use Rattle.instance.specs.Handed.{IsHanded, LooksAtGiven}
use Rattle.instance.specs.Walk.{lots_of, rule_of}
use Rattle.instance.specs.Views.{events_in, said_in}
use Rattle.instance.proofs.Looking.{Mid, after_resets, ends_untouched, is_mark, links_of, own_events, with_places}

-- the rows of the lots are those that came
pub rows_of_lots : (places : List CodePlace) (fetched : List Fetched) → length fetched ≡ length places → map (λ (lot : Lot). lot.rows) (lots_of places fetched) ≡ map rows_in fetched
rows_of_lots [] [] same = refl
rows_of_lots [] (f ∷ fs) same = absurd (omega arith)
rows_of_lots (p ∷ ps) [] same = absurd (omega arith)
rows_of_lots (p ∷ ps) (f ∷ fs) same = ap (λ l. rows_in f ∷ l) (rows_of_lots ps fs (omega arith))

-- the walk over what came
handed_walk : (now round : ℕ) (c : Consumer) (tells : Type 0) (a : Log) (events all : List CodeEvent) (said : Option Response) (b : Log) (cm c2 : Consumer) (lots : List Lot) (wait most : ℕ)
    → (sets : SetsBack tells c.settings.reset a c.assignment events b cm.assignment) → Mid now c sets.news cm
    → map (λ (lot : Lot). lot.place) lots ≡ cm.assignment → AreGiven (min (2 * most) 1048576) c.rotation b cm.assignment (map (λ (lot : Lot). lot.rows) lots)
    → IsSettled round wait most cm lots events all said c2
    → IsHanded now round wait most (after_events (map own_of all) c) b said c2
handed_walk now round c tells a events all said b cm c2 lots wait most sets mid whose given settled =
    let looked : List Event = map own_of settled.marks in
    let ended = settled.ended in
    let here : Consumer = with_places (with_positions sets.news c.assignment) c in
    let walked : Walked = walk (rule_of most c.settings.format) unwalked (turned c.rotation lots) in
    let ends : LookEnds now (turn_of round) wait (touched now here) walked looked ended.reply (Some c2) =
    subst (λ (x : Consumer). LookEnds x.last_use (turn_of round) wait x (walk (rule_of most x.settings.format) unwalked (turned x.rotation lots)) looked ended.reply (Some c2)) mid ended.ends in
    let own : map own_of all ≡ map Reset sets.news ++ looked = ap (map own_of) settled.added ∙ (map-append own_of events settled.marks ∙ ap (λ es. es ++ looked) sets.told) in
    let after_is : after_events (map own_of all) c ≡ here =
    ap (λ (es : List Event). after_events es c) own ∙ after_resets sets.news looked c (is_mark now (turn_of round) wait (touched now here) walked looked ended.reply (Some c2) ends) in
    subst (λ (x : Consumer). IsHanded now round wait most x b said c2) (sym after_is) (record {
      lots = lots;
      whose = whose ∙ sets.after;
      given = subst (λ (ps : List Place). AreGiven (min (2 * most) 1048576) c.rotation b ps (map (λ (lot : Lot). lot.rows) lots)) sets.after given;
      looked = looked;
      reply = ended.reply;
      says = ended.says;
      ends = ends_untouched now (turn_of round) wait here walked looked ended.reply (Some c2) ends;
    })

-- a look that came to its walk
pub handed_over : (now round : ℕ) (formats : List Format) (timeout bound : Option ℕ) (tells : Type 0) (c : Consumer) (a : Log) (events : List CodeEvent) (out : Outcome) (b : Log) (cm c2 : Consumer) (lots : List Lot) (wait most : ℕ)
    → (sets : SetsBack tells c.settings.reset a c.assignment events b cm.assignment) → Mid now c sets.news cm
    → wait ≡ at_most c.settings.timeout_ms timeout → most ≡ at_most 4194304 bound
    → map (λ (lot : Lot). lot.place) lots ≡ cm.assignment → AreGiven (min (2 * most) 1048576) c.rotation b cm.assignment (map (λ (lot : Lot). lot.rows) lots)
    → IsOver round wait most cm lots events out c2
    → LooksAtGiven now round formats timeout bound c (events_in out) (said_in out) b c2
handed_over now round formats timeout bound tells c a events out b cm c2 lots wait most sets mid wait_is most_is whose given (inl w) =
    inr (inl (record { why = NoMemory; links = tt; says = λ advertise key. ap (option_map response_in) w.0 }))
handed_over now round formats timeout bound tells c a events out b cm c2 lots wait most sets mid wait_is most_is whose given (inr w) =
    let handed = handed_walk now round c tells a events out.events (said_in out) b cm c2 lots wait most sets mid whose given w in
    inr (inr (
      map own_of out.events,
      own_events out.events,
      subst (λ n. IsHanded now round n (at_most 4194304 bound) (after_events (map own_of out.events) c) b (said_in out) c2) wait_is
          (subst (λ n. IsHanded now round wait n (after_events (map own_of out.events) c) b (said_in out) c2) most_is handed),
    ))

-- a look that a failure of the link ended
pub handed_failed : (now round : ℕ) (formats : List Format) (timeout bound : Option ℕ) (before after : Counts) (c : Consumer) (events : List (Key ⊎ Event)) (r : CodeReply) (b : Log) (c2 : Consumer) (e : LinkNo)
    → ComesOf before after e → SaysOrWant (link_reply e) r → LooksAtGiven now round formats timeout bound c events (Some (response_in r)) b c2
handed_failed now round formats timeout bound before after c events r b c2 e comes (inl says) =
    inr (inl (record { why = link_reply e; links = links_of before after e comes; says = λ advertise key. ap (λ x. Some x) (says advertise forms (Of key (Records formats timeout bound))) }))
handed_failed now round formats timeout bound before after c events r b c2 e comes (inr want) =
    inr (inl (record { why = NoMemory; links = tt; says = λ advertise key. ap (λ x. Some (response_in x)) want }))

-- a call that asks nothing is no look
pub no_look : (call : Call) (key : Key) (formats : List Format) (timeout bound : Option ℕ) → asked_of call ≡ Of key (Records formats timeout bound) → AsksNothing call → ⊥
no_look (calls.Records group name accepts time most) key formats timeout bound is asks = asks
no_look call key formats timeout bound is asks = cc is
