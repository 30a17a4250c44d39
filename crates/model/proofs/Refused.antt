-- Wrong answers that these definitions refuse.
use Rattle.std.proofs.Common.{◌++◌, ◌≡◌, ℕ, true, false, List, [], ◌∷◌, map, refl, ap, subst, ◌∙◌, inl, inr, Option, Some, None, IsTrue}
use Rattle.std.specs.Prelude.{◌⊎◌, pos}
use Rattle.std.specs.List.{All}
use Rattle.std.proofs.lemmas.List.Elements.{All-nil, All-cons}
use Rattle.model.specs.state.Log.{TopicPart, is_at, Log}
use Rattle.model.proofs.Walks.{is_at_itself}
use Rattle.model.specs.step.Walk.{Place, Walked}
use Rattle.model.specs.state.World.{Key, Edge, Consumer, once_parts, position_in, touched, Format, Unset}
use Rattle.model.specs.state.World.Format.{Json}
use Rattle.model.specs.state.Entry.{Event, Reply, Turn, Committed, IsLinks, Refused, Want, Reset}
use Rattle.model.specs.state.Entry.Act.{Delete, Seek, Records}
use Rattle.model.specs.state.Entry.Reply.{Done, Broker, LinkFault}
use Rattle.model.specs.step.Fixed.{SameCommits, HasPart, fixed_at, Fixes}
use Rattle.model.specs.step.Look.{allows, Places, IsLook, is_due, is_listed, Looks, placed_event, Sends, LookEnds, at_most, after_events, IsCut_off, IsWalked, saved_event}
use Rattle.model.specs.step.Step.{Live, EndsAlone, AllAssigned, at_positions, IsRefused, IsDone}

-- a Records call that Accept refuses commits nothing
pub refused_look : (key : Key) (turn : Turn) (c : Consumer) (a : Log) (events : List Event) (reply : Option Reply) (b : Log) (c2 : Option Consumer)
    → allows (Json ∷ []) c.settings.format ≡ false → Live key 0 turn (Records (Json ∷ []) None None) c a events reply b c2 → SameCommits a b
refused_look key turn c a events reply b c2 e (inl r) = r.2
refused_look key turn c a events reply b c2 e (inr r) = absurd (cc (e, r.0))

-- a Seek isn't answered 50003, and a Delete not by a broker code
pub seek_alone : (key : Key) (turn : Turn) (c : Consumer) (a : Log) (news : List Place) (events : List Event) (b : Log) (c2 : Option Consumer)
    → Live key 0 turn (Seek news) c a events (Some LinkFault) b c2 → ⊥
seek_alone key turn c a news events b c2 live = go live.2
  where
    go : EndsAlone 0 c (Some LinkFault) c2 (((AllAssigned (map (λ (place : Place). place.at) news) c → ⊥) × IsRefused 40990 (Some LinkFault) (Some (touched 0 c)) c2) ⊎ (AllAssigned (map (λ (place : Place). place.at) news) c × IsDone Done (Some LinkFault) (Some (at_positions news 0 c)) c2)) → ⊥
    go (inl (inl r)) = let d = r.1 in absurd (cc d.says)
    go (inl (inr r)) = let d = r.1 in absurd (cc d.says)
    go (inr r) = absurd (cc r.says)

pub delete_deletes : (key : Key) (turn : Turn) (c : Consumer) (a : Log) (events : List Event) (b : Log) (c2 : Option Consumer)
    → Live key 0 turn Delete c a events (Some (Broker (pos 16))) b c2 → ⊥
delete_deletes key turn c a events b c2 live = go live.2
  where
    go : EndsAlone 0 c (Some (Broker (pos 16))) c2 (IsDone Done (Some (Broker (pos 16))) None c2) → ⊥
    go (inl r) = absurd (cc r.says)
    go (inr r) = absurd (cc r.says)

-- a repeat is told once
pub told_once : (at : TopicPart) → once_parts [] (at ∷ at ∷ []) ≡ at ∷ []
told_once at = let itself : is_at at at ≡ true = is_at_itself at in rw itself refl

-- a place of a rebalance begins at the offset that the group has committed by then
places_read_commits : (committed : TopicPart → Option ℕ) (reset : Edge) (a : Log) (places : List Place) (b : Log) → Fixes committed reset [] a (map (λ (place : Place). place.at) places) places b
    → All (λ (place : Place). (offset : ℕ) → committed place.at ≡ Some offset → place.position ≡ offset) places
places_read_commits committed reset a [] b fixes = All-nil (λ (place : Place). (offset : ℕ) → committed place.at ≡ Some offset → place.position ≡ offset)
places_read_commits committed reset a (place ∷ places) b fixes =
    All-cons (λ (p : Place). (offset : ℕ) → committed p.at ≡ Some offset → p.position ≡ offset) place places (λ offset is. here fixes.3 offset is) (places_read_commits committed reset fixes.0 places b fixes.4)
  where
    here : ((position_in [] place.at ≡ Some place.position) ⊎ ((position_in [] place.at ≡ None) × (committed place.at ≡ None → HasPart fixes.0 place.at) × (place.position ≡ fixed_at reset (committed place.at) fixes.0 place.at)))
        → (offset : ℕ) → committed place.at ≡ Some offset → place.position ≡ offset
    here (inl kept) offset is = absurd (cc kept)
    here (inr r) offset is = r.2 ∙ ap (λ o. fixed_at reset o fixes.0 place.at) is

pub rebalance_reads : (key : Key) (moment : ℕ) (turn : Turn) (timeout bound : Option ℕ) (c : Consumer) (a : Log) (events : List Event) (reply : Option Reply) (b : Log) (c2 : Option Consumer) (places : List Place)
    → (look : IsLook key moment turn timeout bound c a events reply b c2) → look.placed ≡ Some places
    → All (λ (place : Place). (offset : ℕ) → b.committed key.group place.at ≡ Some offset → place.position ≡ offset) places
rebalance_reads key moment turn timeout bound c a events reply b c2 places look is =
    let given : Places (b.committed key.group) c (Some places) a look.middle = subst (λ o. Places (b.committed key.group) c o a look.middle) is look.places in
    places_read_commits (b.committed key.group) c.settings.reset a places look.middle given.3

pub due_commits : (key : Key) (moment : ℕ) (turn : Turn) (timeout bound : Option ℕ) (c : Consumer) (a : Log) (events : List Event) (reply : Option Reply) (b : Log) (c2 : Option Consumer)
    → IsLook key moment turn timeout bound c a events reply b c2 → is_due c turn.round ≡ true
    → ((rows : List Place) × (rest : List Event) × (events ≡ Committed rows ∷ rest)) ⊎ ((events ≡ []) × ((why : Reply) × IsLinks why × (reply ≡ Some why)))
due_commits key moment turn timeout bound c a events reply b c2 look due = go look.saved refl
  where
    go : (o : Option (List Place)) → look.saved ≡ o
        → ((rows : List Place) × (rest : List Event) × (events ≡ Committed rows ∷ rest)) ⊎ ((events ≡ []) × ((why : Reply) × IsLinks why × (reply ≡ Some why)))
    go None is = let u = look.due due is in inr (u.none, (u.why, u.links, u.says))
    go (Some rows) is =
        let rest : List Event = placed_event look.placed ++ (map Reset look.resets ++ look.looked) in
        inl (rows, rest, look.order ∙ ap (λ o. saved_event o ++ rest) is)

pub rebalance_is_listed : (key : Key) (moment : ℕ) (turn : Turn) (timeout bound : Option ℕ) (c : Consumer) (a : Log) (events : List Event) (reply : Option Reply) (b : Log) (c2 : Option Consumer) (places : List Place)
    → (look : IsLook key moment turn timeout bound c a events reply b c2) → look.placed ≡ Some places
    → All (λ (place : Place). IsTrue (is_listed c.topics place.at.topic)) places
rebalance_is_listed key moment turn timeout bound c a events reply b c2 places look is =
    let given : Places (b.committed key.group) c (Some places) a look.middle = subst (λ o. Places (b.committed key.group) c o a look.middle) is look.places in
    given.2

pub quiet_looks : (key : Key) (moment : ℕ) (turn : Turn) (formats : List Format) (timeout bound : Option ℕ) (c : Consumer) (a : Log) (events : List Event) (b : Log) (c2 : Option Consumer)
    → c.mode ≡ Unset → c.assignment ≡ [] → Looks key moment turn formats timeout bound c a events (Some LinkFault) b c2 → ⊥
quiet_looks key moment turn formats timeout bound c a events b c2 unset none (inl r) = refused r.3
  where
    refused : (Some LinkFault ≡ Some (Refused 40601)) ⊎ (Some LinkFault ≡ Some Want) → ⊥
    refused (inl e) = absurd (cc e)
    refused (inr e) = absurd (cc e)
quiet_looks key moment turn formats timeout bound c a events b c2 unset none (inr r) = go look.ends
  where
    look : IsLook key moment turn timeout bound c a events (Some LinkFault) b c2
    look = r.1

    sent : Sends c → ⊥
    sent (inl e) = absurd (cc (unset, e))
    sent (inr some) = some none

    cause : (why : Reply) → LinkFault ≡ why → (why ≡ Want) ⊎ Sends c → ⊥
    cause why is (inl e) = absurd (cc (is, e))
    cause why is (inr sends) = sent sends

    ended : (looked : List Event) (walked : Walked) → LookEnds moment turn (at_most c.settings.timeout_ms timeout) (after_events events c) walked looked (Some LinkFault) c2 → ⊥
    ended looked walked (inl x) = absurd (cc x.says)
    ended looked walked (inr (inl x)) = absurd (cc x.says)
    ended looked walked (inr (inr x)) = absurd (cc x.says)

    go : IsCut_off moment (Sends c) (after_events events c) look.looked (Some LinkFault) c2
        ⊎ IsWalked moment turn (at_most c.settings.timeout_ms timeout) (at_most 4194304 bound) a b (after_events events c) look.looked (Some LinkFault) c2 → ⊥
    go (inl cut) = let why : LinkFault ≡ cut.why = cc cut.says in cause cut.why why cut.cause
    go (inr w) = ended look.looked w.walked w.ends
