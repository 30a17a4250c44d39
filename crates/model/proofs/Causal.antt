-- Assignments and empty replies have their cause in the log.
use Rattle.std.proofs.Common.{◌≡◌, ℕ, zero, suc, ◌<◌, ◌≤◌, ◌&&◌, Bool, true, false, cond, if◌then◌else◌, List, [], ◌∷◌, ◌++◌, map, length, drop, take, refl, sym, ap, subst, ◌∙◌, inl, inr, arith, Option, Some, None}
use Rattle.std.specs.Prelude.{◌⊎◌, ◌≢◌, Contains, IsSome, is_none}
use Rattle.std.specs.List.{All}
use Rattle.std.proofs.lemmas.List.Elements.{All-nil, All-cons}
use Rattle.model.specs.state.Log.{TopicPart, Row, Log}
use Rattle.model.specs.step.Walk.{Place, Lot, Item, Rule, Walked, unwalked, walk, walk_part, with_row, or_first, turned}
use Rattle.model.specs.state.World.{Key, Edge, Consumer, touched, position_in}
use Rattle.model.specs.state.World.Mode.{ByTopics}
use Rattle.model.specs.state.Entry.{Event, Reply, Turn, IsLinks}
use Rattle.model.specs.state.Entry.Act.{Assign, Fixed}
use Rattle.model.specs.state.Entry.Reply.{Done, Broker, Refused, Want, Shown}
use Rattle.model.specs.step.Fixed.{Fixes, HasPart, fixed_at}
use Rattle.model.specs.step.Acts.{Live}
use Rattle.model.specs.step.Step.{lacking, IsCut, as_assigned}
use Rattle.model.proofs.Singles.{no_cut, assigned_places}

no_refusal : (code : ℕ) (c1 c2 : Option Consumer) → IsCut (Some (Refused code)) c1 c2 → ⊥
no_refusal code c1 c2 x = links x.why x.links x.says
  where
    links : (why : Reply) → IsLinks why → Some (Refused code) ≡ Some why → ⊥
    links (Broker k) l e = absurd (cc e)
    links (Refused k) l e = l
    links _ l e = absurd (cc e)

pub assign_refused : (key : Key) (moment : ℕ) (turn : Turn) (ats : List TopicPart) (c : Consumer) (a : Log) (events : List Event) (code : ℕ) (b : Log) (c2 : Option Consumer)
    → Live key moment turn (Assign ats) c a events (Some (Refused code)) b c2 → ((c.mode ≡ ByTopics) × (code ≡ 40903)) ⊎ ((c.mode ≢ ByTopics) × (lacking a ats ats ≡ Some code))
assign_refused key moment turn ats c a events code b c2 (e, s, inl (m, inl r)) = inl (m, cc r.says)
assign_refused key moment turn ats c a events code b c2 (e, s, inl (m, inr w)) = absurd (cc w.says)
assign_refused key moment turn ats c a events code b c2 (e, s, inr (m, inl (inl r))) = let x = r.2 in let same : code ≡ r.0 = cc x.says in inr (m, r.1 ∙ ap (λ n. Some n) (sym same))
assign_refused key moment turn ats c a events code b c2 (e, s, inr (m, inl (inr r))) = absurd (cc r.says)
assign_refused key moment turn ats c a events code b c2 (e, s, inr (m, inr (inl w))) = absurd (cc w.says)
assign_refused key moment turn ats c a events code b c2 (e, s, inr (m, inr (inr r))) = absurd (no_refusal code (Some (touched moment c)) c2 r.1)

pub committed_refused : (key : Key) (moment : ℕ) (turn : Turn) (ats : List TopicPart) (c : Consumer) (a : Log) (events : List Event) (code : ℕ) (b : Log) (c2 : Option Consumer)
    → Live key moment turn (Fixed ats) c a events (Some (Refused code)) b c2 → lacking a ats ats ≡ Some code
committed_refused key moment turn ats c a events code b c2 (e, s, inl (inl r)) = let x = r.2 in let same : code ≡ r.0 = cc x.says in r.1 ∙ ap (λ n. Some n) (sym same)
committed_refused key moment turn ats c a events code b c2 (e, s, inl (inr r)) = let x = r.1 in absurd (cc x.says)
committed_refused key moment turn ats c a events code b c2 (e, s, inr (inl w)) = absurd (cc w.says)
committed_refused key moment turn ats c a events code b c2 (e, s, inr (inr r)) = absurd (no_refusal code (Some (touched moment c)) c2 r.1)

fixes_read : (committed : TopicPart → Option ℕ) (reset : Edge) (kept : List Place) (a : Log) (places : List Place) (b : Log) → Fixes committed reset kept a (map (λ (place : Place). place.at) places) places b
    → All (λ (place : Place). position_in kept place.at ≡ None → (offset : ℕ) → committed place.at ≡ Some offset → place.position ≡ offset) places
fixes_read committed reset kept a [] b fixes = All-nil (λ (place : Place). position_in kept place.at ≡ None → (offset : ℕ) → committed place.at ≡ Some offset → place.position ≡ offset)
fixes_read committed reset kept a (place ∷ places) b fixes =
    All-cons (λ (p : Place). position_in kept p.at ≡ None → (offset : ℕ) → committed p.at ≡ Some offset → p.position ≡ offset) place places (λ none offset is. here fixes.3 none offset is) (fixes_read committed reset kept fixes.0 places b fixes.4)
  where
    here : ((position_in kept place.at ≡ Some place.position) ⊎ ((position_in kept place.at ≡ None) × (committed place.at ≡ None → HasPart fixes.0 place.at) × (place.position ≡ fixed_at reset (committed place.at) fixes.0 place.at)))
        → position_in kept place.at ≡ None → (offset : ℕ) → committed place.at ≡ Some offset → place.position ≡ offset
    here (inl same) none offset is = absurd (cc (same, none))
    here (inr r) none offset is = r.2 ∙ ap (λ o. fixed_at reset o fixes.0 place.at) is

pub assign_reads : (key : Key) (moment : ℕ) (turn : Turn) (ats : List TopicPart) (c d : Consumer) (a : Log) (events : List Event) (b : Log)
    → Live key moment turn (Assign ats) c a events (Some Done) b (Some d)
    → All (λ (place : Place). position_in c.assignment place.at ≡ None → (offset : ℕ) → a.committed key.group place.at ≡ Some offset → place.position ≡ offset) d.assignment
assign_reads key moment turn ats c d a events b (e, s, inl (m, inl r)) = absurd (cc r.says)
assign_reads key moment turn ats c d a events b (e, s, inl (m, inr w)) = absurd (cc w.says)
assign_reads key moment turn ats c d a events b (e, s, inr (m, inl (inl r))) = let x = r.2 in absurd (cc x.says)
assign_reads key moment turn ats c d a events b (e, s, inr (m, inl (inr r))) =
    let is : d ≡ as_assigned r.places moment c = cc r.left in
    let there : d.assignment ≡ r.places = ap (λ (x : Consumer). x.assignment) is ∙ assigned_places r.places moment c in
    subst (λ (places : List Place). All (λ (place : Place). position_in c.assignment place.at ≡ None → (offset : ℕ) → a.committed key.group place.at ≡ Some offset → place.position ≡ offset) places) (sym there)
    (fixes_read (a.committed key.group) c.settings.reset c.assignment a r.places b r.fixes)
assign_reads key moment turn ats c d a events b (e, s, inr (m, inr (inl w))) = absurd (cc w.says)
assign_reads key moment turn ats c d a events b (e, s, inr (m, inr (inr r))) = absurd (no_cut (Some (touched moment c)) (Some d) r.1)
