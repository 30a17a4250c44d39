-- Positions that are set back, in the model's terms, and where they then lie.
use Rattle.std.proofs.Common.{◌≡◌, false, List, [], ◌∷◌, map, slice_index_or, refl, ap, sym, subst, ◌∙◌, arith, Option, Some, None, ℤ}
use Rattle.std.specs.Prelude.{nat_abs}
use Rattle.std.specs.List.{All, AllZip}
use Rattle.std.proofs.lemmas.List.Elements.{All-nil, All-cons, All-head, All-tail}
use Rattle.std.proofs.lemmas.List.Kept.{AllPairs-cons}
use Rattle.model.specs.state.Log.{TopicPart, is_at, Log, IsLog, Keeps}
use Rattle.model.specs.step.Walk.{Place}
use Rattle.model.specs.state.World.{Edge, IsInOrder, position_in, with_position, with_positions}
use Rattle.model.specs.state.World.Edge.{Start, End}
use Rattle.model.specs.step.Fixed.{Edges, IsOutside, Resets, edge_of}
use Rattle.model.specs.step.Look.{SetBack}
use Rattle.model.proofs.Walks.{is_at_itself, is_then, is_else}
use Rattle.model.proofs.Stretches.{keeps_on}
use Rattle.broker_link.specs.declared.fetch.Fetched.{Fetched}
use Rattle.instance.specs.declared.event.Event.{Event as CodeEvent}
use Rattle.instance.specs.Ending.{own_of}
use Rattle.instance.specs.Gathering.{AreSet, AreTold, EdgesTold, GotFrom, IsGotAt, IsInside, SetsBack, news_of, put_all}
use Rattle.instance.proofs.Resetting.{told_on}
use Rattle.consumer_state.proofs.PositionLemmas.{Apart, apart_head, apart_of, apart_tail, other_way, skip_one}

-- what holds of the partitions of the places holds of those that were told a position
news_all : (P : TopicPart → Type 0) (ps : List Place) (os : List (Option ℤ)) → All (λ (p : Place). P p.at) ps → All (λ (p : Place). P p.at) (news_of ps os)
news_all P [] os h = All-nil (λ (p : Place). P p.at)
news_all P (p ∷ ps) [] h = All-nil (λ (p : Place). P p.at)
news_all P (p ∷ ps) (None ∷ os) h = news_all P ps os (All-tail (λ (p : Place). P p.at) p ps h)
news_all P (p ∷ ps) (Some n ∷ os) h =
    All-cons (λ (p : Place). P p.at) (record { at = p.at; position = nat_abs n }) (news_of ps os) (All-head (λ (p : Place). P p.at) p ps h) (news_all P ps os (All-tail (λ (p : Place). P p.at) p ps h))

once : (ps : List Place) (os : List (Option ℤ)) → Apart ps → Apart (news_of ps os)
once [] os h = λ i j d lt lt'. absurd (omega arith)
once (p ∷ ps) [] h = λ i j d lt lt'. absurd (omega arith)
once (p ∷ ps) (None ∷ os) h = once ps os (apart_tail p ps h)
once (p ∷ ps) (Some n ∷ os) h =
    AllPairs-cons (λ (x y : Place). is_at x.at y.at ≡ false) (record { at = p.at; position = nat_abs n }) (news_of ps os) (news_all (λ at. is_at p.at at ≡ false) ps os (apart_head p ps h)) (once ps os (apart_tail p ps h))

skip_all : (news : List Place) (p : Place) (ps : List Place) → All (λ (n : Place). is_at n.at p.at ≡ false) news → with_positions news (p ∷ ps) ≡ p ∷ with_positions news ps
skip_all [] p ps h = refl
skip_all (n ∷ ns) p ps h =
    let e : is_at n.at p.at ≡ false = All-head (λ (n : Place). is_at n.at p.at ≡ false) n ns h in
    ap (λ x. with_positions ns (x ∷ with_position n ps)) (is_else (is_at n.at p.at) n p e) ∙ skip_all ns p (with_position n ps) (All-tail (λ (n : Place). is_at n.at p.at ≡ false) n ns h)

flipped : (x : TopicPart) (ns : List Place) → All (λ (n : Place). is_at x n.at ≡ false) ns → All (λ (n : Place). is_at n.at x ≡ false) ns
flipped x ns h = λ k d lt. other_way x (slice_index_or ns k d).at (h k d lt)

-- the positions told, set in turn, are all set
put_all_is : (ps : List Place) (os : List (Option ℤ)) → Apart ps → with_positions (news_of ps os) ps ≡ put_all ps os
put_all_is [] os h = refl
put_all_is (p ∷ ps) [] h = refl
put_all_is (p ∷ ps) (None ∷ os) h =
    skip_all (news_of ps os) p ps (flipped p.at (news_of ps os) (news_all (λ at. is_at p.at at ≡ false) ps os (apart_head p ps h))) ∙ ap (λ xs. p ∷ xs) (put_all_is ps os (apart_tail p ps h))
put_all_is (p ∷ ps) (Some n ∷ os) h =
    let new : Place = record { at = p.at; position = nat_abs n } in
    let ns : List Place = news_of ps os in
    ap (λ x. with_positions ns (x ∷ with_position new ps)) (is_then (is_at p.at p.at) new p (is_at_itself p.at))
    ∙ (ap (λ xs. with_positions ns (new ∷ xs)) (skip_one new ps (apart_head p ps h))
    ∙ (skip_all ns new ps (flipped p.at ns (news_all (λ at. is_at p.at at ≡ false) ps os (apart_head p ps h))) ∙ ap (λ xs. new ∷ xs) (put_all_is ps os (apart_tail p ps h))))

-- each place is where the list has it
position_is : (ps : List Place) → Apart ps → All (λ (p : Place). position_in ps p.at ≡ Some p.position) ps
position_is [] h = All-nil (λ (p : Place). position_in [] p.at ≡ Some p.position)
position_is (p ∷ ps) h =
    All-cons (λ (q : Place). position_in (p ∷ ps) q.at ≡ Some q.position) p ps (is_then (is_at p.at p.at) (Some p.position) (position_in ps p.at) (is_at_itself p.at))
    (λ k d lt.
    let q : Place = slice_index_or ps k d in
    is_else (is_at q.at p.at) (Some p.position) (position_in ps q.at) (other_way p.at q.at (apart_head p ps h k d lt)) ∙ position_is ps (apart_tail p ps h) k d lt)

are_outside : (seen : Log) (whole ps : List Place) (fetched : List Fetched) (os : List (Option ℤ)) → All (λ (p : Place). position_in whole p.at ≡ Some p.position) ps
    → AllZip (IsGotAt seen) ps fetched → AreTold fetched os → All (IsOutside seen whole) (news_of ps os)
are_outside seen whole [] fetched os there got told = All-nil (IsOutside seen whole)
are_outside seen whole (p ∷ ps) [] os there got told = absurd got
are_outside seen whole (p ∷ ps) (f ∷ fs) [] there got told = absurd told
are_outside seen whole (p ∷ ps) (f ∷ fs) (None ∷ os) there got told =
    are_outside seen whole ps fs os (All-tail (λ (p : Place). position_in whole p.at ≡ Some p.position) p ps there) got.1 told.1
are_outside seen whole (p ∷ ps) (f ∷ fs) (Some n ∷ os) there got told =
    All-cons (IsOutside seen whole) (record { at = p.at; position = nat_abs n }) (news_of ps os)
    (record { old = p.position; was = All-head (λ (p : Place). position_in whole p.at ≡ Some p.position) p ps there; outside = (let one = got.0 in one.outside (sym told.0)) })
    (are_outside seen whole ps fs os (All-tail (λ (p : Place). position_in whole p.at ≡ Some p.position) p ps there) got.1 told.1)

inside_kept : (a b : Log) (p : Place) → Keeps a b → IsInside a p → IsInside b p
inside_kept a b p keeps h = let k = keeps.part p.at in (omega (arith, k.start, h.0), omega (arith, k.end, h.1))

edges_keep : (edge : Edge) (a : Log) (ats : List TopicPart) (ps : List Place) (b : Log) → Edges edge a ats ps b → Keeps a b
edges_keep edge a [] [] b h = h
edges_keep edge a [] (p ∷ ps) b h = absurd h
edges_keep edge a (at ∷ ats) [] b h = absurd h
edges_keep edge a (at ∷ ats) (p ∷ ps) b h = keeps_on a h.0 b h.1.1 (edges_keep edge h.0 ats ps b h.5)

at_edge : (edge : Edge) (m : Log) (at : TopicPart) → IsLog m → IsInside m (record { at = at; position = edge_of edge m at })
at_edge Start m at log = let part = log.part at in (omega arith, part.whole)
at_edge End m at log = let part = log.part at in (part.whole, omega arith)

-- behind the edges told all positions lie in range
pub inside_after : (edge : Edge) (seen a b : Log) (ps : List Place) (fetched : List Fetched) (os : List (Option ℤ)) → AllZip (IsGotAt seen) ps fetched → AreTold fetched os → Keeps seen b → EdgesTold edge a ps os b
    → All (IsInside b) (put_all ps os)
inside_after edge seen a b [] fetched os got told keeps h = All-nil (IsInside b)
inside_after edge seen a b (p ∷ ps) [] os got told keeps h = absurd got
inside_after edge seen a b (p ∷ ps) (f ∷ fs) [] got told keeps h = absurd told
inside_after edge seen a b (p ∷ ps) (f ∷ fs) (None ∷ os) got told keeps h =
    All-cons (IsInside b) p (put_all ps os) (inside_kept seen b p keeps (let one = got.0 in one.inside (sym told.0))) (inside_after edge seen a b ps fs os got.1 told.1 keeps h)
inside_after edge seen a b (p ∷ ps) (f ∷ fs) (Some n ∷ os) got told keeps h =
    let new : Place = record { at = p.at; position = nat_abs n } in
    let here : IsInside h.0 new = subst (λ k. IsInside h.0 (record { at = p.at; position = k })) (sym h.4) (at_edge edge h.0 p.at h.1.0) in
    All-cons (IsInside b) new (put_all ps os) (inside_kept h.0 b new (edges_keep edge h.0 (map (λ (q : Place). q.at) (news_of ps os)) (news_of ps os) b h.5) here)
    (inside_after edge seen h.0 b ps fs os got.1 told.1 keeps h.5)

set_back_of : (edge : Edge) (a b : Log) (places news : List Place) → Keeps a b → Resets edge a places news b → SetBack edge a places news b
set_back_of edge a b places [] keeps resets = keeps
set_back_of edge a b places (n ∷ ns) keeps resets = resets

-- nothing was out of range
pub sets_none : (tells : Type 0) (edge : Edge) (a b : Log) (places : List Place) (events : List CodeEvent) → events ≡ [] → (tells → Keeps a b) → SetsBack tells edge a places events b places
sets_none tells edge a b places events none keeps = record { news = []; told = ap (map own_of) none; after = refl; set = λ t log. keeps t }

-- what was out of range is set back
pub sets_back : (tells t2 : Type 0) (edge : Edge) (a s m b : Log) (places : List Place) (fetched : List Fetched) (events : List CodeEvent) (places2 : List Place) → IsInOrder places
    → (tells → t2) → (tells → Keeps a s) → (tells → IsLog a → IsLog s) → (tells → GotFrom s places fetched) → (tells → Keeps m b) → AreSet t2 edge s places fetched events m places2
    → SetsBack tells edge a places events b places2
sets_back tells t2 edge a s m b places fetched events places2 order telling keeps is_log got on set = record {
  news = news_of places set.told;
  told = set.says;
  after = set.put ∙ sym (put_all_is places set.told (apart_of places order));
  set = λ t log.
      let edges : EdgesTold edge s places set.told m = set.edges (telling t) (is_log t log) in
      let told : EdgesTold edge s places set.told b = told_on edge s places set.told m b edges (on t) in
      let one = got t in
      set_back_of edge a b places (news_of places set.told) (keeps_on a s b (keeps t) (edges_keep edge s (map (λ (q : Place). q.at) (news_of places set.told)) (news_of places set.told) b told))
      (record {
        seen = s;
        since = (is_log t log, keeps t);
        once = once places set.told (apart_of places order);
        outside = are_outside s places places fetched set.told (position_is places (apart_of places order)) one.each set.are;
        told = told;
      });
}

-- and all positions then lie in range
pub set_inside : (t2 : Type 0) (edge : Edge) (s m b : Log) (places : List Place) (fetched : List Fetched) (events : List CodeEvent) (places2 : List Place)
    → t2 → IsLog s → GotFrom s places fetched → Keeps s m → Keeps m b → AreSet t2 edge s places fetched events m places2 → All (IsInside b) places2
set_inside t2 edge s m b places fetched events places2 t log got keeps on set =
    subst (All (IsInside b)) (sym set.put) (inside_after edge s s b places fetched set.told got.each set.are (keeps_on s m b keeps on) (told_on edge s places set.told m b (set.edges t log) on))

pub set_is : (t2 : Type 0) (edge : Edge) (s m : Log) (places : List Place) (fetched : List Fetched) (events : List CodeEvent) (places2 : List Place) → IsInOrder places
    → (set : AreSet t2 edge s places fetched events m places2) → places2 ≡ with_positions (news_of places set.told) places
set_is t2 edge s m places fetched events places2 order set = set.put ∙ sym (put_all_is places set.told (apart_of places order))
