-- One position more that is told, put or named by an event.
use Rattle.std.proofs.Common.{◌≡◌, ℕ, ◌+◌, ◌<◌, List, [], ◌∷◌, ◌++◌, map, length, take, slice_index_or, refl, ap, sym, subst, ◌∙◌, arith, Option, Some, None, ℤ}
use Rattle.std.specs.Prelude.{nat_abs}
use Rattle.std.specs.List.{All, AllZip}
use Rattle.std.proofs.lemmas.List.{take_more, get_or-map, length-map, map-append, map_push, append-nil}
use Rattle.model.specs.state.Log.{TopicPart, Log, IsLog, Keeps}
use Rattle.model.specs.step.Walk.{Place}
use Rattle.model.specs.state.World.{Edge}
use Rattle.model.specs.state.Entry.Event.{Reset}
use Rattle.model.specs.step.Fixed.{Edges, HasPart, edge_of}
use Rattle.model.proofs.Stretches.{keeps_itself, keeps_on}
use Rattle.broker_link.specs.declared.fetch.Fetched.{Fetched}
use Rattle.broker_link.specs.declared.place.Place.{Place as CodePlace}
use Rattle.instance.specs.declared.event.Event.{Event as CodeEvent}
use Rattle.instance.specs.Ending.{own_of}
use Rattle.instance.specs.Gathering.{AreTold, EdgesTold, IsEdgeIf, news_of, put_all, put_maybe}
use Rattle.broker_link.specs.Places.{place_of}

news_push : (ps : List Place) (os : List (Option ℤ)) (p : Place) (o : Option ℤ) → length os ≡ length ps → news_of (ps ++ p ∷ []) (os ++ o ∷ []) ≡ news_of ps os ++ news_of (p ∷ []) (o ∷ [])
news_push [] [] p o same = refl
news_push [] (x ∷ os) p o same = absurd (omega arith)
news_push (q ∷ ps) [] p o same = absurd (omega arith)
news_push (q ∷ ps) (None ∷ os) p o same = news_push ps os p o (omega arith)
news_push (q ∷ ps) (Some n ∷ os) p o same = ap (λ xs. record { at = q.at; position = nat_abs n } ∷ xs) (news_push ps os p o (omega arith))

zip_push : {A B : Type 0} (R : A → B → Type 0) (xs : List A) (ys : List B) (x : A) (y : B) → AllZip R xs ys → R x y → AllZip R (xs ++ x ∷ []) (ys ++ y ∷ [])
zip_push R [] [] x y all one = (one, tt)
zip_push R [] (b ∷ ys) x y all one = absurd all
zip_push R (a ∷ xs) [] x y all one = absurd all
zip_push R (a ∷ xs) (b ∷ ys) x y all one = (all.0, zip_push R xs ys x y all.1 one)

-- one fetched place more was told or not
pub told_more : (fetched : List Fetched) (os : List (Option ℤ)) (i : ℕ) (f : Fetched) (o : Option ℤ) → i < length fetched → f ≡ slice_index_or fetched i f
    → AreTold (take i fetched) os → Rattle.std.specs.Prelude.is_some o ≡ f.out_of_range → AreTold (take (i + 1) fetched) (os ++ o ∷ [])
told_more fetched os i f o lt is are same =
    subst (λ (fs : List Fetched). AreTold fs (os ++ o ∷ [])) (sym (take_more fetched i f lt ∙ ap (λ (x : Fetched). take i fetched ++ x ∷ []) (sym is)))
    (zip_push (λ (x : Fetched) (y : Option ℤ). Rattle.std.specs.Prelude.is_some y ≡ x.out_of_range) (take i fetched) os f o are same)

edges_on : (edge : Edge) (a : Log) (ats : List TopicPart) (ps : List Place) (m b : Log) → Edges edge a ats ps m → Keeps m b → Edges edge a ats ps b
edges_on edge a [] [] m b h k = keeps_on a m b h k
edges_on edge a [] (p ∷ ps) m b h k = absurd h
edges_on edge a (at ∷ ats) [] m b h k = absurd h
edges_on edge a (at ∷ ats) (p ∷ ps) m b h k = (h.0, h.1, h.2, h.3, h.4, edges_on edge h.0 ats ps m b h.5 k)

edges_push : (edge : Edge) (a : Log) (ats : List TopicPart) (ps : List Place) (m b : Log) (at : TopicPart) (p : Place) → Edges edge a ats ps m → IsLog b → Keeps m b → HasPart b at → p.at ≡ at → p.position ≡ edge_of edge b at
    → Edges edge a (ats ++ at ∷ []) (ps ++ p ∷ []) b
edges_push edge a [] [] m b at p h log k has is position = (b, (log, keeps_on a m b h k), has, is, position, keeps_itself b)
edges_push edge a [] (q ∷ ps) m b at p h log k has is position = absurd h
edges_push edge a (x ∷ ats) [] m b at p h log k has is position = absurd h
edges_push edge a (x ∷ ats) (q ∷ ps) m b at p h log k has is position = (h.0, h.1, h.2, h.3, h.4, edges_push edge h.0 ats ps m b at p h.5 log k has is position)

pub told_on : (edge : Edge) (a : Log) (places : List Place) (told : List (Option ℤ)) (m b : Log) → EdgesTold edge a places told m → Keeps m b → EdgesTold edge a places told b
told_on edge a places told m b h k = edges_on edge a (map (λ (p : Place). p.at) (news_of places told)) (news_of places told) m b h k

edges_more : (edge : Edge) (a m b : Log) (ps : List Place) (os : List (Option ℤ)) (p : Place) (o : Option ℤ) → length os ≡ length ps → EdgesTold edge a ps os m → IsLog b → Keeps m b → IsEdgeIf b p.at edge o
    → EdgesTold edge a (ps ++ p ∷ []) (os ++ o ∷ []) b
edges_more edge a m b ps os p None same h log k told =
    subst (λ (ns : List Place). Edges edge a (map (λ (x : Place). x.at) ns) ns b) (sym (news_push ps os p None same ∙ append-nil (news_of ps os))) (told_on edge a ps os m b h k)
edges_more edge a m b ps os p (Some n) same h log k told =
    let new : Place = record { at = p.at; position = nat_abs n } in
    subst (λ (ns : List Place). Edges edge a (map (λ (x : Place). x.at) ns) ns b) (sym (news_push ps os p (Some n) same))
    (subst (λ (ats : List TopicPart). Edges edge a ats (news_of ps os ++ new ∷ []) b) (sym (map_push (λ (x : Place). x.at) (news_of ps os) new))
    (edges_push edge a (map (λ (x : Place). x.at) (news_of ps os)) (news_of ps os) m b p.at new h log k told.have refl told.is))

-- one edge more was told
pub edges_told_more : (edge : Edge) (a m b : Log) (places : List CodePlace) (os : List (Option ℤ)) (i : ℕ) (place : CodePlace) (o : Option ℤ) → i < length places → place ≡ slice_index_or places i place → length os ≡ i
    → EdgesTold edge a (map place_of (take i places)) os m → IsLog b → Keeps m b → IsEdgeIf b (place_of place).at edge o
    → EdgesTold edge a (map place_of (take (i + 1) places)) (os ++ o ∷ []) b
edges_told_more edge a m b places os i place o lt is long h log k told =
    let one : map place_of (take (i + 1) places) ≡ map place_of (take i places) ++ place_of place ∷ [] =
    ap (map place_of) (take_more places i place lt ∙ ap (λ (x : CodePlace). take i places ++ x ∷ []) (sym is)) ∙ map_push place_of (take i places) place in
    let same : length os ≡ length (map place_of (take i places)) = omega (arith, long, lt, length-map (take i places) place_of, Rattle.std.proofs.lemmas.List.length-take i places) in
    subst (λ (ps : List Place). EdgesTold edge a ps (os ++ o ∷ []) b) (sym one) (edges_more edge a m b (map place_of (take i places)) os (place_of place) o same h log k told)

-- one event more
pub events_more : (places : List CodePlace) (told : List (Option ℤ)) (i : ℕ) (place : CodePlace) (o : Option ℤ) (events now : List CodeEvent) → i < length places → i < length told → place ≡ slice_index_or places i place → o ≡ slice_index_or told i o
    → map own_of events ≡ map Reset (news_of (map place_of (take i places)) (take i told)) → map own_of now ≡ map own_of events ++ map Reset (news_of (place_of place ∷ []) (o ∷ []))
    → map own_of now ≡ map Reset (news_of (map place_of (take (i + 1) places)) (take (i + 1) told))
events_more places told i place o events now lt lt' is o_is so_far more =
    let ps : List Place = map place_of (take i places) in
    let one : map place_of (take (i + 1) places) ≡ ps ++ place_of place ∷ [] =
    ap (map place_of) (take_more places i place lt ∙ ap (λ (x : CodePlace). take i places ++ x ∷ []) (sym is)) ∙ map_push place_of (take i places) place in
    let two : take (i + 1) told ≡ take i told ++ o ∷ [] = take_more told i o lt' ∙ ap (λ (x : Option ℤ). take i told ++ x ∷ []) (sym o_is) in
    let same : length (take i told) ≡ length ps = omega (arith, lt, lt', length-map (take i places) place_of, Rattle.std.proofs.lemmas.List.length-take i places, Rattle.std.proofs.lemmas.List.length-take i told) in
    let news : news_of (map place_of (take (i + 1) places)) (take (i + 1) told) ≡ news_of ps (take i told) ++ news_of (place_of place ∷ []) (o ∷ []) =
    ap (λ (xs : List Place). news_of xs (take (i + 1) told)) one ∙ (ap (λ (os : List (Option ℤ)). news_of (ps ++ place_of place ∷ []) os) two ∙ news_push ps (take i told) (place_of place) o same) in
    more ∙ (ap (λ es. es ++ map Reset (news_of (place_of place ∷ []) (o ∷ []))) so_far ∙ sym (ap (map Reset) news ∙ map-append Reset (news_of ps (take i told)) (news_of (place_of place ∷ []) (o ∷ []))))

pub put_none : (ps : List Place) → put_all ps [] ≡ ps
put_none [] = refl
put_none (p ∷ ps) = refl

put_push : (ps : List Place) (os : List (Option ℤ)) (o : Option ℤ) → length os < length ps → put_all ps (os ++ o ∷ []) ≡ put_maybe (put_all ps os) (length os) o
put_push [] os o lt = absurd (omega arith)
put_push (p ∷ ps) [] None lt = ap (λ xs. p ∷ xs) (put_none ps)
put_push (p ∷ ps) [] (Some n) lt = ap (λ xs. record { at = p.at; position = nat_abs n } ∷ xs) (put_none ps)
put_push (p ∷ ps) (None ∷ os) None lt = ap (λ xs. p ∷ xs) (put_push ps os None (omega arith))
put_push (p ∷ ps) (None ∷ os) (Some n) lt = ap (λ xs. p ∷ xs) (put_push ps os (Some n) (omega arith))
put_push (p ∷ ps) (Some k ∷ os) None lt = ap (λ xs. record { at = p.at; position = nat_abs k } ∷ xs) (put_push ps os None (omega arith))
put_push (p ∷ ps) (Some k ∷ os) (Some n) lt = ap (λ xs. record { at = p.at; position = nat_abs k } ∷ xs) (put_push ps os (Some n) (omega arith))

-- one position more is put
pub put_more : (places : List Place) (told : List (Option ℤ)) (i : ℕ) (o : Option ℤ) (now new : List Place) → i < length told → length told ≡ length places → o ≡ slice_index_or told i o
    → now ≡ put_all places (take i told) → new ≡ put_maybe now i o → new ≡ put_all places (take (i + 1) told)
put_more places told i o now new lt same is so_far put =
    let long : length (take i told) ≡ i = omega (arith, lt, Rattle.std.proofs.lemmas.List.length-take i told) in
    let two : take (i + 1) told ≡ take i told ++ o ∷ [] = take_more told i o lt ∙ ap (λ (x : Option ℤ). take i told ++ x ∷ []) (sym is) in
    put ∙ (ap (λ (xs : List Place). put_maybe xs i o) so_far ∙ (ap (λ (k : ℕ). put_maybe (put_all places (take i told)) k o) (sym long) ∙ sym (ap (put_all places) two ∙ put_push places (take i told) o (omega (arith, long)))))

-- the topics have one of the places
pub has_at : (log : Log) (places : List CodePlace) (i : ℕ) (place : CodePlace) → Rattle.instance.specs.Gathering.HaveAll log (map place_of places) → i < length places → place ≡ slice_index_or places i place → HasPart log (place_of place).at
has_at log places i place have lt is =
    subst (λ (x : Place). HasPart log x.at) (get_or-map place_of places i place (place_of place) lt ∙ ap place_of (sym is)) (have i (place_of place) (omega (arith, length-map places place_of)))
