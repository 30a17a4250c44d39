-- From texts put together piece by piece to the list of an assignment.
use Rattle.std.proofs.Common.{◌≡◌, ℕ, ◌+◌, ◌<◌, ◌≤◌, List, [], ◌∷◌, ◌++◌, length, take, map, get_or, refl, ap, sym, ◌∙◌, append_assoc, arith}
use Rattle.std.specs.Prelude.{codes, ◌==◌}
use Rattle.std.proofs.lemmas.List.{map_more, length-map, length-take, take_all}
use Rattle.json.specs.Print.{quoted}
use Rattle.model.specs.state.Log.{TopicPart}
use Rattle.model.specs.texts.Bodies.{array, joined, part_text}
use Rattle.broker_link.specs.declared.place.Place.{Place}
use Rattle.rest_replies.specs.Listing.{listed_text}
use Rattle.rest_replies.proofs.JoinedLemmas.{joined_push, mark}
use Rattle.broker_link.specs.Places.{at_in}

pub part_is : (at : TopicPart) (topic : List ℕ) (partition : ℕ) → topic ≡ quoted at.topic → partition ≡ at.partition → listed_text topic partition ≡ part_text at
unfolding listed_text
part_is at topic partition topic_is partition_is = rw (topic_is, partition_is) refl

abbrev pub text_of : Place → List ℕ
text_of place = part_text (at_in place)

-- one partition more
pub places_more : (places : List Place) (i : ℕ) (place : Place) (head text more : List ℕ) → i < length places → place ≡ get_or places i place → text ≡ head ++ joined (map text_of (take i places))
    → more ≡ text ++ (mark (i == 0) ++ text_of place) → more ≡ head ++ joined (map text_of (take (i + 1) places))
places_more places i place head text more lt here is added =
    let long : length (map text_of (take i places)) ≡ i = length-map (take i places) text_of ∙ omega (arith, lt, length-take i places) in
    let next : map text_of (take (i + 1) places) ≡ map text_of (take i places) ++ text_of place ∷ [] = map_more text_of places i place lt ∙ ap (λ (p : Place). map text_of (take i places) ++ text_of p ∷ []) (sym here) in
    let joined_is : joined (map text_of (take (i + 1) places)) ≡ joined (map text_of (take i places)) ++ (mark (i == 0) ++ text_of place) = ap joined next ∙ joined_push (map text_of (take i places)) (text_of place) i long in
    added ∙ (ap (λ l. l ++ (mark (i == 0) ++ text_of place)) is ∙ (append_assoc head (joined (map text_of (take i places))) (mark (i == 0) ++ text_of place) ∙ ap (λ l. head ++ l) (sym joined_is)))

texts_of : (places : List Place) → map text_of places ≡ map part_text (map at_in places)
texts_of [] = refl
texts_of (p ∷ ps) = ap (λ l. text_of p ∷ l) (texts_of ps)

-- all of them, between the marks
pub places_whole : (places : List Place) (i : ℕ) (text whole : List ℕ) → length places ≤ i → text ≡ codes "{\"partitions\":[" ++ joined (map text_of (take i places)) → whole ≡ text ++ codes "]}"
    → whole ≡ codes "{\"partitions\":" ++ (array (map part_text (map at_in places)) ++ codes "}")
places_whole places i text whole le is added =
    let all : List (List ℕ) = map part_text (map at_in places) in
    let taken : map text_of (take i places) ≡ all = ap (map text_of) (take_all i places le) ∙ texts_of places in
    let regrouped : (codes "{\"partitions\":[" ++ joined all) ++ codes "]}" ≡ codes "{\"partitions\":[" ++ (joined all ++ codes "]}") = append_assoc (codes "{\"partitions\":[") (joined all) (codes "]}") in
    let split : joined all ++ codes "]}" ≡ (joined all ++ codes "]") ++ codes "}" = sym (append_assoc (joined all) (codes "]") (codes "}")) in
    added ∙ (ap (λ l. l ++ codes "]}") (is ∙ ap (λ ts. codes "{\"partitions\":[" ++ joined ts) taken) ∙ (regrouped ∙ ap (λ l. codes "{\"partitions\":[" ++ l) split))
