-- What is left of words, behind the topics that were read.
use Rattle.std.proofs.Common.{◌≡◌, ℕ, ◌+◌, ◌<◌, ◌≤◌, List, [], ◌∷◌, ◌++◌, length, drop, get_or, map, Option, None, Some, option_map, option_and_then, refl, sym, ap, ◌∙◌, append_assoc, append-nil, add-one, drop-cons}
use Rattle.std.proofs.Math.ListN.{drop_of_length-le}
use Rattle.std.specs.Borrow.{Bor}
use Rattle.command_words.specs.Topics.{topic_of, topics_of}

-- what words give: the topics before them, and then their own
abbrev pub behind : List (List ℕ × ℕ) → List (Bor (List ℕ)) → Option (List (List ℕ × ℕ))
behind topics words = option_map (λ more. topics ++ more) (topics_of (map (λ w. w.now) words))

-- a topic and those behind it
abbrev with : Option (List (List ℕ × ℕ)) → List ℕ × ℕ → Option (List (List ℕ × ℕ))
with more topic = option_map (λ more. topic ∷ more) more

all_behind : (found : Option (List (List ℕ × ℕ))) → option_map (λ more. [] ++ more) found ≡ found
all_behind None = refl
all_behind (Some more) = refl

one_more : (topics : List (List ℕ × ℕ)) (topic : List ℕ × ℕ) (found : Option (List (List ℕ × ℕ)))
    → option_map (λ more. (topics ++ topic ∷ []) ++ more) found ≡ option_map (λ more. topics ++ more) (with found topic)
one_more topics topic None = refl
one_more topics topic (Some more) = ap Some (append_assoc topics (topic ∷ []) more)

next_is : (words : List (Bor (List ℕ))) (i : ℕ) (other : Bor (List ℕ)) → i < length words → drop i words ≡ get_or words i other ∷ drop (i + 1) words
next_is words i other inside = drop-cons words i other inside ∙ ap (λ n. get_or words i other ∷ drop n words) (sym (add-one i))

-- behind none stand those of all
pub behind_none : (topics : List (List ℕ × ℕ)) (words : List (Bor (List ℕ))) → topics ≡ [] → behind topics words ≡ topics_of (map (λ w. w.now) words)
behind_none topics words none = ap (λ ts. behind ts words) none ∙ all_behind (topics_of (map (λ w. w.now) words))

-- a word that is no topic
pub behind_refused : (topics : List (List ℕ × ℕ)) (words : List (Bor (List ℕ))) (i : ℕ) (other : Bor (List ℕ))
    → i < length words → None ≡ topic_of (get_or words i other).now → None ≡ behind topics (drop i words)
behind_refused topics words i other inside is =
    ap (λ found. option_map (λ more. topics ++ more) (option_and_then (with (topics_of (map (λ w. w.now) (drop (i + 1) words)))) found)) is
    ∙ sym (ap (behind topics) (next_is words i other inside))

-- a word that is one
pub behind_more : (topics pushed : List (List ℕ × ℕ)) (topic : List ℕ × ℕ) (words : List (Bor (List ℕ))) (i : ℕ) (other : Bor (List ℕ))
    → i < length words → Some topic ≡ topic_of (get_or words i other).now → pushed ≡ topics ++ topic ∷ []
    → behind pushed (drop (i + 1) words) ≡ behind topics (drop i words)
behind_more topics pushed topic words i other inside is pushed_is =
    let rest = topics_of (map (λ w. w.now) (drop (i + 1) words)) in
    ap (λ ts. behind ts (drop (i + 1) words)) pushed_is
    ∙ one_more topics topic rest
    ∙ ap (λ found. option_map (λ more. topics ++ more) (option_and_then (with rest) found)) is
    ∙ sym (ap (behind topics) (next_is words i other inside))

-- no word is left
pub behind_all : (topics : List (List ℕ × ℕ)) (words : List (Bor (List ℕ))) (i : ℕ) → length words ≤ i → Some topics ≡ behind topics (drop i words)
behind_all topics words i past = ap Some (sym (append-nil topics)) ∙ sym (ap (behind topics) (drop_of_length-le words past))
