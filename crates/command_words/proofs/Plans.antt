-- From the words of a session to topics that a link can be made with.
use Rattle.std.proofs.Common.{◌≡◌, ℕ, ◌<◌, ◌≤◌, ◌^◌, Bool, true, false, ◌||◌, ◌&&◌, not, cond, List, [], ◌∷◌, length, Option, None, Some, option_map, option_and_then, nat_le, nat_lt, codes, refl, sym, subst, arith}
use Rattle.std.specs.List.{list_any}
use Rattle.std.specs.Prelude.{All, AllPairs, ◌≢◌}
use Rattle.std.specs.Str.{bytes_eq}
use Rattle.std.specs.Str.Parse.{digits_value}
use Rattle.std.proofs.lemmas.Bool.Decides.{nat_tests}
use Rattle.std.proofs.lemmas.List.Elements.{All-nil, All-cons}
use Rattle.std.proofs.lemmas.List.Kept.{AllPairs-cons}
use Rattle.std.proofs.lemmas.Slice.Eq.{bytes_eq-Decides}
use Rattle.broker_link.specs.Made.{ArePlans}
use Rattle.command_words.specs.declared.words.Command.{Command}
use Rattle.clap.specs.Words.{Row, all_of}
use Rattle.command_words.specs.Apps.{rows_in, session_app}
use Rattle.command_words.specs.Topics.{count_in, topic_of, topics_of, topics_in, has_name, are_apart}
use Rattle.command_words.specs.Words.{advertised_in, is_dash, session_with, session_in, session_of, words_of, plans_of}

-- what a choice gave
chosen : {X : Type 0} (test : Bool) (o : Option X) (x : X) → cond test o None ≡ Some x → (test ≡ true) × (o ≡ Some x)
chosen true o x is = (refl, is)
chosen false o x is = cc

mapped : {X Y : Type 0} (f : X → Y) (o : Option X) (y : Y) → option_map f o ≡ Some y → (x : X) × (o ≡ Some x) × (f x ≡ y)
mapped f None y is = cc
mapped f (Some x) y is = (x, refl, cc)

followed : {X Y : Type 0} (f : X → Option Y) (o : Option X) (y : Y) → option_and_then f o ≡ Some y → (x : X) × (o ≡ Some x) × (f x ≡ Some y)
followed f None y is = cc
followed f (Some x) y is = (x, refl, is)

both : (a b : Bool) → (a && b) ≡ true → (a ≡ true) × (b ≡ true)
both true b is = (refl, is)
both false b is = cc

neither : (a b : Bool) → (a || b) ≡ false → (a ≡ false) × (b ≡ false)
neither true b is = cc
neither false b is = (refl, is)

negated : (a : Bool) → not a ≡ true → a ≡ false
negated true is = cc
negated false is = refl

small : (n : ℕ) → nat_le n 64 ≡ true → n < 2 ^ 31
small n is = let below : n ≤ 64 = grind (arith, nat_tests) in omega arith

count_is_small : (ds : List ℕ) (n : ℕ) → count_in ds ≡ Some n → n < 2 ^ 31
unfolding count_in
count_is_small ds n is =
    let c = chosen _ (Some (digits_value 10 ds)) n is in
    let value : digits_value 10 ds ≡ n = let e = c.1 in cc in
    subst (λ (m : ℕ). m < 2 ^ 31) value (small (digits_value 10 ds) (both _ (nat_le (digits_value 10 ds) 64) c.0).1)

topic_is_small : (word : List ℕ) (topic : List ℕ × ℕ) → topic_of word ≡ Some topic → topic.1 < 2 ^ 31
unfolding topic_of
topic_is_small word topic is =
    let m = mapped _ _ topic (chosen _ _ topic is).1 in
    subst (λ (t : List ℕ × ℕ). t.1 < 2 ^ 31) m.2 (count_is_small _ m.0 m.1)

topics_are_small : (words : List (List ℕ)) (topics : List (List ℕ × ℕ)) → topics_of words ≡ Some topics → All (λ p. p.1 < 2 ^ 31) topics
topics_are_small [] topics is =
    let none : [] ≡ topics = cc in
    subst (λ (ts : List (List ℕ × ℕ)). All (λ p. p.1 < 2 ^ 31) ts) none (All-nil (λ (p : List ℕ × ℕ). p.1 < 2 ^ 31))
topics_are_small (w ∷ ws) topics is =
    let t = followed _ (topic_of w) topics is in
    let more = mapped _ (topics_of ws) topics t.2 in
    subst (λ (ts : List (List ℕ × ℕ)). All (λ p. p.1 < 2 ^ 31) ts) more.2
    (All-cons (λ (p : List ℕ × ℕ). p.1 < 2 ^ 31) t.0 more.0 (topic_is_small w t.0 t.1) (topics_are_small ws more.0 more.1))

others_differ : (name : List ℕ) (topics : List (List ℕ × ℕ)) → has_name name topics ≡ false → All (λ q. name ≢ q.0) topics
others_differ name [] not_there = All-nil (λ (q : List ℕ × ℕ). name ≢ q.0)
others_differ name (t ∷ ts) not_there =
    let n = neither (bytes_eq t.0 name) (has_name name ts) not_there in
    All-cons (λ (q : List ℕ × ℕ). name ≢ q.0) t ts
    (λ same. let is : bytes_eq t.0 name ≡ true = (bytes_eq-Decides t.0 name).1 (sym same) in let isnt = n.0 in cc)
    (others_differ name ts n.1)

names_differ : (topics : List (List ℕ × ℕ)) → are_apart topics ≡ true → AllPairs (λ p q. p.0 ≢ q.0) topics
names_differ [] apart = λ i j d below within. absurd (omega (arith, within))
names_differ (t ∷ ts) apart =
    let b = both (not (has_name t.0 ts)) (are_apart ts) apart in
    AllPairs-cons (λ (p q : List ℕ × ℕ). p.0 ≢ q.0) t ts (others_differ t.0 ts (negated (has_name t.0 ts) b.0)) (names_differ ts b.1)

unchosen : {X : Type 0} (test : Bool) (o : Option X) (x : X) → cond test None o ≡ Some x → o ≡ Some x
unchosen true o x is = cc
unchosen false o x is = is

topics_are_plans : (words : List (List ℕ)) (topics : List (List ℕ × ℕ)) → topics_in words ≡ Some topics → ArePlans topics
unfolding topics_in
topics_are_plans words topics is =
    let f = followed (λ (ts : List (List ℕ × ℕ)). cond (are_apart ts) (Some ts) None) (topics_of words) topics (chosen (nat_le 1 (length words) && nat_le (length words) 16) _ topics is).1 in
    let c = chosen (are_apart f.0) (Some f.0) topics f.2 in
    let same : f.0 ≡ topics = let e = c.1 in cc in
    let plans : ArePlans f.0 = record { apart = names_differ f.0 c.0; few = topics_are_small words f.0 f.1 } in
    subst ArePlans same plans

session_plans : (rows : List Row) (command : Command) → session_in rows ≡ Some command → ArePlans (plans_of command)
unfolding session_in
session_plans rows command is =
    let m = mapped (session_with (advertised_in rows)) (option_and_then topics_in (all_of (codes "topics") rows)) command (chosen (nat_lt 0 (length (advertised_in rows))) _ command is).1 in
    let f = followed topics_in (all_of (codes "topics") rows) m.0 m.1 in
    subst (λ (command : Command). ArePlans (plans_of command)) m.2 (topics_are_plans f.0 m.0 f.2)

command_plans : (words : List (List ℕ)) (command : Command) → session_of words ≡ Some command → ArePlans (plans_of command)
unfolding session_of
command_plans words command is =
    let f = followed session_in (rows_in session_app words) command (unchosen (list_any is_dash words) _ command is) in
    session_plans f.0 command f.2

pub plans_of_words : (words : List (List ℕ)) (command : Command) → words_of words ≡ Some command → ArePlans (plans_of command)
unfolding words_of
plans_of_words [] command is = cc
plans_of_words (c ∷ ws) command is = command_plans ws command (chosen _ (session_of ws) command is).1
