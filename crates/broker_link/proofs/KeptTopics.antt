-- A log that was kept has the same topics.
use Rattle.std.proofs.Common.{◌≡◌, ℕ, Bool, true, false, List, [], ◌∷◌, length, map, refl, ap, sym, ◌∙◌, None}
use Rattle.std.specs.Prelude.{bytes_eq}
use Rattle.std.specs.List.{list_any}
use Rattle.model.specs.state.Log.{Topic, Log, Keeps, shape_of}
use Rattle.model.specs.step.Step.{HasTopic}

-- the same names are among the topics
pub named_as : (a b : List Topic) (name : List ℕ) → shape_of (record { topics = b; committed = λ g at. None; others = 0 }) ≡ shape_of (record { topics = a; committed = λ g at. None; others = 0 })
    → list_any (λ t. bytes_eq t.name name) b ≡ list_any (λ t. bytes_eq t.name name) a
named_as [] [] name e = refl
named_as [] (y ∷ ys) name e = absurd (cc e)
named_as (x ∷ xs) [] name e = absurd (cc e)
named_as (x ∷ xs) (y ∷ ys) name e =
    let f : Topic → List ℕ × ℕ = λ t. (t.name, length t.parts) in
    let pair : f y ≡ f x = cc e in
    let names : y.name ≡ x.name = ap (λ (p : List ℕ × ℕ). p.0) pair in
    let rest : map f ys ≡ map f xs = cc e in
    let ih : list_any (λ (t : Topic). bytes_eq t.name name) ys ≡ list_any (λ (t : Topic). bytes_eq t.name name) xs = named_as xs ys name rest in
    go (bytes_eq x.name name) refl (ap (λ n. bytes_eq n name) names) ih
  where
    go : (b : Bool) → bytes_eq x.name name ≡ b → bytes_eq y.name name ≡ bytes_eq x.name name
        → list_any (λ (t : Topic). bytes_eq t.name name) ys ≡ list_any (λ (t : Topic). bytes_eq t.name name) xs
        → list_any (λ (t : Topic). bytes_eq t.name name) (y ∷ ys) ≡ list_any (λ (t : Topic). bytes_eq t.name name) (x ∷ xs)
    go true e f ih = let g : bytes_eq y.name name ≡ true = f ∙ e in rw (e, g) refl
    go false e f ih = let g : bytes_eq y.name name ≡ false = f ∙ e in rw (e, g) ih

pub had_topic : (a m : Log) (name : List ℕ) → Keeps a m → HasTopic m name → HasTopic a name
had_topic a m name keeps has = sym (named_as a.topics m.topics name keeps.shape) ∙ has

pub has_still : (a m : Log) (name : List ℕ) → Keeps a m → HasTopic a name → HasTopic m name
has_still a m name keeps had = named_as a.topics m.topics name keeps.shape ∙ had
