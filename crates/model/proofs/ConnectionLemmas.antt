-- A connection's entries go on shard by shard, and connections follow one another.
use Rattle.std.proofs.Common.{◌≡◌, ℕ, ◌==◌, ◌∙◌, Bool, true, false, cond, List, [], ◌∷◌, ◌++◌, refl, ap, sym, subst, append_assoc, Option, Some, None}
use Rattle.std.proofs.lemmas.List.{append-nil}
use Rattle.model.specs.state.Entry.{Call}
use Rattle.model.specs.texts.Texts.{Response}
use Rattle.model.specs.history.Noted.{Noted}
use Rattle.model.specs.history.Handled.{Handled, Answers, AnswersEach, AnswersOrWears, IsHousekeeping, Looking}
use Rattle.model.specs.history.Handled.Handled.{Entered, Stayed}
use Rattle.model.specs.history.Connections.{Entries, only_in, at_shard, worn_at, IsConnection, AreParts}
use Rattle.model.proofs.Answering.{answers_more}

cond_more : (b : Bool) (h : Handled) (xs ys more : List Handled) → ys ≡ xs ++ more → cond b (h ∷ ys) ys ≡ cond b (h ∷ xs) xs ++ more
cond_more true h xs ys more e = ap (λ l. h ∷ l) e
cond_more false h xs ys more e = e

-- one request more is the shard's exactly where its call went there
entered_more : (shard : Call → ℕ) (s : ℕ) (handled : List Handled) (call : Call) (said : Response)
    → at_shard shard s (handled ++ Entered call said ∷ []) ≡ at_shard shard s handled ++ cond (shard call == s) (Entered call said ∷ []) []
entered_more shard s [] call said = refl
entered_more shard s (Entered c r ∷ rest) call said =
    cond_more (shard c == s) (Entered c r) (at_shard shard s rest) (at_shard shard s (rest ++ Entered call said ∷ [])) _ (entered_more shard s rest call said)
entered_more shard s (Stayed r ∷ rest) call said = entered_more shard s rest call said

stayed_more : (shard : Call → ℕ) (s : ℕ) (handled : List Handled) (said : Response) → at_shard shard s (handled ++ Stayed said ∷ []) ≡ at_shard shard s handled
stayed_more shard s [] said = refl
stayed_more shard s (Entered c r ∷ rest) said = ap (λ l. cond (shard c == s) (Entered c r ∷ l) l) (stayed_more shard s rest said)
stayed_more shard s (Stayed r ∷ rest) said = stayed_more shard s rest said

pub connection_more : (shard : Call → ℕ) (handled : List Handled) (own : Entries) (call : Call) (said : Response) (more : List Noted)
    → IsConnection shard handled None own → Answers call said more → IsConnection shard (handled ++ Entered call said ∷ []) None (λ s. own s ++ only_in (shard call) more s)
connection_more shard handled own call said more is answers s =
    subst (λ (h : List Handled). AnswersEach h (own s ++ only_in (shard call) more s)) (sym (entered_more shard s handled call said)) (go (shard call == s))
  where
    go : (b : Bool) → AnswersEach (at_shard shard s handled ++ cond b (Entered call said ∷ []) []) (own s ++ cond b more [])
    go true = answers_more (at_shard shard s handled) (own s) call said more (is s) answers
    go false =
        subst (λ (h : List Handled). AnswersEach h (own s ++ [])) (sym (append-nil (at_shard shard s handled)))
        (subst (AnswersEach (at_shard shard s handled)) (sym (append-nil (own s))) (is s))

pub connection_stays : (shard : Call → ℕ) (handled : List Handled) (own : Entries) (said : Response)
    → IsConnection shard handled None own → IsConnection shard (handled ++ Stayed said ∷ []) None own
connection_stays shard handled own said is s = subst (λ (h : List Handled). AnswersEach h (own s)) (sym (stayed_more shard s handled said)) (is s)

pub connection_wears : (shard : Call → ℕ) (handled : List Handled) (own : Entries) (call : Call) (looks : List Noted) (round : ℕ)
    → IsConnection shard handled None own → Looking call 0 looks round → IsConnection shard handled (Some call) (λ s. own s ++ only_in (shard call) looks s)
connection_wears shard handled own call looks round is looking s = go (shard call == s)
  where
    go : (b : Bool) → AnswersOrWears (at_shard shard s handled) (cond b (Some call) None) (own s ++ cond b looks [])
    go true = (own s, looks, round, refl, is s, looking)
    go false = subst (AnswersEach (at_shard shard s handled)) (sym (append-nil (own s))) (is s)

-- one connection more, whatever is said of each
pub parts_more : {C : Type 0} (part : C → Entries → Type 0) (connections : List C) (entries own house : Entries) (connection : C)
    → AreParts part connections entries → part connection own → ((s : ℕ) → IsHousekeeping (house s)) → AreParts part (connections ++ connection ∷ []) (λ s. entries s ++ own s ++ house s)
parts_more part [] entries own house connection none is houses =
    (own, house, λ s. [], λ s. ap (λ l. l ++ own s ++ house s) (none s) ∙ sym (append-nil (own s ++ house s)), is, houses, λ s. refl)
parts_more part (first ∷ rest) entries own house connection are is houses = (
  are.0,
  are.1,
  λ s. are.2 s ++ own s ++ house s,
  λ s. ap (λ l. l ++ own s ++ house s) (are.3 s) ∙ (ap (λ l. l ++ house s) (append_assoc (are.0 s ++ are.1 s) (are.2 s) (own s)) ∙ append_assoc (are.0 s ++ are.1 s) (are.2 s ++ own s) (house s)),
  are.4,
  are.5,
  parts_more part rest are.2 own house connection are.6 is houses,
)
