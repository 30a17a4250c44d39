-- One request more is handled.
use Rattle.std.proofs.Common.{ℕ, ◌≡◌, ◌+◌, ◌≤◌, ◌==◌, zero, suc, Bool, true, false, List, [], ◌∷◌, ◌++◌, map, length, is_some, refl, ap, sym, ◌∙◌, append_assoc, arith, length-append, Option, Some, None}
use Rattle.std.proofs.lemmas.List.{append-nil, map-append}
use Rattle.std.proofs.lemmas.List.Elements.{filter-append}
use Rattle.model.specs.state.Entry.{Call}
use Rattle.model.specs.step.Asked.{numbers}
use Rattle.model.specs.texts.Texts.{Response}
use Rattle.model.specs.history.Noted.{Noted}
use Rattle.model.specs.history.Handled.{Handled, Answers, AnswersEach, AnswersOrWears, AreAnsweredOnce, HasSeen, IsHousekeeping, Looking, answered_in, answers_in, calls_in, noted_by}
use Rattle.model.specs.history.Handled.Handled.{Entered, Stayed}

pub answers_more : (handled : List Handled) (entries : List Noted) (call : Call) (said : Response) (own : List Noted)
    → AnswersEach handled entries → Answers call said own → AnswersEach (handled ++ Entered call said ∷ []) (entries ++ own)
answers_more [] entries call said own h k = (own, [], ap (λ w. w ++ own) h ∙ sym (append-nil own), k, refl)
answers_more (Entered c s ∷ handled) entries call said own h k =
    (h.0, h.1 ++ own, ap (λ w. w ++ own) h.2 ∙ append_assoc h.0 h.1 own, h.3, answers_more handled h.1 call said own h.4 k)
answers_more (Stayed s ∷ handled) entries call said own h k = answers_more handled entries call said own h k

pub stays_out : (handled : List Handled) (entries : List Noted) (said : Response) → AnswersEach handled entries → AnswersEach (handled ++ Stayed said ∷ []) entries
stays_out [] entries said h = h
stays_out (Entered c s ∷ handled) entries said h = (h.0, h.1, h.2, h.3, stays_out handled h.1 said h.4)
stays_out (Stayed s ∷ handled) entries said h = stays_out handled entries said h

-- looks are of a round and the rounds after it
looked_rounds : (call : Call) (first : ℕ) (looks : List Noted) (next : ℕ) → Looking call first looks next
    → (map (λ (e : Noted). e.round) looks ≡ map Some (numbers first (length looks))) × (next ≡ first + length looks)
looked_rounds call first [] next is = (refl, is ∙ omega arith)
looked_rounds call first (e ∷ looks) next (asked, round, none, ends, more) =
    let rest = looked_rounds call (first + 1) looks next more in
    (ap (λ rs. e.round ∷ rs) rest.0 ∙ ap (λ r. r ∷ map Some (numbers (first + 1) (length looks))) round, rest.1 ∙ omega arith)

numbers_more : (first n : ℕ) → map Some (numbers first n) ++ Some (first + n) ∷ [] ≡ map Some (numbers first (suc n))
numbers_more first zero = ap (λ r. Some r ∷ []) (omega arith)
numbers_more first (suc n) = ap (λ rs. Some first ∷ rs) (ap (λ r. map Some (numbers (first + 1) n) ++ Some r ∷ []) (omega arith) ∙ numbers_more (first + 1) n)

pub rounds_count : (call : Call) (said : Response) (own : List Noted) → Answers call said own → map (λ (e : Noted). e.round) own ≡ map Some (numbers 0 (length own))
rounds_count call said own answers =
    let before = looked_rounds call 0 answers.looks answers.round answers.looking in
    let n : ℕ = length answers.looks in
    let last : (let e = answers.last in e.round) ≡ Some (0 + n) = answers.round_is ∙ ap Some before.1 in
    let count : suc n ≡ length own = omega (arith, ap length answers.whole, length-append answers.looks (answers.last ∷ [])) in
    ap (map (λ (e : Noted). e.round)) answers.whole
    ∙ (map-append (λ (e : Noted). e.round) answers.looks (answers.last ∷ [])
    ∙ (ap (λ rs. rs ++ (let e = answers.last in e.round) ∷ []) before.0
    ∙ (ap (λ r. map Some (numbers 0 n) ++ r ∷ []) last
    ∙ (numbers_more 0 n
    ∙ ap (λ k. map Some (numbers 0 k)) count))))

-- looks have no reply
looks_unanswered : (call : Call) (round : ℕ) (looks : List Noted) (next : ℕ) → Looking call round looks next → answered_in looks ≡ []
looks_unanswered call round [] next is = refl
looks_unanswered call round (e ∷ looks) next (asked, number, none, ends, more) =
    let no : is_some e.reply ≡ false = ap is_some none in
    rw no (looks_unanswered call (round + 1) looks next more)

-- the entries of one call have its one reply
one_answered : (call : Call) (said : Response) (own : List Noted) (answers : Answers call said own) → answered_in own ≡ answers.last ∷ []
one_answered call said own answers =
    let some : is_some (let e = answers.last in e.reply) ≡ true = ap is_some answers.reply_is in
    ap answered_in answers.whole
    ∙ (filter-append (λ (e : Noted). is_some e.reply) answers.looks (answers.last ∷ [])
    ∙ (ap (λ es. es ++ answered_in (answers.last ∷ [])) (looks_unanswered call 0 answers.looks answers.round answers.looking)
    ∙ here some))
  where
    here : is_some (let e = answers.last in e.reply) ≡ true → answered_in (answers.last ∷ []) ≡ answers.last ∷ []
    here some = rw some refl

each_once : (handled : List Handled) (entries : List Noted) → AnswersEach handled entries → AreAnsweredOnce handled entries
each_once [] entries h = (ap (λ es. map (λ (e : Noted). e.call) (answered_in es)) h, ap (λ es. map (λ (e : Noted). e.reply) (answered_in es)) h)
each_once (Entered c s ∷ handled) entries h =
    let rest = each_once handled h.1 h.4 in
    let answers = h.3 in
    let all : answered_in entries ≡ answers.last ∷ answered_in h.1 =
    ap answered_in h.2 ∙ (filter-append (λ (e : Noted). is_some e.reply) h.0 h.1 ∙ ap (λ es. es ++ answered_in h.1) (one_answered c s h.0 answers)) in (
      ap (map (λ (e : Noted). e.call)) all ∙ (ap (λ x. x ∷ map (λ (e : Noted). e.call) (answered_in h.1)) answers.call_is ∙ ap (λ xs. Some c ∷ xs) rest.0),
      ap (map (λ (e : Noted). e.reply)) all ∙ (ap (λ x. x ∷ map (λ (e : Noted). e.reply) (answered_in h.1)) answers.reply_is ∙ ap (λ xs. Some s ∷ xs) rest.1),
    )
each_once (Stayed s ∷ handled) entries h = each_once handled entries h

pub entered_once : (handled : List Handled) (worn : Option Call) (entries : List Noted) → AnswersOrWears handled worn entries → AreAnsweredOnce handled entries
entered_once handled None entries h = each_once handled entries h
entered_once handled (Some call) entries h =
    let once = each_once handled h.0 h.4 in
    let all : answered_in entries ≡ answered_in h.0 =
    ap answered_in h.3 ∙ (filter-append (λ (e : Noted). is_some e.reply) h.0 h.1 ∙ (ap (λ es. answered_in h.0 ++ es) (looks_unanswered call 0 h.1 h.2 h.5) ∙ append-nil (answered_in h.0))) in
    (ap (map (λ (e : Noted). e.call)) all ∙ once.0, ap (map (λ (e : Noted). e.reply)) all ∙ once.1)

pub houses_are_few : (entries : List Noted) → IsHousekeeping entries → length entries ≤ 1
houses_are_few [] h = omega arith
houses_are_few (e ∷ []) h = omega arith
houses_are_few (e ∷ f ∷ entries) h = absurd h

pub seen_are_own : (caller : ℕ) (history seen : List Noted) → HasSeen caller history seen → noted_by caller history ≡ noted_by caller seen
seen_are_own caller history seen h =
    ap (noted_by caller) h.whole ∙ (filter-append (λ (e : Noted). e.caller == caller) seen h.rest ∙ (ap (λ es. noted_by caller seen ++ es) h.own ∙ append-nil (noted_by caller seen)))
