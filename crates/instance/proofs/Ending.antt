-- From what a walk took to how its look ends.
use Rattle.std.proofs.Common.{◌≡◌, ℕ, ◌*◌, ◌<◌, ◌≤◌, ◌||◌, Bool, true, false, nat_le, nat_lt, List, [], ◌∷◌, map, length, refl, ap, sym, ◌∙◌, inl, inr, arith, Option, Some, None}
use Rattle.std.specs.Prelude.{◌⊎◌, IsSome, is_some}
use Rattle.std.proofs.lemmas.Bool.Decides.{nat_tests}
use Rattle.model.specs.state.Forms.{reason_of}
use Rattle.model.specs.step.Walk.{Lot, Item, Walked, bytes_of, unwalked, walk, turned}
use Rattle.model.specs.state.World.{Consumer}
use Rattle.model.specs.texts.Bodies.{array, item_text}
use Rattle.model.specs.state.Entry.Event.{Looked}
use Rattle.model.specs.state.Entry.Reply.{Shown, Unread}
use Rattle.model.specs.texts.Texts.Response.{Body}
use Rattle.model.specs.step.Look.{IsReady, moved}
use Rattle.broker_link.proofs.CountedLemmas.{counted_done}
use Rattle.model.proofs.Walks.{is_then, is_else}
use Rattle.rest_calls.specs.Responses.{response_in}
use Rattle.rest_codes.specs.declared.response.Reply.{Reply as CodeReply}
use Rattle.rest_replies.specs.Failure.{Says}
use Rattle.rest_replies.specs.Forms.{forms}
use Rattle.instance.specs.Ending.{IsEnded}
use Rattle.instance.specs.Walk.{is_enough, rule_of}

-- how a reply is reached: by its bytes, a stop, a row that doesn't read, or the last look
which : (a b c d : Bool) → (a || (b || (c || d))) ≡ true → (a ≡ true) ⊎ ((b ≡ true) ⊎ ((c ≡ true) ⊎ (d ≡ true)))
which true b c d e = inl refl
which false true c d e = inr (inl refl)
which false false true d e = inr (inr (inl refl))
which false false false d e = inr (inr (inr e))

record NoneOf (a b c d : Bool) : Type 0 where
  bytes : a ≡ false
  stopped : b ≡ false
  unread : c ≡ false
  last : d ≡ false

none_of : (a b c d : Bool) → (a || (b || (c || d))) ≡ false → NoneOf a b c d
none_of true b c d e = absurd (cc e)
none_of false true c d e = absurd (cc e)
none_of false false true d e = absurd (cc e)
none_of false false false d e = record { bytes = refl; stopped = refl; unread = refl; last = e }

some_is : (o : Option Item) → is_some o ≡ true → IsSome o
some_is None e = absurd (cc e)
some_is (Some item) e = refl

none_is : (o : Option Item) → is_some o ≡ false → o ≡ None
none_is None e = refl
none_is (Some item) e = absurd (cc e)

-- the rows are the reply
pub shown : (round wait bound : ℕ) (c c2 : Consumer) (lots : List Lot) (walked : Walked) (count bytes : ℕ) (last : Bool) (text : List ℕ) → walked ≡ walk (rule_of bound c.settings.format) unwalked (turned c.rotation lots)
    → (count ≡ 0 → walked.unread ≡ None) → count ≡ length walked.taken → bytes ≡ bytes_of walked.taken → last ≡ nat_le wait (10 * round)
    → is_enough count bytes walked.stopped (is_some walked.unread) c.settings.min_bytes last ≡ true
    → text ≡ array (map (item_text forms c.settings.format) walked.taken) → c2 ≡ moved walked.taken c
    → IsEnded round wait bound c lots (Looked round ∷ []) (Some (Body (Some c.settings.format) text)) c2
shown round wait bound c c2 lots walked count bytes last text is read counted sized lasts enough text_is left = record {
  reply = Some (Shown c.settings.format walked.taken);
  ends = rw (← is) (inr (inl (record { last = last; lasts = (λ e. grind (arith, nat_tests), λ h. grind (arith, nat_tests)); ready = go walked.taken refl; marks = refl; says = refl; left = ap (λ x. Some x) left })));
  says = λ advertise call. ap (λ l. Some (Body (Some c.settings.format) l)) text_is;
  counted = λ before after kept. counted_done before after (Shown c.settings.format walked.taken) kept refl refl;
  good = tt;
}
  where
    go : (xs : List Item) → walked.taken ≡ xs → IsReady c.settings.min_bytes last walked
    go [] e = inr (e, read (counted ∙ ap length e), grind (arith, nat_tests))
    go (x ∷ xs) e = inl (some, reason (which (nat_le c.settings.min_bytes bytes) walked.stopped (is_some walked.unread) last enough_of))
      where
        some : 0 < length walked.taken
        some = omega (arith, ap length e)

        reason : (nat_le c.settings.min_bytes bytes ≡ true) ⊎ ((walked.stopped ≡ true) ⊎ ((is_some walked.unread ≡ true) ⊎ (last ≡ true)))
            → (c.settings.min_bytes ≤ bytes_of walked.taken) ⊎ ((walked.stopped ≡ true) ⊎ (IsSome walked.unread ⊎ (last ≡ true)))
        reason (inl h) = inl (grind (arith, nat_tests))
        reason (inr (inl h)) = inr (inl h)
        reason (inr (inr (inl h))) = inr (inr (inl (some_is walked.unread h)))
        reason (inr (inr (inr h))) = inr (inr (inr h))

        enough_of : (nat_le c.settings.min_bytes bytes || (walked.stopped || (is_some walked.unread || last))) ≡ true
        enough_of = let lt : nat_lt 0 count ≡ true = grind (arith, nat_tests, some, counted) in sym (is_then (nat_lt 0 count) _ _ lt) ∙ enough

-- too few rows, and another look comes
pub put_off : (round wait bound : ℕ) (c : Consumer) (lots : List Lot) (walked : Walked) (count bytes : ℕ) (last : Bool) → walked ≡ walk (rule_of bound c.settings.format) unwalked (turned c.rotation lots)
    → (count ≡ 0 → walked.unread ≡ None) → count ≡ length walked.taken → bytes ≡ bytes_of walked.taken → last ≡ nat_le wait (10 * round)
    → is_enough count bytes walked.stopped (is_some walked.unread) c.settings.min_bytes last ≡ false
    → IsEnded round wait bound c lots (Looked round ∷ []) None c × (10 * round < wait)
put_off round wait bound c lots walked count bytes last is read counted sized lasts few = go walked.taken refl
  where
    ended : 10 * round < wait → walked.unread ≡ None → (walked.taken ≡ []) ⊎ ((bytes_of walked.taken < c.settings.min_bytes) × (walked.stopped ≡ false)) → IsEnded round wait bound c lots (Looked round ∷ []) None c
    ended soon none less = record {
      reply = None;
      ends = rw (← is) (inr (inr (record { soon = soon; read = none; few = less; marks = refl; says = refl; left = refl })));
      says = λ advertise call. refl;
      counted = λ before after kept. kept;
      good = tt;
    }

    soon_of : last ≡ false → 10 * round < wait
    soon_of e = grind (arith, nat_tests)

    go : (xs : List Item) → walked.taken ≡ xs → IsEnded round wait bound c lots (Looked round ∷ []) None c × (10 * round < wait)
    go [] e = (ended soon (read none) (inl e), soon)
      where
        none : count ≡ 0
        none = counted ∙ ap length e

        not_last : last ≡ false
        not_last = let ge : nat_lt 0 count ≡ false = ap (nat_lt 0) none in sym (is_else (nat_lt 0 count) _ _ ge) ∙ few

        soon : 10 * round < wait
        soon = soon_of not_last
    go (x ∷ xs) e = (ended soon (none_is walked.unread all.unread) (inr (less, all.stopped)), soon)
      where
        some : 0 < length walked.taken
        some = omega (arith, ap length e)

        few_of : (nat_le c.settings.min_bytes bytes || (walked.stopped || (is_some walked.unread || last))) ≡ false
        few_of = let lt : nat_lt 0 count ≡ true = grind (arith, nat_tests, some, counted) in sym (is_then (nat_lt 0 count) _ _ lt) ∙ few

        all : NoneOf (nat_le c.settings.min_bytes bytes) walked.stopped (is_some walked.unread) last
        all = none_of (nat_le c.settings.min_bytes bytes) walked.stopped (is_some walked.unread) last few_of

        soon : 10 * round < wait
        soon = soon_of all.last

        less : bytes_of walked.taken < c.settings.min_bytes
        less = let e2 = all.bytes in grind (arith, nat_tests)

-- no row was taken, and one that doesn't read is named
pub lost : (round wait bound : ℕ) (c : Consumer) (lots : List Lot) (walked : Walked) (item : Item) (r : CodeReply) → walked ≡ walk (rule_of bound c.settings.format) unwalked (turned c.rotation lots)
    → walked.taken ≡ [] → walked.unread ≡ Some item → reason_of forms c.settings.format item.row ≡ Some 2 → Says (Unread item 2) r
    → IsEnded round wait bound c lots [] (Some (response_in r)) c
lost round wait bound c lots walked item r is none met why says = record {
  reply = Some (Unread item 2);
  ends = rw (← is) (inl (record { item = item; taken = none; met = met; marks = refl; number = 2; why = why; says = refl; left = refl }));
  says = λ advertise call. ap (λ x. Some x) (says advertise forms call);
  counted = λ before after kept. counted_done before after (Unread item 2) kept refl refl;
  good = tt;
}
