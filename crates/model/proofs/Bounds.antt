-- What a walk takes is bounded and reads, and so is what a reply shows.
use Rattle.std.proofs.Common.{◌≡◌, ℕ, ◌+◌, ◌<◌, ◌≤◌, ◌||◌, Bool, true, false, List, [], ◌∷◌, ◌++◌, length, refl, sym, subst, inl, inr, arith, Option, Some, None, nat_lt, nat_le, length-append}
use Rattle.std.specs.Prelude.{◌⊎◌, is_none}
use Rattle.std.specs.List.{All}
use Rattle.std.proofs.lemmas.Bool.Decides.{nat_tests}
use Rattle.std.proofs.lemmas.List.Elements.{All-nil, All-cons, All-append, All-weaker}
use Rattle.std.proofs.lemmas.List.Sums.{sum_by_push}
use Rattle.model.specs.state.Log.{TopicPart, Row, Log}
use Rattle.model.specs.step.Walk.{Item, Lot, Rule, Walked, unwalked, walk, walk_part, turned, is_full, with_row, size_of, bytes_of}
use Rattle.model.specs.state.World.{Key, Format, Consumer, World}
use Rattle.model.specs.state.Forms.{Forms, reason_of}
use Rattle.model.specs.state.Entry.{Event, Turn, Entry, IsLinks}
use Rattle.model.specs.state.Entry.Act.{Records}
use Rattle.model.specs.state.Entry.Call.{Of}
use Rattle.model.specs.state.Entry.Reply.{Refused, Shown, Want}
use Rattle.model.specs.step.Look.{at_most, reads_in, after_events, Looks, LookEnds, IsLook, IsWalked, IsCut_off, Sends}
use Rattle.model.specs.step.Step.{Acts, Does, Whole, Starved, Step, left}
use Rattle.model.specs.step.Bounds.{IsBounded}
use Rattle.model.proofs.Walks.{walk-stopped, walk-on}

-- what a walk has taken is bounded, and reads
record IsFit (rule : Rule) (walked : Walked) : Type 0 where
  pub bounded : IsBounded rule.bound walked.taken
  pub read : All (λ (item : Item). rule.reads item.row ≡ true) walked.taken

row_fits : (rule : Rule) (at : TopicPart) (row : Row) (walked : Walked) → IsFit rule walked → is_full rule walked.taken row ≡ false → rule.reads row ≡ true → IsFit rule (with_row at row walked)
row_fits rule at row walked fit room reads = record {
  bounded = record { rows = rows; bytes = bytes };
  read = All-append (λ (item : Item). rule.reads item.row ≡ true) walked.taken (x ∷ []) fit.read (All-cons (λ (item : Item). rule.reads item.row ≡ true) x [] reads (All-nil (λ (item : Item). rule.reads item.row ≡ true)));
}
  where
    x : Item
    x = record { at = at; row = row }

    n : ℕ
    n = length walked.taken

    more : length (walked.taken ++ x ∷ []) ≡ n + 1
    more = length-append walked.taken (x ∷ [])

    sum : bytes_of (walked.taken ++ x ∷ []) ≡ bytes_of walked.taken + size_of row
    sum = sum_by_push (λ (item : Item). size_of item.row) walked.taken x

    few : (b : Bool) → nat_lt 0 n ≡ b → n < 10000
    few true is = let free : (nat_le 10000 n || nat_lt rule.bound (bytes_of walked.taken + size_of row)) ≡ false = rw is at room in grind (arith, nat_tests)
    few false is = grind (arith, nat_tests)

    rows : length (walked.taken ++ x ∷ []) ≤ 10000
    rows = omega (arith, more, few (nat_lt 0 n) refl)

    either : (b : Bool) → nat_lt 0 n ≡ b → (bytes_of walked.taken + size_of row ≤ rule.bound) ⊎ (n + 1 ≤ 1)
    either true is =
        let free : (nat_le 10000 n || nat_lt rule.bound (bytes_of walked.taken + size_of row)) ≡ false = rw is at room in
        let within : bytes_of walked.taken + size_of row ≤ rule.bound = grind (arith, nat_tests) in
        inl within
    either false is = let none : n + 1 ≤ 1 = grind (arith, nat_tests) in inr none

    bytes : (bytes_of (walked.taken ++ x ∷ []) ≤ rule.bound) ⊎ (length (walked.taken ++ x ∷ []) ≤ 1)
    bytes = go (either (nat_lt 0 n) refl)
      where
        go : (bytes_of walked.taken + size_of row ≤ rule.bound) ⊎ (n + 1 ≤ 1) → (bytes_of (walked.taken ++ x ∷ []) ≤ rule.bound) ⊎ (length (walked.taken ++ x ∷ []) ≤ 1)
        go (inl h) = inl (omega (arith, sum, h))
        go (inr h) = inr (omega (arith, more, h))

part_fits : (rule : Rule) (at : TopicPart) (walked : Walked) (rows : List Row) → IsFit rule walked → IsFit rule (walk_part rule at walked rows)
part_fits rule at walked [] fit = fit
part_fits rule at walked (row ∷ rows) fit = go (is_full rule walked.taken row) refl (rule.reads row) refl (λ more. part_fits rule at (with_row at row walked) rows more)
  where
    go : (b : Bool) → is_full rule walked.taken row ≡ b → (d : Bool) → rule.reads row ≡ d
        → (IsFit rule (with_row at row walked) → IsFit rule (walk_part rule at (with_row at row walked) rows)) → IsFit rule (walk_part rule at walked (row ∷ rows))
    go true f d g rest = rw f (record { bounded = fit.bounded; read = fit.read })
    go false f true g rest = rw (f, g) (rest (row_fits rule at row walked fit f g))
    go false f false g rest = rw (f, g) (record { bounded = fit.bounded; read = fit.read })

walk_fits : (rule : Rule) (walked : Walked) (lots : List Lot) → IsFit rule walked → IsFit rule (walk rule walked lots)
walk_fits rule walked [] fit = fit
walk_fits rule walked (lot ∷ lots) fit = go walked.stopped refl (walk_fits rule (walk_part rule lot.place.at walked lot.rows) lots (part_fits rule lot.place.at walked lot.rows fit))
  where
    go : (b : Bool) → walked.stopped ≡ b → IsFit rule (walk rule (walk_part rule lot.place.at walked lot.rows) lots) → IsFit rule (walk rule walked (lot ∷ lots))
    go true f rest = subst (IsFit rule) (sym (walk-stopped rule walked lot lots f)) fit
    go false f rest = subst (IsFit rule) (sym (walk-on rule walked lot lots f)) rest

unwalked_fits : (rule : Rule) → IsFit rule unwalked
unwalked_fits rule = record { bounded = record { rows = omega arith; bytes = inr (omega arith) }; read = All-nil (λ (item : Item). rule.reads item.row ≡ true) }

-- what is shown is bounded, and reads in its format
abbrev Shows : Forms → ℕ → Format → List Item → Type 0
Shows forms bound format items = IsBounded bound items × All (λ (item : Item). reason_of forms format item.row ≡ None) items

none_of : (o : Option ℕ) → is_none o ≡ true → o ≡ None
none_of None h = refl
none_of (Some n) h = absurd (cc h)

walked_shows : (moment : ℕ) (turn : Turn) (wait bound : ℕ) (a b : Log) (c : Consumer) (looked : List Event) (c2 : Option Consumer) (format : Format) (items : List Item)
    → IsWalked moment turn wait bound a b c looked (Some (Shown format items)) c2 → Shows turn.forms bound format items
walked_shows moment turn wait bound a b c looked c2 format items w = go w.ends
  where
    rule : Rule
    rule = record { bound = bound; reads = reads_in (reason_of turn.forms) c.settings.format }

    fit : IsFit rule w.walked
    fit = subst (IsFit rule) (sym w.walk) (walk_fits rule unwalked (turned c.rotation w.lots) (unwalked_fits rule))

    go : LookEnds moment turn wait c w.walked looked (Some (Shown format items)) c2 → Shows turn.forms bound format items
    go (inl x) = absurd (cc x.says)
    go (inr (inl x)) =
        let format_is : format ≡ c.settings.format = cc x.says in
        let items_are : items ≡ w.walked.taken = cc x.says in
        let k = w.walked in
        let read : All (λ (item : Item). reason_of turn.forms c.settings.format item.row ≡ None) k.taken =
        All-weaker (λ (item : Item). rule.reads item.row ≡ true) (λ (item : Item). reason_of turn.forms c.settings.format item.row ≡ None) (λ item h. none_of (reason_of turn.forms c.settings.format item.row) h) k.taken fit.read in
        subst (λ is. Shows turn.forms bound format is) (sym items_are) (subst (λ f. Shows turn.forms bound f k.taken) (sym format_is) (fit.bounded, read))
    go (inr (inr x)) = absurd (cc x.says)

looks_show : (key : Key) (moment : ℕ) (turn : Turn) (formats : List Format) (timeout bound : Option ℕ) (c : Consumer) (a : Log) (events : List Event) (b : Log) (c2 : Option Consumer) (format : Format) (items : List Item)
    → Looks key moment turn formats timeout bound c a events (Some (Shown format items)) b c2 → Shows turn.forms (at_most 4194304 bound) format items
looks_show key moment turn formats timeout bound c a events b c2 format items (inl r) = absurd (refused r.3)
  where
    refused : (Some (Shown format items) ≡ Some (Refused 40601)) ⊎ (Some (Shown format items) ≡ Some Want) → ⊥
    refused (inl e) = absurd (cc e)
    refused (inr e) = absurd (cc e)
looks_show key moment turn formats timeout bound c a events b c2 format items (inr r) = go look.ends
  where
    look : IsLook key moment turn timeout bound c a events (Some (Shown format items)) b c2
    look = r.1

    go : IsCut_off moment (Sends c) (after_events events c) look.looked (Some (Shown format items)) c2
        ⊎ IsWalked moment turn (at_most c.settings.timeout_ms timeout) (at_most 4194304 bound) a b (after_events events c) look.looked (Some (Shown format items)) c2
        → Shows turn.forms (at_most 4194304 bound) format items
    go (inl cut) = let why : cut.why ≡ Shown format items = cc cut.says in absurd (subst IsLinks why cut.links)
    go (inr w) = walked_shows moment turn (at_most c.settings.timeout_ms timeout) (at_most 4194304 bound) a b (after_events events c) look.looked c2 format items w

found_shows : (key : Key) (moment : ℕ) (turn : Turn) (formats : List Format) (timeout bound : Option ℕ) (o : Option Consumer) (a : Log) (events : List Event) (b : Log) (c2 : Option Consumer) (format : Format) (items : List Item)
    → Acts key moment turn (Records formats timeout bound) o a events (Some (Shown format items)) b c2 → Shows turn.forms (at_most 4194304 bound) format items
found_shows key moment turn formats timeout bound None a events b c2 format items (none, same, inl r) = absurd (cc r.says)
found_shows key moment turn formats timeout bound None a events b c2 format items (none, same, inr r) = absurd (cc r.says)
found_shows key moment turn formats timeout bound (Some c) a events b c2 format items looks = looks_show key moment turn formats timeout bound c a events b c2 format items looks

pub replies_bounded : (idle : ℕ) (w : World) (a : Log) (e : Entry) (b : Log) (w2 : World) (key : Key) (formats : List Format) (timeout bound : Option ℕ) (format : Format) (items : List Item)
    → Step idle w a e b w2 → e.call ≡ Some (Of key (Records formats timeout bound)) → e.reply ≡ Some (Shown format items)
    → IsBounded (at_most 4194304 bound) items × All (λ (item : Item). reason_of (let t = e.turn in t.forms) format item.row ≡ None) items
replies_bounded idle w a e b w2 key formats timeout bound format items step call reply = go step.does
  where
    go : Whole idle w a e b w2 ⊎ Starved w a e b w2 → Shows (let t = e.turn in t.forms) (at_most 4194304 bound) format items
    go (inl whole) =
        let one : Does e.moment e.turn (Some (Of key (Records formats timeout bound))) a e.events e.reply b (left e.expired w) w2.at = subst (λ o. Does e.moment e.turn o a e.events e.reply b (left e.expired w) w2.at) call whole.does in
        let two : Does e.moment e.turn (Some (Of key (Records formats timeout bound))) a e.events (Some (Shown format items)) b (left e.expired w) w2.at = subst (λ r. Does e.moment e.turn (Some (Of key (Records formats timeout bound))) a e.events r b (left e.expired w) w2.at) reply one in
        found_shows key e.moment e.turn formats timeout bound (left e.expired w key) a e.events b (w2.at key) format items two.0
    go (inr starved) = absurd (cc (starved.reply, reply))
