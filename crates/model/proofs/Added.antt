-- The rows that a run adds are those that it told as stored, and those of others.
use Rattle.std.proofs.Common.{◌≡◌, ℕ, ◌+◌, ◌≤◌, Bool, true, false, cond, List, [], ◌∷◌, map, refl, ap, sym, ◌∙◌, inl, inr, arith, Option, Some, None}
use Rattle.std.specs.Prelude.{ℤ, ◌⊎◌}
use Rattle.std.specs.List.{All, count_by, sum_by}
use Rattle.std.proofs.lemmas.List.Sums.{sum_by-cons}
use Rattle.std.proofs.lemmas.List.Elements.{All-head, All-tail}
use Rattle.model.specs.state.Log.{Log, rows_in_all}
use Rattle.model.specs.step.Walk.{Item}
use Rattle.model.specs.state.World.{Key, Consumer, World}
use Rattle.model.specs.state.Entry.{Batch, Call, Event, Reply, Turn, Placed, Entry, is_zero, IsLinks}
use Rattle.model.specs.state.Entry.Call.{Produce, Ask, Of}
use Rattle.model.specs.state.Entry.Reply.{Broker, LinkFault, Want}
use Rattle.model.specs.step.Produced.{answer_of, numbered, chosen, NoneAdded}
use Rattle.model.specs.step.Step.{parts_of, ProduceEnds, Does, Whole, Starved, Step, left}
use Rattle.model.specs.history.Legal.{Tally, Run}
use Rattle.model.proofs.Stretches.{run_keeps}
use Rattle.model.specs.history.Stored.{is_stored, stored_of, stored_by, is_unknown}

one_stored : (code : ℕ → ℤ) (item : Item) → ◌≡◌ {A = ℕ} (cond (is_stored (answer_of code item)) 1 0) (cond (is_zero (code item.at.partition)) 1 0)
one_stored code item = go (is_zero (code item.at.partition)) refl
  where
    go : (b : Bool) → is_zero (code item.at.partition) ≡ b → ◌≡◌ {A = ℕ} (cond (is_stored (answer_of code item)) 1 0) (cond (is_zero (code item.at.partition)) 1 0)
    go true is = rw is refl
    go false is = rw is refl

stored_counted : (code : ℕ → ℤ) (items : List Item) → count_by is_stored (map (answer_of code) items) ≡ count_by (λ (item : Item). is_zero (code item.at.partition)) items
stored_counted code [] = refl
stored_counted code (item ∷ items) = omega (
  arith,
  stored_counted code items,
  one_stored code item,
  sum_by-cons (λ (x : Placed). cond (is_stored x) 1 0) (answer_of code item) (map (answer_of code) items),
  sum_by-cons (λ (x : Item). cond (is_zero (code x.at.partition)) 1 0) item items,
)

-- one entry's
abbrev Adds : Log → Log → ℕ → Type 0
Adds a b n = rows_in_all b + a.others ≡ rows_in_all a + b.others + n

produce_adds : (topic : List ℕ) (batch : Batch) (a b : Log) (reply : Option Reply) → is_unknown (Some (Produce topic batch)) reply ≡ false → ProduceEnds a b topic batch reply → Adds a b (stored_of (Some (Produce topic batch)) reply)
produce_adds topic batch a b reply known (inl p) =
    let x = p.answered in
    let y = x.places in
    let items : List Item = numbered topic x.base [] (chosen (parts_of a topic) 0 batch.records) in
    let told : stored_of (Some (Produce topic batch)) reply ≡ count_by is_stored p.answers = ap (stored_of (Some (Produce topic batch))) p.says in
    let same : count_by is_stored p.answers ≡ count_by (λ (item : Item). is_zero (x.code item.at.partition)) items = ap (count_by is_stored) x.told ∙ stored_counted x.code items in
    omega (arith, y.added, told, same)
produce_adds topic batch a b reply known (inr (inl r)) =
    let none : stored_of (Some (Produce topic batch)) reply ≡ 0 = ap (stored_of (Some (Produce topic batch))) r.2 in
    omega (arith, r.1, none)
produce_adds topic batch a b reply known (inr (inr (inl r))) =
    let none : stored_of (Some (Produce topic batch)) reply ≡ 0 = ap (stored_of (Some (Produce topic batch))) r.3 in
    omega (arith, r.2, none)
produce_adds topic batch a b reply known (inr (inr (inr u))) = absurd (go u.why u.links (sym (ap (is_unknown (Some (Produce topic batch))) u.says) ∙ known))
  where
    go : (why : Reply) → IsLinks why → is_unknown (Some (Produce topic batch)) (Some why) ≡ false → ⊥
    go (Broker code) links is = absurd (cc is)
    go LinkFault links is = absurd (cc is)
    go Want links is = absurd (cc is)
    go _ links is = links

none_adds : (a b : Log) (n : ℕ) → NoneAdded a b → n ≡ 0 → Adds a b n
none_adds a b n none is = omega (arith, none, is)

does_adds : (moment : ℕ) (turn : Turn) (call : Option Call) (a : Log) (events : List Event) (reply : Option Reply) (b : Log) (v w : Key → Option Consumer)
    → is_unknown call reply ≡ false → Does moment turn call a events reply b v w → Adds a b (stored_of call reply)
does_adds moment turn None a events reply b v w known does = none_adds a b _ does.2 refl
does_adds moment turn (Some (Produce topic batch)) a events reply b v w known does = produce_adds topic batch a b reply known does.1
does_adds moment turn (Some (Ask question)) a events reply b v w known does = none_adds a b _ does.2 refl
does_adds moment turn (Some (Of key act)) a events reply b v w known does = none_adds a b _ does.1 refl

starved_stores : (call : Option Call) → stored_of call (Some Want) ≡ 0
starved_stores None = refl
starved_stores (Some (Produce topic batch)) = refl
starved_stores (Some (Ask question)) = refl
starved_stores (Some (Of key act)) = refl

step_adds : (idle : ℕ) (w : World) (a : Log) (e : Entry) (b : Log) (w2 : World) → is_unknown e.call e.reply ≡ false → Step idle w a e b w2 → Adds a b (stored_by e)
step_adds idle w a e b w2 known step = go step.does
  where
    go : Whole idle w a e b w2 ⊎ Starved w a e b w2 → Adds a b (stored_by e)
    go (inl whole) = does_adds e.moment e.turn e.call a e.events e.reply b (left e.expired w) w2.at known whole.does
    go (inr starved) = none_adds a b _ starved.added (ap (stored_of e.call) starved.reply ∙ starved_stores e.call)

pub run_adds : (idle : ℕ) (w : World) (a : Log) (entries : List Entry) (b : Log) (w2 : World) (n : Tally)
    → Run idle w a entries b w2 n → All (λ (e : Entry). is_unknown e.call e.reply ≡ false) entries → rows_in_all b + a.others ≡ rows_in_all a + b.others + sum_by stored_by entries
run_adds idle w a [] b w2 n run known =
    let same : rows_in_all b ≡ rows_in_all a = ap rows_in_all run.0 in
    let others : b.others ≡ a.others = ap (λ (l : Log). l.others) run.0 in
    omega (arith, same, others)
run_adds idle w a (e ∷ entries) b w2 n run known =
    let m : Log = run.0 in
    let one : Adds a m (stored_by e) = step_adds idle w a e m run.1 (All-head (λ (x : Entry). is_unknown x.call x.reply ≡ false) e entries known) run.2 in
    let rest : rows_in_all b + m.others ≡ rows_in_all m + b.others + sum_by stored_by entries = run_adds idle run.1 m entries b w2 run.3.0 run.3.2 (All-tail (λ (x : Entry). is_unknown x.call x.reply ≡ false) e entries known) in
    omega (arith, one, rest, sum_by-cons stored_by e entries)

pub others_rise : (idle : ℕ) (w : World) (a : Log) (entries : List Entry) (b : Log) (w2 : World) (n : Tally) → Run idle w a entries b w2 n → a.others ≤ b.others
others_rise idle w a entries b w2 n run = let k = run_keeps idle w a entries b w2 n run in k.others
