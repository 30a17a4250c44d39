-- What a step does to the consumers that its call isn't of.
use Rattle.std.proofs.Common.{[], ◌∷◌, ◌≤◌, arith, ◌≡◌, ℕ, Bool, true, false, cond, List, refl, ap, ◌∙◌, inl, inr, Option, Some, None}
use Rattle.std.specs.Prelude.{◌⊎◌, ◌≢◌}
use Rattle.model.specs.state.Log.{Log}
use Rattle.model.specs.state.World.{Key, Consumer, World}
use Rattle.model.specs.state.Entry.{Call, Event, Reply, Turn, Entry, is_of}
use Rattle.model.specs.state.Entry.Call.{Produce, Ask, Of}
use Rattle.model.specs.state.Entry.Reply.{Want}
use Rattle.model.specs.step.Step.{IsIdle, Does, Whole, Starved, Step, left, is_among}
use Rattle.model.specs.history.Legal.{Tally, Run}

others_stay : (moment : ℕ) (turn : Turn) (call : Option Call) (a : Log) (events : List Event) (reply : Option Reply) (b : Log) (v w : Key → Option Consumer) (key : Key)
    → is_of key call ≡ false → Does moment turn call a events reply b v w → w key ≡ v key
others_stay moment turn None a events reply b v w key other does = does.4 key
others_stay moment turn (Some (Produce topic batch)) a events reply b v w key other does = does.3 key
others_stay moment turn (Some (Ask question)) a events reply b v w key other does = does.4 key
others_stay moment turn (Some (Of own act)) a events reply b v w key other does = does.2 key other

pub neighbour_stays : (idle : ℕ) (w : World) (a : Log) (e : Entry) (b : Log) (w2 : World) (key : Key)
    → Step idle w a e b w2 → is_of key e.call ≡ false → (IsIdle idle e.moment (w.at key) → ⊥) → w2.at key ≡ w.at key
neighbour_stays idle w a e b w2 key step other used = go step.does
  where
    go : Whole idle w a e b w2 ⊎ Starved w a e b w2 → w2.at key ≡ w.at key
    go (inl whole) = others_stay e.moment e.turn e.call a e.events e.reply b (left e.expired w) w2.at key other whole.does ∙ there (is_among e.expired key) refl
      where
        there : (b : Bool) → is_among e.expired key ≡ b → cond (is_among e.expired key) None (w.at key) ≡ w.at key
        there true is = let x = whole.expired in absurd (used ((x.each key).0 is))
        there false is = rw is refl
    go (inr starved) = starved.same key

pub idle_is_gone : (idle : ℕ) (w : World) (a : Log) (e : Entry) (b : Log) (w2 : World) (key : Key)
    → Step idle w a e b w2 → is_of key e.call ≡ false → IsIdle idle e.moment (w.at key) → e.reply ≢ Some Want → w2.at key ≡ None
idle_is_gone idle w a e b w2 key step other unused answered = go step.does
  where
    go : Whole idle w a e b w2 ⊎ Starved w a e b w2 → w2.at key ≡ None
    go (inl whole) =
        let x = whole.expired in
        let is : is_among e.expired key ≡ true = (x.each key).1 unused in
        others_stay e.moment e.turn e.call a e.events e.reply b (left e.expired w) w2.at key other whole.does ∙ ap (λ b. cond b None (w.at key)) is
    go (inr starved) = absurd (answered starved.reply)

pub moments_rise : (idle : ℕ) (w : World) (a : Log) (entries : List Entry) (b : Log) (w2 : World) (n : Tally) → Run idle w a entries b w2 n → w.last ≤ w2.last
moments_rise idle w a [] b w2 n run = omega (arith, ap (λ (v : World). v.last) run.1)
moments_rise idle w a (e ∷ entries) b w2 n run =
    let v : World = run.1 in
    let step : Step idle w a e run.0 v = run.2 in
    let rest : v.last ≤ w2.last = moments_rise idle v run.0 entries b w2 run.3.0 run.3.2 in
    omega (arith, step.later, step.last, rest)
