-- Which entries serve which calls, each once and in order: a caller's part of a history (Herlihy and Wing's linearizability).
use Rattle.std.specs.Prelude.{ℕ, ◌+◌, ◌≡◌, List, [], ◌∷◌, ◌++◌, filter, is_some, Some, None, map, length}
use Rattle.model.specs.state.Entry.{Call, Event, Reply, Entry}
use Rattle.model.specs.state.Entry.Event.{Looked}
use Rattle.model.specs.step.Asked.{numbers}

-- the last event is this look
abbrev pub EndsIn : List Event → ℕ → Type 0
EndsIn events round = (before : List Event) × (events ≡ before ++ Looked round ∷ [])

-- entries of one call without a reply, which look in turn from a round on, and the round after them
abbrev pub Waits : Call → ℕ → List Entry → ℕ → Type 0
Waits call round [] next = next ≡ round
Waits call round (e ∷ entries) next = (e.call ≡ Some call) × (e.reply ≡ None) × (e.turn.round ≡ round) × EndsIn e.events round × Waits call (round + 1) entries next

-- the entries of one call, of which the last has its reply
pub record Serves (call : Call) (reply : Reply) (entries : List Entry) : Type 0 where
  pub waits : List Entry
  pub round : ℕ
  pub waited : Waits call 0 waits round
  pub last : Entry
  pub whole : entries ≡ waits ++ last ∷ []
  pub call_is : last.call ≡ Some call
  pub reply_is : last.reply ≡ Some reply
  pub round_is : last.turn.round ≡ round

-- the entries serve the calls in order, each once, with these replies, and there is no other
abbrev pub ServesAll : List Call → List Reply → List Entry → Type 0
ServesAll [] [] entries = entries ≡ []
ServesAll (call ∷ calls) (reply ∷ replies) entries =
    (own : List Entry) × (others : List Entry) × (entries ≡ own ++ others) × Serves call reply own × ServesAll calls replies others
ServesAll [] (reply ∷ replies) entries = ⊥
ServesAll (call ∷ calls) [] entries = ⊥

-- entries that serve calls and then one more call serve all of these calls, each once
abbrev pub ServingGoesOn : Type 0
ServingGoesOn =
    (calls : List Call) (replies : List Reply) (entries : List Entry) (call : Call) (reply : Reply) (own : List Entry)
    → ServesAll calls replies entries → Serves call reply own → ServesAll (calls ++ call ∷ []) (replies ++ reply ∷ []) (entries ++ own)

-- the entries that have a reply
abbrev pub replied : List Entry → List Entry
replied entries = filter (λ e. is_some e.reply) entries

-- The entries with a reply are of the calls served, one each and in order, with their replies.
abbrev pub CallsAreAnsweredOnce : Type 0
CallsAreAnsweredOnce =
    (calls : List Call) (replies : List Reply) (entries : List Entry) → ServesAll calls replies entries
    → (map (λ (e : Entry). e.call) (replied entries) ≡ map Some calls) × (map (λ (e : Entry). e.reply) (replied entries) ≡ map Some replies)

-- the rounds of the entries of one call are 0, 1 and so on
abbrev pub RoundsCountUp : Type 0
RoundsCountUp =
    (call : Call) (reply : Reply) (own : List Entry) → Serves call reply own
    → map (λ (e : Entry). (let t = e.turn in t.round)) own ≡ numbers 0 (length own)
