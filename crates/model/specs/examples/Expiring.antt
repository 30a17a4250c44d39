-- An example history of expiry: an instance of the Confluent REST Proxy API v2 that isn't used for five minutes is gone.
use Rattle.std.specs.Prelude.{ℕ, cond, List, [], ◌∷◌, Some, None}
use Rattle.model.specs.state.World.{Key, is_key, Consumer, World, fresh}
use Rattle.model.specs.state.World.Edge.{Start}
use Rattle.model.specs.state.Entry.{Act, Reply, Entry}
use Rattle.model.specs.state.Entry.Act.{Create, Subscription}
use Rattle.model.specs.state.Entry.Call.{Of}
use Rattle.model.specs.state.Entry.Reply.{Made, Names, Refused}
use Rattle.model.specs.examples.Readings.{reader, settings_of, turn}

-- an entry of the consumer's at a moment, behind the consumers that are gone
abbrev pub entry_at : ℕ → List Key → Act → Reply → Entry
entry_at moment gone act reply = record { caller = 0; moment = moment; turn = turn; expired = gone; events = []; call = Some (Of reader act); reply = Some reply }

-- the consumer, made at a moment or last used there
abbrev pub used_at : ℕ → Consumer
used_at moment = fresh (settings_of Start) moment

-- only this consumer is live, and this is the last moment
abbrev pub only_at : Consumer → ℕ → World
only_at c moment = record { at = λ key. cond (is_key key reader) (Some c) None; last = moment }

-- nobody is, and this is the last moment
abbrev pub nobody_at : ℕ → World
nobody_at moment = record { at = λ key. None; last = moment }

-- It is made, used a millisecond before five minutes are over, gone five minutes after that, and made again.
abbrev pub made_used_gone : List Entry
made_used_gone =
    entry_at 0 [] (Create (settings_of Start)) Made
    ∷ entry_at 299999 [] Subscription (Names [])
    ∷ entry_at 599999 (reader ∷ []) Subscription (Refused 40403)
    ∷ entry_at 599999 [] (Create (settings_of Start)) Made
    ∷ []
