-- The live consumers of a shard, as the model's world.
use Rattle.model.specs.state.Entry.{Call}
use Rattle.model.specs.state.Entry.Act.{Create, Delete}
use Rattle.model.specs.state.Entry.Call.{Of}
use Rattle.rest_codes.specs.declared.response.Reply.{Reply}
use Rattle.rest_codes.specs.declared.response.Reply.TheVariants as reply
use Rattle.std.specs.Prelude.{ℕ, Bool, true, false, ◌≡◌, Option, Some}
use Rattle.model.specs.state.Log.{Log}
use Rattle.model.specs.state.World.{Key, Consumer, World, IsConsumer}
use Rattle.consumer_state.specs.Assign.{AreThere}
use Rattle.desk.specs.Consumers.{consumer_under}
use Rattle.desk.specs.declared.consumers.Consumers.{Consumers}

-- the consumer under a key
abbrev pub consumer_in : Consumers → Key → Option Consumer
consumer_in consumers key = consumer_under consumers.groups key

-- the consumers, and the last moment
abbrev pub world_in : Consumers → ℕ → World
world_in consumers last = record { at = λ key. consumer_in consumers key; last = last }

-- each is a consumer
abbrev pub AreSound : Consumers → Type 0
AreSound consumers = (key : Key) (c : Consumer) → consumer_in consumers key ≡ Some c → IsConsumer c

-- the topics have the partitions of each consumer
abbrev pub AllThere : Log → World → Type 0
AllThere log w = (key : Key) (c : Consumer) → w.at key ≡ Some c → AreThere log c

-- a Create
abbrev pub is_create_call : Call → Bool
is_create_call (Of key (Create settings)) = true
is_create_call _ = false

-- a Delete
abbrev pub is_delete_call : Call → Bool
is_delete_call (Of key Delete) = true
is_delete_call _ = false

-- a reply without a body
abbrev pub is_empty_reply : Option Reply → Bool
is_empty_reply (Some reply.Empty) = true
is_empty_reply _ = false
