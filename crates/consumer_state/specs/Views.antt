-- What a consumer stands for in the model (Confluent REST Proxy API v2, consumers).
use Rattle.std.specs.Prelude.{◌≤◌, List, [], ◌∷◌, map, length}
use Rattle.model.specs.step.Walk.{Place}
use Rattle.model.specs.state.World.{Mode, Consumer, IsInOrder, IsConsumer}
use Rattle.model.specs.state.World.Mode.{Unset, Assigned}
use Rattle.broker_link.specs.Places.{place_of}
use Rattle.rest_calls.specs.Views.{settings_of}
use Rattle.consumer_state.specs.declared.consumer.Consumer.{Consumer as CodeConsumer}

-- partitions are assigned, or none are
abbrev pub mode_of : List Place → Mode
mode_of [] = Unset
mode_of (place ∷ places) = Assigned

-- the consumer
abbrev pub consumer_of : CodeConsumer → Consumer
consumer_of c = record {
  settings = settings_of c.settings;
  mode = mode_of (map place_of c.assignment.items);
  topics = [];
  assignment = map place_of c.assignment.items;
  rotation = c.rotation;
  unsaved = c.unsaved;
  last_use = c.last_use;
}

-- what holds of every consumer: its partitions rise, and the next walk begins at one of them or behind the last
pub record IsSound (c : CodeConsumer) : Type 0 where
  pub order : IsInOrder (map place_of c.assignment.items)
  pub rotation : c.rotation ≤ length c.assignment.items
  pub sound : IsConsumer (consumer_of c)
