-- What an assigned partition and its position stand for in the model (Confluent REST Proxy API v2, consumers).
use Rattle.std.specs.Prelude.{nat_abs}
use Rattle.model.specs.state.Log.{TopicPart}
use Rattle.model.specs.step.Walk.{Place}
use Rattle.broker_link.specs.declared.place.Place.{Place as CodePlace}

-- the partition of a place
abbrev pub at_in : CodePlace → TopicPart
at_in p = record { topic = p.topic; partition = nat_abs p.partition }

-- the place itself
abbrev pub place_of : CodePlace → Place
place_of p = record { at = at_in p; position = nat_abs p.position }
