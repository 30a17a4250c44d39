-- To what a request is sent (Confluent REST Proxy API v2; RFC 9110, section 15.5.6).
use Rattle.std.specs.Prelude.{◌≡◌, ℕ, Bool, true, false, List, [], Option, Some, None, ⊤}
use Rattle.http_conn.specs.declared.request.Request.{Request}
use Rattle.rest_routes.specs.Routes.{route_of}
use Rattle.rest_routes.specs.Methods.{verb_of, has_method, first_place}
use Rattle.rest_routes.specs.Parameter.{first_parameter, second_parameter, name_of, instance_name_of, number_of}
use Rattle.rest_routes.specs.declared.route.Route.{Route}
use Rattle.rest_routes.specs.declared.route.Route.TheVariants as route
use Rattle.rest_routes.specs.declared.route.Verb.{Verb}
use Rattle.rest_routes.specs.declared.route.Verb.TheVariants as verb
use Rattle.rest_routes.specs.declared.place.TopicAsk.TheVariants as topic
use Rattle.rest_routes.specs.declared.place.PartitionAsk.{PartitionAsk}
use Rattle.rest_routes.specs.declared.place.PartitionAsk.TheVariants as partition
use Rattle.rest_routes.specs.declared.place.Ask.{Ask}
use Rattle.rest_routes.specs.declared.place.Ask.TheVariants as ask
use Rattle.rest_routes.specs.declared.place.Names.{Names}
use Rattle.rest_routes.specs.declared.place.Place.{Place}
use Rattle.rest_routes.specs.declared.place.Place.TheVariants.{Brokers, Topics, Topic, Partition, Group, Instance}
use Rattle.rest_routes.specs.declared.place.Missing.{Missing}
use Rattle.rest_routes.specs.declared.place.Missing.TheVariants.{NotFound, NoMethod, Want}

-- To what a request is sent: nothing that the gateway has; a path that hasn't the method, with the number of the path's first place;
-- or a place.
pub data Sent : Type 0 where
  Nowhere : Sent
  Lacks : ℕ → Sent
  At : Place → Sent

-- one name
abbrev pub alone : Option (List ℕ) → Option Names
alone None = None
alone (Some name) = Some (record { first = name; second = []; number = None })

-- two names, where both read
abbrev pub both : Option (List ℕ) → Option (List ℕ) → Option Names
both (Some first) (Some second) = Some (record { first = first; second = second; number = None })
both _ _ = None

-- a topic's name and the number of a partition, where both read
abbrev pub numbered : Option (List ℕ) → Option ℕ → Option Names
numbered (Some first) (Some number) = Some (record { first = first; second = []; number = Some number })
numbered _ _ = None

-- the names that a path gives: a topic, a topic's partition, a group, or an instance of a group
abbrev pub names_at : Route → List ℕ → Option Names
names_at route.Brokers path = Some (record { first = []; second = []; number = None })
names_at route.Topics path = Some (record { first = []; second = []; number = None })
names_at route.Topic path = alone (name_of (first_parameter path))
names_at route.Partitions path = alone (name_of (first_parameter path))
names_at route.Partition path = numbered (name_of (first_parameter path)) (number_of (second_parameter path))
names_at route.EndOffsets path = numbered (name_of (first_parameter path)) (number_of (second_parameter path))
names_at route.Group path = alone (instance_name_of (first_parameter path))
names_at r path = both (instance_name_of (first_parameter path)) (instance_name_of (second_parameter path))

-- what is asked of an instance, where that is built
abbrev pub ask_at : Route → Verb → Option Ask
ask_at route.Instance verb.Delete = Some ask.Delete
ask_at route.Subscription verb.Get = Some ask.Subscription
ask_at route.Assignments verb.Post = Some ask.Assign
ask_at route.Assignments verb.Get = Some ask.Assignments
ask_at route.Positions verb.Post = Some ask.Seek
ask_at route.Beginning verb.Post = Some ask.SeekBeginning
ask_at route.End verb.Post = Some ask.SeekEnd
ask_at route.Records verb.Get = Some ask.Records
ask_at r v = None

-- the instance of that name, if this is asked of it
abbrev pub instance_at : Names → Option Ask → Option Place
instance_at names None = None
instance_at names (Some ask) = Some (Instance names.first names.second ask)

-- the partition of that number in a topic
abbrev pub partition_at : List ℕ → Option ℕ → PartitionAsk → Option Place
partition_at name None ask = None
partition_at name (Some number) ask = Some (Partition name number ask)

-- the place that a path has for a method, where it is built
abbrev pub place_at : Route → Verb → Names → Option Place
place_at route.Brokers verb.Get names = Some Brokers
place_at route.Topics verb.Get names = Some Topics
place_at route.Topic verb.Post names = Some (Topic names.first topic.Produce)
place_at route.Topic verb.Get names = Some (Topic names.first topic.Description)
place_at route.Partitions verb.Get names = Some (Topic names.first topic.Partitions)
place_at route.Partition verb.Post names = partition_at names.first names.number partition.Produce
place_at route.Partition verb.Get names = partition_at names.first names.number partition.Description
place_at route.EndOffsets verb.Get names = partition_at names.first names.number partition.EndOffsets
place_at route.Group verb.Post names = Some (Group names.first)
place_at r v names = instance_at names (ask_at r v)

-- a place that is built, or nothing
abbrev pub built : Option Place → Sent
built None = Nowhere
built (Some place) = At place

-- a path without the method says which it has
abbrev pub sent_by : Route → Names → Verb → Bool → Sent
sent_by r names v false = Lacks (first_place r)
sent_by r names v true = built (place_at r v names)

-- a path has no other method than the three
abbrev pub sent_with : Route → Names → Option Verb → Sent
sent_with r names None = Lacks (first_place r)
sent_with r names (Some v) = sent_by r names v (has_method r v)

-- a path with a parameter that doesn't read is none of the gateway's
abbrev pub sent_to : Route → Option Verb → Option Names → Sent
sent_to r v None = Nowhere
sent_to r v (Some names) = sent_with r names v

-- to what a request of this method is sent, by its path
abbrev pub sent_at : Option Verb → Option Route → List ℕ → Sent
sent_at v None path = Nowhere
sent_at v (Some r) path = sent_to r v (names_at r path)

-- to what a request is sent
abbrev pub sent_of : Request → Sent
sent_of request = sent_at (verb_of request.method) (route_of request.path) request.path

-- why it has no place
abbrev pub IsMissed : Sent → Missing → Type 0
IsMissed sent NotFound = sent ≡ Nowhere
IsMissed sent (NoMethod place) = sent ≡ Lacks place
IsMissed sent Want = ⊤
