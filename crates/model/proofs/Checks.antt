-- Replies as they are written, computed.
use Rattle.std.proofs.Common.{refl}
use Rattle.std.specs.Fmt.{digits}
use Rattle.json.specs.Print.{escape_byte}
use Rattle.std.specs.Prelude.{codes, pos, negsuc, ◌≡◌, [], ◌∷◌, Some, None}
use Rattle.model.specs.state.World.Edge.{Start}
use Rattle.model.specs.state.Entry.Act.{Create, Delete, Subscription, Subscribe, Assignments, Seek, Fixed, Records}
use Rattle.model.specs.state.Entry.Question.{Brokers, Topics, OneTopic, Parts, OnePart, EndOffsets}
use Rattle.model.specs.state.Entry.Call.{Produce, Ask, Of}
use Rattle.model.specs.state.Entry.Placed.{Stored, Failed}
use Rattle.model.specs.state.Entry.Reply.{Done, Made, Names, Nodes, Offsets, Told, Edged, Listed, Answers, Unread, Refused, Broker, LinkFault}
use Rattle.model.specs.examples.Readings.{reader, orders, other_orders, place_at, kafka_at, settings_of}
use Rattle.model.specs.examples.ReadingReplies.{one_part, as_written}
use Rattle.model.specs.texts.Texts.Response.{Empty, Body, Error}

pub stored_text : as_written (Produce (codes "orders") (record { key_id = None; value_id = None; records = [] })) (Answers (Stored 0 0 ∷ [])) ≡ Body None (codes "{\"offsets\":[{\"partition\":0,\"offset\":0,\"error_code\":null,\"error\":null}],\"key_schema_id\":null,\"value_schema_id\":null}")
unfolding digits escape_byte
stored_text = refl

pub failed_text : as_written (Produce (codes "orders") (record { key_id = None; value_id = Some 1; records = [] })) (Answers (Failed 0 (pos 10) ∷ Failed 1 (pos 6) ∷ [])) ≡ Body None (codes "{\"offsets\":[{\"partition\":0,\"offset\":null,\"error_code\":1,\"error\":\"broker code 10\"},{\"partition\":1,\"offset\":null,\"error_code\":2,\"error\":\"broker code 6\"}],\"key_schema_id\":null,\"value_schema_id\":1}")
unfolding digits escape_byte
failed_text = refl

pub brokers_text : as_written (Ask Brokers) (Nodes (pos 1 ∷ [])) ≡ Body None (codes "{\"brokers\":[1]}")
unfolding digits escape_byte
brokers_text = refl

pub topics_text : as_written (Ask Topics) (Names (codes "orders" ∷ [])) ≡ Body None (codes "[\"orders\"]")
unfolding digits escape_byte
topics_text = refl

pub part_text : as_written (Ask (OnePart orders)) (Told (one_part ∷ [])) ≡ Body None (codes "{\"partition\":0,\"leader\":1,\"replicas\":[{\"broker\":1,\"leader\":true,\"in_sync\":true}]}")
unfolding digits escape_byte
part_text = refl

pub parts_text : as_written (Ask (Parts (codes "orders"))) (Told (one_part ∷ [])) ≡ Body None (codes "[{\"partition\":0,\"leader\":1,\"replicas\":[{\"broker\":1,\"leader\":true,\"in_sync\":true}]}]")
unfolding digits escape_byte
parts_text = refl

pub topic_text : as_written (Ask (OneTopic (codes "orders"))) (Told (one_part ∷ [])) ≡ Body None (codes "{\"name\":\"orders\",\"configs\":{},\"partitions\":[{\"partition\":0,\"leader\":1,\"replicas\":[{\"broker\":1,\"leader\":true,\"in_sync\":true}]}]}")
unfolding digits escape_byte
topic_text = refl

pub offsets_text : as_written (Ask (EndOffsets orders)) (Edged 0 3) ≡ Body None (codes "{\"beginning_offset\":0,\"end_offset\":3}")
unfolding digits escape_byte
offsets_text = refl

pub made_text : as_written (Of reader (Create (settings_of Start))) Made ≡ Body None (codes "{\"instance_id\":\"c1\",\"base_uri\":\"http://localhost:8082/consumers/g/instances/c1\"}")
unfolding digits escape_byte
made_text = refl

pub deleted_text : as_written (Of reader Delete) Done ≡ Empty
unfolding digits escape_byte
deleted_text = refl

pub subscribed_text : as_written (Of reader Subscription) (Names (codes "orders" ∷ [])) ≡ Body None (codes "{\"topics\":[\"orders\"]}")
unfolding digits escape_byte
subscribed_text = refl

pub listed_text : as_written (Of reader Assignments) (Listed (orders ∷ [])) ≡ Body None (codes "{\"partitions\":[{\"topic\":\"orders\",\"partition\":0}]}")
unfolding digits escape_byte
listed_text = refl

pub committed_text : as_written (Of reader (Fixed (orders ∷ other_orders ∷ []))) (Offsets (place_at 1 ∷ record { at = other_orders; position = 1 } ∷ [])) ≡ Body None (codes "{\"offsets\":[{\"topic\":\"orders\",\"partition\":0,\"offset\":1,\"metadata\":\"\"},{\"topic\":\"orders\",\"partition\":1,\"offset\":1,\"metadata\":\"\"}]}")
unfolding digits escape_byte
committed_text = refl

pub unread_text : as_written (Of reader (Records [] None None)) (Unread (record { at = orders; row = kafka_at 0 }) 2) ≡ Error 50002 (codes "{\"error_code\":50002,\"message\":\"Record does not read: topic orders, partition 0, offset 0, reason 2.\"}")
unfolding digits escape_byte
unread_text = refl

pub retriable_text : as_written (Ask Topics) (Broker (pos 6)) ≡ Error 50003 (codes "{\"error_code\":50003,\"message\":\"Kafka retriable error: broker code 6.\"}")
unfolding digits escape_byte
retriable_text = refl

pub another_code_text : as_written (Ask Topics) (Broker (negsuc 0)) ≡ Error 50002 (codes "{\"error_code\":50002,\"message\":\"Kafka error: broker code -1.\"}")
unfolding digits escape_byte
another_code_text = refl

pub link_text : as_written (Ask Topics) LinkFault ≡ Error 50003 (codes "{\"error_code\":50003,\"message\":\"Kafka retriable error: link.\"}")
unfolding digits escape_byte
link_text = refl

pub no_topic_text : as_written (Ask Topics) (Refused 40401) ≡ Error 40401 (codes "{\"error_code\":40401,\"message\":\"Topic not found.\"}")
unfolding digits escape_byte
no_topic_text = refl

pub no_partition_text : as_written (Ask Topics) (Refused 40402) ≡ Error 40402 (codes "{\"error_code\":40402,\"message\":\"Partition not found.\"}")
unfolding digits escape_byte
no_partition_text = refl

pub no_instance_text : as_written (Of reader Delete) (Refused 40403) ≡ Error 40403 (codes "{\"error_code\":40403,\"message\":\"Consumer instance not found.\"}")
unfolding digits escape_byte
no_instance_text = refl

pub format_text : as_written (Of reader (Records [] None None)) (Refused 40601) ≡ Error 40601 (codes "{\"error_code\":40601,\"message\":\"Consumer format does not match the Accept header.\"}")
unfolding digits escape_byte
format_text = refl

pub exists_text : as_written (Of reader (Create (settings_of Start))) (Refused 40902) ≡ Error 40902 (codes "{\"error_code\":40902,\"message\":\"Consumer instance with the specified name already exists.\"}")
unfolding digits escape_byte
exists_text = refl

pub exclusive_text : as_written (Of reader (Subscribe [])) (Refused 40903) ≡ Error 40903 (codes "{\"error_code\":40903,\"message\":\"Subscription to topics, partitions and pattern are mutually exclusive.\"}")
unfolding digits escape_byte
exclusive_text = refl

pub unassigned_text : as_written (Of reader (Seek [])) (Refused 40990) ≡ Error 40990 (codes "{\"error_code\":40990,\"message\":\"Partition is not assigned to this instance.\"}")
unfolding digits escape_byte
unassigned_text = refl
