-- What the example histories of reading answer, as the Confluent REST Proxy API v2 writes it.
use Rattle.std.specs.Prelude.{ℕ, pos, codes, List, [], ◌∷◌, ◌++◌, map, Option, Some, None}
use Rattle.model.specs.state.World.Format.{Binary}
use Rattle.model.specs.state.Entry.{Call, PartTold, Reply, Entry}
use Rattle.model.specs.texts.Texts.{Response, response_of}
use Rattle.model.specs.history.Noted.{said_of}
use Rattle.model.specs.texts.Texts.Response.{Empty, Body, Error}
use Rattle.model.specs.examples.Readings.{turn}

-- a reply to a call as it is written, where the advertised name is `localhost:8082`
abbrev pub as_written : Call → Reply → Response
as_written call reply = response_of (codes "localhost:8082") turn.forms call reply

-- a partition that node 1 leads and has alone
abbrev pub one_part : PartTold
one_part = record { number = 0; leader = pos 1; replicas = pos 1 ∷ []; in_sync = pos 1 ∷ [] }

-- the replies of a history as they are written
abbrev pub replies_of : List Entry → List (Option Response)
replies_of entries = map (λ e. said_of (codes "localhost:8082") turn.forms e.call e.reply) entries

-- the record `Kafka` at offset 0, and those behind it
abbrev pub first : List ℕ
first = codes "{\"topic\":\"orders\",\"key\":null,\"value\":\"S2Fma2E=\",\"partition\":0,\"offset\":0}"

-- the one at offset 1
abbrev pub second : List ℕ
second = codes "{\"topic\":\"orders\",\"key\":null,\"value\":\"S2Fma2E=\",\"partition\":0,\"offset\":1}"

-- the one at offset 2
abbrev pub third : List ℕ
third = codes "{\"topic\":\"orders\",\"key\":null,\"value\":\"S2Fma2E=\",\"partition\":0,\"offset\":2}"

-- the one at offset 3
abbrev pub fourth : List ℕ
fourth = codes "{\"topic\":\"orders\",\"key\":null,\"value\":\"S2Fma2E=\",\"partition\":0,\"offset\":3}"

-- a body with these bytes
abbrev pub body : List ℕ → Option Response
body text = Some (Body None text)

-- a list of records
abbrev pub shows : List ℕ → Option Response
shows text = Some (Body (Some Binary) (codes "[" ++ text ++ codes "]"))

-- the replies of three records produced, a consumer made and the partition assigned
abbrev pub begins : List (Option Response) → List (Option Response)
begins rest =
    body (codes "{\"offsets\":[{\"partition\":0,\"offset\":0,\"error_code\":null,\"error\":null},{\"partition\":0,\"offset\":1,\"error_code\":null,\"error\":null},{\"partition\":0,\"offset\":2,\"error_code\":null,\"error\":null}],\"key_schema_id\":null,\"value_schema_id\":null}")
    ∷ body (codes "{\"instance_id\":\"c1\",\"base_uri\":\"http://localhost:8082/consumers/g/instances/c1\"}")
    ∷ Some Empty ∷ rest

-- one record a reply, and then none
abbrev pub one_by_one : List (Option Response)
one_by_one = begins (shows first ∷ shows second ∷ shows third ∷ shows [] ∷ [])

-- two records, a seek, two records, a seek that is refused, and none
abbrev pub after_seek : List (Option Response)
after_seek =
    begins (shows (first ++ codes "," ++ second) ∷ Some Empty ∷ shows (second ++ codes "," ++ third)
    ∷ Some (Error 40990 (codes "{\"error_code\":40990,\"message\":\"Partition is not assigned to this instance.\"}")) ∷ shows [] ∷ [])

-- all three from offset 0
abbrev pub from_the_start : List (Option Response)
from_the_start = begins (Some Empty ∷ shows (first ++ codes "," ++ second ++ codes "," ++ third) ∷ [])

-- none, then the one produced afterwards, and after the seeks to the edges all four
abbrev pub from_the_end : List (Option Response)
from_the_end =
    begins (Some Empty ∷ shows []
    ∷ body (codes "{\"offsets\":[{\"partition\":0,\"offset\":3,\"error_code\":null,\"error\":null}],\"key_schema_id\":null,\"value_schema_id\":null}")
    ∷ shows fourth ∷ Some Empty ∷ Some Empty ∷ shows (first ++ codes "," ++ second ++ codes "," ++ third ++ codes "," ++ fourth) ∷ [])

-- both records; none; the committed offsets; what is asked of the consumer; and its end
abbrev pub by_subscription : List (Option Response)
by_subscription =
    body (codes "{\"offsets\":[{\"partition\":0,\"offset\":0,\"error_code\":null,\"error\":null},{\"partition\":1,\"offset\":0,\"error_code\":null,\"error\":null}],\"key_schema_id\":null,\"value_schema_id\":null}")
    ∷ body (codes "{\"instance_id\":\"c1\",\"base_uri\":\"http://localhost:8082/consumers/g/instances/c1\"}")
    ∷ Some Empty
    ∷ shows (first ++ codes "," ++ codes "{\"topic\":\"orders\",\"key\":null,\"value\":\"S2Fma2E=\",\"partition\":1,\"offset\":0}")
    ∷ shows []
    ∷ body (codes "{\"offsets\":[{\"topic\":\"orders\",\"partition\":0,\"offset\":1,\"metadata\":\"\"},{\"topic\":\"orders\",\"partition\":1,\"offset\":1,\"metadata\":\"\"}]}")
    ∷ Some Empty
    ∷ body (codes "{\"topics\":[\"orders\"]}")
    ∷ Some (Error 40903 (codes "{\"error_code\":40903,\"message\":\"Subscription to topics, partitions and pattern are mutually exclusive.\"}"))
    ∷ Some Empty
    ∷ body (codes "{\"partitions\":[]}")
    ∷ Some Empty
    ∷ []

-- made, found, not found, and made again
abbrev pub made_again : List (Option Response)
made_again =
    body (codes "{\"instance_id\":\"c1\",\"base_uri\":\"http://localhost:8082/consumers/g/instances/c1\"}")
    ∷ body (codes "{\"topics\":[]}")
    ∷ Some (Error 40403 (codes "{\"error_code\":40403,\"message\":\"Consumer instance not found.\"}"))
    ∷ body (codes "{\"instance_id\":\"c1\",\"base_uri\":\"http://localhost:8082/consumers/g/instances/c1\"}")
    ∷ []

-- a partition as it is told
abbrev pub first_part : List ℕ
first_part = codes "{\"partition\":0,\"leader\":1,\"replicas\":[{\"broker\":1,\"leader\":true,\"in_sync\":true}]}"

-- the one behind it
abbrev pub second_part : List ℕ
second_part = codes "{\"partition\":1,\"leader\":1,\"replicas\":[{\"broker\":1,\"leader\":true,\"in_sync\":true}]}"

-- what there is, and what there isn't
abbrev pub told_of_topics : List (Option Response)
told_of_topics =
    body (codes "{\"brokers\":[1]}")
    ∷ body (codes "[\"orders\"]")
    ∷ body (codes "{\"name\":\"orders\",\"configs\":{},\"partitions\":[" ++ first_part ++ codes "," ++ second_part ++ codes "]}")
    ∷ body (codes "[" ++ first_part ++ codes "," ++ second_part ++ codes "]")
    ∷ body first_part
    ∷ body (codes "{\"beginning_offset\":0,\"end_offset\":3}")
    ∷ Some (Error 40401 (codes "{\"error_code\":40401,\"message\":\"Topic not found.\"}"))
    ∷ Some (Error 40401 (codes "{\"error_code\":40401,\"message\":\"Topic not found.\"}"))
    ∷ Some (Error 40402 (codes "{\"error_code\":40402,\"message\":\"Partition not found.\"}"))
    ∷ Some (Error 40402 (codes "{\"error_code\":40402,\"message\":\"Partition not found.\"}"))
    ∷ []
