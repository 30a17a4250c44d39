-- The records of a produce body in an embedded format (Confluent REST Proxy API v2; RFC 8259).
use Rattle.std.specs.Prelude.{ℕ, ℤ, pos, negsuc, ◌^◌, List, [], Option, Some, None, option_map, option_and_then, if◌then◌else◌, nat_lt, codes, ⊤}
use Rattle.json_token.specs.Integer.{integer_of}
use Rattle.json_span.specs.Json.{Json, Items, Members, null, boolean, number, text, array, object, no_items, item}
use Rattle.std.specs.Borrow.{Bor}
use Rattle.json_span.specs.Nodes.{StandForItems}
use Rattle.json_span.specs.declared.tree.Tree.{Tree}
use Rattle.json_span.specs.Parts.{last_member}
use Rattle.forms.specs.Stored.{stored_of}
use Rattle.forms.specs.Text.{value_of}
use Rattle.forms.specs.declared.format.Format.{Format}
use Rattle.model.specs.state.Entry.{Given}
use Rattle.rest_calls.specs.Json.{put_first}

-- a value, or null where there is none
abbrev pub or_null : Option Json → Json
or_null None = null
or_null (Some j) = j

-- the value of the last member of this name, or null
abbrev pub member_of : List ℕ → Members → Json
member_of name ms = or_null (last_member name ms)

-- a partition's number, from 0 to 2147483647
abbrev pub number_in : Option ℤ → Option ℕ
number_in None = None
number_in (Some (negsuc n)) = None
number_in (Some (pos n)) = if nat_lt n (2 ^ 31) then Some n else None

-- the partition that a record names, or that it names none, by null
abbrev pub named_of : Json → Option (Option ℕ)
named_of null = Some None
named_of (number s) = option_map (λ n. Some n) (number_in (integer_of s))
named_of (boolean b) = None
named_of (text s) = None
named_of (array js) = None
named_of (object ms) = None

-- the partition of a record: the one that the request is sent to, if it is sent to one, or the one that the record names
abbrev pub partition_for : Option ℕ → Json → Option (Option ℕ)
partition_for (Some partition) j = Some (Some partition)
partition_for None j = named_of j

-- a record, where its partition, key and value read
abbrev pub given_from : Option (Option ℕ) → Option (Option (List ℕ)) → Option (Option (List ℕ)) → Option Given
given_from (Some partition) (Some key) (Some value) = Some (record { partition = partition; key = key; value = value })
given_from _ _ _ = None

-- a record from its members
unfoldable pub record_in : Format → Option ℕ → Members → Option Given
record_in format to ms =
    given_from (partition_for to (member_of (codes "partition") ms)) (stored_of format (member_of (codes "key") ms)) (stored_of format (member_of (codes "value") ms))

-- one record, an object, of a request that is sent to this partition, or to none
abbrev pub record_of : Format → Option ℕ → Json → Option Given
record_of format to (object ms) = record_in format to ms
record_of format to null = None
record_of format to (boolean b) = None
record_of format to (number s) = None
record_of format to (text s) = None
record_of format to (array js) = None

-- all records, in order
abbrev pub records_of : Format → Option ℕ → Items → Option (List Given)
records_of format to no_items = Some []
records_of format to (item j js) = put_first (record_of format to j) (records_of format to js)

-- one record or more
abbrev pub some_records_of : Format → Option ℕ → Items → Option (List Given)
some_records_of format to no_items = None
some_records_of format to (item j js) = records_of format to (item j js)

-- the items of a value that is an array
abbrev pub items_in : Json → Option Items
items_in (array js) = Some js
items_in null = None
items_in (boolean b) = None
items_in (number s) = None
items_in (text s) = None
items_in (object ms) = None

-- the records of an object: its other members, those of schemas among them, are ignored
abbrev pub members_give : Format → Option ℕ → Members → Option (List Given)
members_give format to ms = option_and_then (some_records_of format to) (items_in (member_of (codes "records") ms))

-- the records of a value that is an object
abbrev pub body_of : Format → Option ℕ → Json → Option (List Given)
body_of format to (object ms) = members_give format to ms
body_of format to null = None
body_of format to (boolean b) = None
body_of format to (number s) = None
body_of format to (text s) = None
body_of format to (array js) = None

-- the records of a body that is JSON, or isn't
abbrev pub produced_by : Format → Option ℕ → List ℕ → Option (List Given)
produced_by format to body = option_and_then (body_of format to) (value_of body)

-- the nodes stand for the items, where there are some; only private clauses cite it
abbrev pub AreListed : Tree → Option Items → Option (Bor (List ℕ)) → Type 0
AreListed tree None None = ⊤
AreListed tree None (Some nodes) = ⊥
AreListed tree (Some js) None = ⊥
AreListed tree (Some js) (Some nodes) = StandForItems tree nodes.now js
