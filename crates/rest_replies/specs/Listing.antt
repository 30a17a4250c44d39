-- The text of an assignment, as it is put together (Confluent REST Proxy API v2, consumers).
use Rattle.std.specs.Prelude.{ℕ, ◌++◌, codes, decimal, List}

-- an assigned partition, with its topic as a JSON string
unfoldable pub listed_text : List ℕ → ℕ → List ℕ
listed_text topic partition = codes "{\"topic\":" ++ (topic ++ (codes ",\"partition\":" ++ (decimal partition ++ codes "}")))
