-- What bounds a reply with records: Confluent REST Proxy API v2, `max_bytes` of consumer records.
use Rattle.std.specs.Prelude.{ℕ, ◌≤◌, ◌≡◌, ◌⊎◌, length, All, List, Option, Some, None}
use Rattle.model.specs.state.Log.{Log}
use Rattle.model.specs.step.Walk.{Item, bytes_of}
use Rattle.model.specs.state.World.{Key, Format, World}
use Rattle.model.specs.state.Forms.{reason_of}
use Rattle.model.specs.state.Entry.{Entry}
use Rattle.model.specs.state.Entry.Act.{Records}
use Rattle.model.specs.state.Entry.Call.{Of}
use Rattle.model.specs.state.Entry.Reply.{Shown}
use Rattle.model.specs.step.Events.{at_most}
use Rattle.model.specs.step.Step.{Step}

-- at most 10,000 rows, and no more key and value bytes than the bound, but that one row may have more
pub record IsBounded (bound : ℕ) (items : List Item) : Type 0 where
  pub rows : length items ≤ 10000
  pub bytes : (bytes_of items ≤ bound) ⊎ (length items ≤ 1)

-- The reply of a Records call is bounded by what the query asks, and by 4 MiB; each of its rows reads in the format that it is shown in.
abbrev pub RepliesAreBounded : Type 0
RepliesAreBounded =
    (idle : ℕ) (w : World) (a : Log) (e : Entry) (b : Log) (w2 : World) (key : Key) (formats : List Format) (timeout bound : Option ℕ) (format : Format) (items : List Item)
    → Step idle w a e b w2 → e.call ≡ Some (Of key (Records formats timeout bound)) → e.reply ≡ Some (Shown format items)
    → IsBounded (at_most 4194304 bound) items × All (λ (item : Item). reason_of (let t = e.turn in t.forms) format item.row ≡ None) items
