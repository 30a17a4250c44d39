-- A request's records by partition, and the answer of each record.
use Rattle.std.specs.Prelude.{◌==◌, ℕ, ◌+◌, ◌-◌, ◌^◌, ℤ, pos, nat_abs, min, cond, List, [], ◌∷◌, ◌++◌}
use Rattle.model.specs.state.Entry.{Payload}
use Rattle.broker_link.specs.declared.link.NewRecord.{NewRecord}
use Rattle.broker_link.specs.declared.link.PartRecords.{PartRecords}
use Rattle.broker_link.specs.declared.link.PartPlaced.{PartPlaced}
use Rattle.producer.specs.declared.told.Cursor.{Cursor}
use Rattle.rest_replies.specs.declared.answer.Told.{Told}

abbrev pub new_of : Payload → NewRecord
new_of p = record { key = p.key; value = p.value }

-- one record more, at the end of its partition
abbrev pub put_in : Payload → List PartRecords → List PartRecords
put_in p [] = record { partition = pos p.partition; rows = new_of p ∷ [] } ∷ []
put_in p (part ∷ parts) =
    cond (nat_abs part.partition == p.partition) (record { partition = part.partition; rows = part.rows ++ new_of p ∷ [] } ∷ parts) (part ∷ put_in p parts)

-- the records by partition, in the order of the partitions' first records
abbrev pub grouped : List PartRecords → List Payload → List PartRecords
grouped parts [] = parts
grouped parts (p ∷ payloads) = grouped (put_in p parts) payloads

abbrev pub cursor_of : PartPlaced → Cursor
cursor_of p = record { number = nat_abs p.partition; code = p.code; next = nat_abs p.base }

-- the code of a partition; one that was not asked for has none of its own
abbrev pub code_at : List Cursor → ℕ → ℤ
code_at [] n = pos 3
code_at (c ∷ cursors) n = cond (c.number == n) c.code (code_at cursors n)

abbrev pub next_at : List Cursor → ℕ → ℕ
next_at [] n = 0
next_at (c ∷ cursors) n = cond (c.number == n) c.next (next_at cursors n)

abbrev pub bumped : Cursor → Cursor
bumped c = record { number = c.number; code = c.code; next = min (c.next + 1) (2 ^ 64 - 1) }

-- the next record of the partition is answered with the offset after
abbrev pub bump : ℕ → List Cursor → List Cursor
bump n [] = []
bump n (c ∷ cursors) = cond (c.number == n) (bumped c ∷ cursors) (c ∷ bump n cursors)

-- the answers of records of these partitions, in turn
abbrev pub told_by : List Cursor → List ℕ → List Told
told_by cursors [] = []
told_by cursors (n ∷ numbers) = record { partition = n; code = code_at cursors n; offset = next_at cursors n } ∷ told_by (bump n cursors) numbers
