use Rattle.std.proofs.Common.{drop}
use Rattle.avro_schema.specs.Types.{Fields}
use Rattle.avro_schema.specs.Nodes.{SchemaValue, StandForFields}
use Rattle.json_span.specs.Json.{Members}
use Rattle.json_span.specs.Nodes.{StandForMembers}
use Rattle.json_span.specs.declared.tree.Tree.{Tree}
use Rattle.avro_value.proofs.PartLemmas.{PartsLeft}
use Rattle.avro_value.proofs.json_pick.mapped.Given as goal

-- the fields so far have their parts
abbrev pub invariant-loop-field : goal.invariant-loop-field
invariant-loop-field l =
    (s : SchemaValue) (ts : Fields) → StandForFields s l.fields ts → (t : Tree) (ms : Members) → StandForMembers t l.members ms → PartsLeft s t (drop l.field-index l.fields) l.parts.items ms ts
