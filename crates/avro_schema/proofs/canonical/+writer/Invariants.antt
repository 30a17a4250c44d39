use Rattle.std.proofs.Common.{◌≡◌, ◌+◌, ◌*◌, ◌++◌, drop}
use Rattle.avro_schema.specs.Forms.{types_of, branches_at, fields_at}
use Rattle.avro_schema.specs.Canonical.{branch_list, branches_behind, field_list, fields_behind}
use Rattle.avro_schema.proofs.canonical.+writer.Given as goal

abbrev pub decreases-write_type : goal.decreases-write_type
decreases-write_type l = 2 * l.node + 1

abbrev pub decreases-write_branches : goal.decreases-write_branches
decreases-write_branches l = 2 * l.node

abbrev pub decreases-write_fields : goal.decreases-write_fields
decreases-write_fields l = 2 * l.node

abbrev pub invariant-write_branches-loop-branch : goal.invariant-write_branches-loop-branch
invariant-write_branches-loop-branch l = l.fn.text ++ branch_list (branches_at (types_of l.fn.nodes.items) l.branches.items) ≡ l.text ++ branches_behind l.first (branches_at (types_of l.fn.nodes.items) (drop l.branch-index l.branches.items))

abbrev pub invariant-write_fields-loop-field : goal.invariant-write_fields-loop-field
invariant-write_fields-loop-field l = l.fn.text ++ field_list (fields_at (types_of l.fn.nodes.items) l.fields.items) ≡ l.text ++ fields_behind l.first (fields_at (types_of l.fn.nodes.items) (drop l.field-index l.fields.items))
