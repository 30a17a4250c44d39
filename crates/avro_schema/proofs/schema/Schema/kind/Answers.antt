use Rattle.avro_schema.proofs.Found as found
use Rattle.avro_schema.proofs.schema.Schema.kind.Goals as goal

pub form_of-requires-clause-inside : goal.form_of-requires-clause-inside
form_of-requires-clause-inside c = found.has_node _ _ _ _ c.self.view_is c.self.invariant _ _ c.requires.1

pub kind_in-requires : goal.kind_in-requires
kind_in-requires c = (c.form_of.ensures _ c.self.invariant).plain

pub returns-clause-value : goal.returns-clause-value
returns-clause-value c = λ u r. rw c.kind_in.ensures (found.kind_is _ _ _ _ c.self.view_is c.self.invariant _ _ (c.form_of.ensures _ c.self.invariant) u r)

pub returns-clause-is : goal.returns-clause-is
returns-clause-is c = rw c.kind_in.ensures (found.is_kind _ _ _ _ c.self.view_is c.self.invariant _ _ _ (c.form_of.ensures _ c.self.invariant) c.requires.1)
