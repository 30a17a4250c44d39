use Rattle.avro_schema.proofs.Found as found
use Rattle.avro_schema.proofs.schema.Schema.branches.Goals as goal

pub form_of-requires-clause-inside : goal.form_of-requires-clause-inside
form_of-requires-clause-inside c = found.has_node _ _ _ _ c.self.view_is c.self.invariant _ _ c.requires.1.1

pub returns : goal.returns
returns c = λ bs r. rw c.branches_in.ensures (found.branches_are _ _ _ _ c.self.view_is c.self.invariant _ _ (c.form_of.ensures _ c.self.invariant) bs r)
