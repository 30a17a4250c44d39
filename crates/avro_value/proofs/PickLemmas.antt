-- From the nodes that stand for the parts of a type, to the parts at a place.
use Rattle.std.proofs.Common.{◌≡◌, ℕ, zero, suc, List, [], ◌∷◌, length, slice_get, Option, Some, refl, ap, ◌∙◌}
use Rattle.avro_schema.specs.Types as schema
use Rattle.avro_schema.specs.Types.{AvroType, Branches, Fields, resolved}
use Rattle.avro_schema.specs.declared.parts.Field.{Field}
use Rattle.avro_schema.specs.Nodes.{SchemaValue, Stands, Resolves, tree_of, StandForBranches, StandForFields}
use Rattle.avro_value.specs.Judging.{branch_at}
use Rattle.avro_value.specs.Judging.{number_of}
use Rattle.avro_value.specs.Picks.{Picks}

some_is : (t u : AvroType) (o : Option AvroType) → o ≡ Some t → o ≡ Some u → t ≡ u
some_is t u o p q = cc

-- the type that a node resolves to
pub resolves_is : (s : SchemaValue) (k : ℕ) (t u : AvroType) → Stands s k t → Resolves s k u → resolved (tree_of s) t ≡ u
resolves_is s k t u stands is = ap (resolved (tree_of s)) (some_is _ _ _ stands is.1) ∙ is.2

pub branch_stands : (s : SchemaValue) (ks : List ℕ) (ts : Branches) (n : ℕ) → StandForBranches s ks ts → Picks s (slice_get ks n) (branch_at ts n)
branch_stands s [] schema.no_branches n is = refl
branch_stands s [] (schema.branch t ts) n is = absurd is
branch_stands s (k ∷ ks) schema.no_branches n is = absurd is
branch_stands s (k ∷ ks) (schema.branch t ts) zero is = (t, refl, is.0)
branch_stands s (k ∷ ks) (schema.branch t ts) (suc n) is = branch_stands s ks ts n is.1

-- as many fields as nodes
pub fields_number : (s : SchemaValue) (fs : List Field) (ts : Fields) → StandForFields s fs ts → number_of ts ≡ length fs
fields_number s [] schema.no_fields is = refl
fields_number s [] (schema.field name t ts) is = absurd is
fields_number s (f ∷ fs) schema.no_fields is = absurd is
fields_number s (f ∷ fs) (schema.field name t ts) is = ap suc (fields_number s fs ts is.2)
