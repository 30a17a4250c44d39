-- From parts that were read to the type that has them.
use Rattle.std.proofs.Common.{◌≡◌, ℕ, ◌<◌, List, [], ◌∷◌, ◌++◌, length, Bool, Result, IfOk, IfErr, refl, sym, ap, ◌∙◌}
use Rattle.std.specs.Prelude.{codes}
use Rattle.std.specs.List.{All}
use Rattle.json_span.specs.Json.{Items, Members}
use Rattle.json_span.specs.declared.tree.Tree.{Tree}
use Rattle.avro_schema.specs.Types as types
use Rattle.avro_schema.specs.Types.{AvroType, Branches, Fields, definitions, branch_definitions, field_definitions}
use Rattle.avro_schema.specs.Forms.{type_of, types_of, branches_at, fields_at, AreBefore, IsNamed}
use Rattle.avro_schema.specs.Reading.{Outcome, Reader, reads, union_read, branches_read, record_read, fields_of}
use Rattle.avro_names.specs.Outcomes.{next}
use Rattle.avro_names.specs.MemberNames.{defined_name}
use Rattle.json_span.specs.Parts.{last_member}
use Rattle.avro_names.specs.Names.{namespace_of}
use Rattle.avro_schema.specs.Building.{names_of, Tells, MakesFields, NamesNew, Finishes, BranchesSoFar}
use Rattle.avro_names.specs.Outcomes.{Why}
use Rattle.avro_schema.specs.declared.parts.Form.{Form}
use Rattle.avro_schema.specs.declared.parts.Form.TheVariants.{Named}
use Rattle.avro_schema.specs.declared.parts.Field.{Field}
use Rattle.avro_schema.specs.declared.parts.Parts.{Parts}
use Rattle.avro_names.specs.declared.error.SchemaNo.{SchemaNo}
use Rattle.avro_names.specs.declared.error.SchemaNo.TheVariants.{Want}
use Rattle.avro_names.proofs.Outcomes.{next_ok, why_along, why_first}
use Rattle.avro_schema.proofs.Growth.{tells_push}
use Rattle.avro_schema.proofs.Closing.{named_names, closed_tells}
use Rattle.avro_schema.proofs.BranchLoops.{branches_done}

pub union_tells : (tree : Tree) (below : Reader) (namespace : List ℕ) (js : Items) (p q r : Parts) (left cs : List ℕ) (f : Form) (res : Result ℕ SchemaNo) → left ≡ [] → BranchesSoFar tree below namespace js p q left cs
    → ((n : ℕ) → All (λ k. k < n) cs → AreBefore n f) → IsNamed (types_of q.nodes.items) f → ((m : List ℕ) (e : ℕ) → f ≡ Named m e → ⊥) → ((ts : List AvroType) → type_of ts f ≡ types.union (branches_at ts cs))
    → IfOk res (λ n. (n ≡ length q.nodes.items) × (r.nodes.items ≡ q.nodes.items ++ (f ∷ []))) → IfErr res (λ e. e ≡ Want) → r.definitions ≡ q.definitions → Tells (union_read below (names_of p) namespace js) p r res
union_tells tree below namespace js p q r left cs f res e s before kept plain type ok want d =
    tells_push _ p q r f (types.union (branches_at (types_of q.nodes.items) cs)) res (branch_definitions (branches_at (types_of q.nodes.items) cs)) s.grows
    (next_ok (branches_read below (names_of p) namespace [] js) (record { value = branches_at (types_of q.nodes.items) cs; names = names_of q }) (λ bs. reads (types.union bs.value) bs.names) (branches_done tree below namespace js p q left cs e s))
    ok want d (before (length q.nodes.items) s.inside) kept (λ m n x. absurd (plain m n x)) (type (types_of q.nodes.items)) refl

pub union_why : (below : Reader) (names : List (List ℕ)) (namespace : List ℕ) (js : Items) (e : SchemaNo) → Why (branches_read below names namespace [] js) e → Why (union_read below names namespace js) e
union_why below names namespace js e w = why_first _ (λ bs. reads (types.union bs.value) bs.names) e w

module _ (canonical : Bool) (below : Reader) (namespace : List ℕ) (ms : Members) (p q : Parts) (name within : List ℕ) (d : ℕ) (n : NamesNew (defined_name canonical (names_of p) namespace ms) p q name d) (inner : within ≡ namespace_of name) where
  rest : List ℕ → Outcome AvroType
  rest m = next (fields_of below (names_of p ++ (m ∷ [])) (namespace_of m) (last_member (codes "fields") ms)) (λ fs. reads (types.record_ m fs.value) fs.names)

  inside_is : fields_of below (names_of p ++ (name ∷ [])) (namespace_of name) (last_member (codes "fields") ms) ≡ fields_of below (names_of q) within (last_member (codes "fields") ms)
  inside_is = ap (λ ns. fields_of below ns (namespace_of name) (last_member (codes "fields") ms)) (sym (named_names _ p q name d n)) ∙ ap (λ x. fields_of below (names_of q) x (last_member (codes "fields") ms)) (sym inner)

  record_is : record_read canonical below (names_of p) namespace ms ≡ next (fields_of below (names_of q) within (last_member (codes "fields") ms)) (λ fs. reads (types.record_ name fs.value) fs.names)
  unfolding rest
  record_is = next_ok (defined_name canonical (names_of p) namespace ms) name rest n.is ∙ ap (λ o. next o (λ fs. reads (types.record_ name fs.value) fs.names)) inside_is

  pub record_why : (e : SchemaNo) → Why (fields_of below (names_of q) within (last_member (codes "fields") ms)) e → Why (record_read canonical below (names_of p) namespace ms) e
  record_why e w = why_along _ _ e record_is (why_first _ (λ fs. reads (types.record_ name fs.value) fs.names) e w)

  pub record_tells : (r s : Parts) (vs : List Field) (f : Form) (res : Result ℕ SchemaNo) → MakesFields (fields_of below (names_of q) within (last_member (codes "fields") ms)) q r vs
      → ((k : ℕ) → All (λ v. v.node < k) vs → AreBefore k f) → ((ts : List AvroType) → IsNamed ts f) → ((m : List ℕ) (e : ℕ) → f ≡ Named m e → ⊥) → ((ts : List AvroType) → type_of ts f ≡ types.record_ name (fields_at ts vs))
      → IfOk res (Finishes r s d f) → IfErr res (λ e. e ≡ Want) → Tells (record_read canonical below (names_of p) namespace ms) p s res
  record_tells r s vs f res m before kept plain type fin want =
      closed_tells _ _ p q r s name d (field_definitions (fields_at (types_of r.nodes.items) vs)) f (types.record_ name (fields_at (types_of r.nodes.items) vs)) res n m.grows fin want
      (before (length r.nodes.items) m.inside) (kept (types_of r.nodes.items)) (λ x e y. plain x e y) (type (types_of r.nodes.items)) refl
      (record_is ∙ next_ok _ (record { value = fields_at (types_of r.nodes.items) vs; names = names_of r }) (λ fs. reads (types.record_ name fs.value) fs.names) m.is)
