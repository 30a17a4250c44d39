-- From an object's members to the fullname that it defines.
use Rattle.std.proofs.Common.{◌≡◌, ℕ, List, [], ◌∷◌, ◌++◌, Bool, true, false, cond, Ok, Err, inl, sym, ap, ◌∙◌}
use Rattle.std.specs.Prelude.{codes}
use Rattle.json_span.specs.Json.{Members}
use Rattle.json_span.specs.Parts.{last_member}
use Rattle.avro_names.specs.Names.{are_parts, is_definable}
use Rattle.avro_names.specs.NameList.{is_among}
use Rattle.avro_names.specs.MemberNames.{given_name, new_name, defined_name}
use Rattle.avro_names.specs.Outcomes.{Why}
use Rattle.avro_names.specs.Definitions.{FirstNamed, names_in}
use Rattle.avro_names.specs.declared.definitions.Definition.{Definition}
use Rattle.avro_names.specs.declared.error.SchemaNo.{SchemaNo}
use Rattle.avro_names.specs.declared.error.SchemaNo.TheVariants.{Redefined, BadName}
use Rattle.avro_names.proofs.Outcomes.{next_ok, why_first, why_next}
use Rattle.avro_names.proofs.DefinitionLemmas.{first_among}
use Rattle.avro_names.proofs.NameLemmas.{and_first}

pub definable_parts : (name : List ℕ) → is_definable name ≡ true → are_parts name ≡ true
unfolding is_definable
definable_parts name h = and_first _ _ h

module _ (canonical : Bool) (xs : List Definition) (enclosing : List ℕ) (ms : Members) where
  pub name_refused : (e : SchemaNo) → Why (given_name canonical enclosing (last_member (codes "name") ms) (last_member (codes "namespace") ms)) e → Why (defined_name canonical (names_in xs) enclosing ms) e
  unfolding defined_name
  name_refused e w = why_first _ (new_name (names_in xs)) e w

  pub redefined : (name : List ℕ) (d : ℕ) → given_name canonical enclosing (last_member (codes "name") ms) (last_member (codes "namespace") ms) ≡ Ok name → FirstNamed xs name d
      → Why (defined_name canonical (names_in xs) enclosing ms) Redefined
  unfolding defined_name
  redefined name d is first = why_next _ name (new_name (names_in xs)) Redefined is (inl (ap (λ t. cond t (Err Redefined) (cond (is_definable name) (Ok name) (Err BadName))) (first_among xs name d first)))

  pub bad_name : (name : List ℕ) → given_name canonical enclosing (last_member (codes "name") ms) (last_member (codes "namespace") ms) ≡ Ok name → is_among name (names_in xs) ≡ false → is_definable name ≡ false
      → Why (defined_name canonical (names_in xs) enclosing ms) BadName
  unfolding defined_name
  bad_name name is new bad = why_next _ name (new_name (names_in xs)) BadName is (inl (ap (λ t. cond t (Err Redefined) (cond (is_definable name) (Ok name) (Err BadName))) new ∙ ap (λ t. cond t (Ok name) (Err BadName)) bad))

  pub name_defined : (name : List ℕ) → given_name canonical enclosing (last_member (codes "name") ms) (last_member (codes "namespace") ms) ≡ Ok name → is_among name (names_in xs) ≡ false → is_definable name ≡ true
      → defined_name canonical (names_in xs) enclosing ms ≡ Ok name
  unfolding defined_name
  name_defined name is new good = next_ok _ name (new_name (names_in xs)) is ∙ ap (λ t. cond t (Err Redefined) (cond (is_definable name) (Ok name) (Err BadName))) new ∙ ap (λ t. cond t (Ok name) (Err BadName)) good
