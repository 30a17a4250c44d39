-- From a fullname and its symbols or size to an enum or a fixed.
use Rattle.std.proofs.Common.{◌≡◌, ℕ, List, [], ◌∷◌, ◌++◌, Bool, true, false, cond, Ok, Err, inl, sym, ap, ◌∙◌}
use Rattle.std.specs.Prelude.{codes}
use Rattle.json_span.specs.Json.{Members}
use Rattle.avro_names.specs.Names.{are_parts, is_definable}
use Rattle.avro_names.specs.MemberNames.{given_name, new_name, defined_name, symbols_of}
use Rattle.avro_names.specs.Outcomes.{next}
use Rattle.avro_schema.specs.Reading.{reads, size_of, enum_read, fixed_read}
use Rattle.avro_names.specs.NameList.{is_among}
use Rattle.json_span.specs.Parts.{last_member}
use Rattle.avro_schema.specs.Types.{enum_, fixed}
use Rattle.avro_names.specs.Outcomes.{Why}
use Rattle.avro_schema.specs.Building.{names_of}
use Rattle.avro_names.specs.Definitions.{FirstNamed}
use Rattle.avro_schema.specs.declared.parts.Parts.{Parts}
use Rattle.avro_names.specs.declared.error.SchemaNo.{SchemaNo}
use Rattle.avro_names.specs.declared.error.SchemaNo.TheVariants.{Redefined, BadName}
use Rattle.avro_names.proofs.Outcomes.{next_ok, why_first, why_next}
use Rattle.avro_names.proofs.DefinitionLemmas.{first_among}
use Rattle.avro_names.proofs.NameLemmas.{and_first}

pub enum_is : (canonical : Bool) (p : Parts) (enclosing : List ℕ) (ms : Members) (name : List ℕ) (symbols names : List (List ℕ)) → defined_name canonical (names_of p) enclosing ms ≡ Ok name → symbols_of (last_member (codes "symbols") ms) ≡ Ok symbols
    → names ≡ names_of p ++ (name ∷ []) → enum_read canonical (names_of p) enclosing ms ≡ Ok (record { value = enum_ name symbols; names = names })
enum_is canonical p enclosing ms name symbols names is symbols_are names_are =
    next_ok _ name (λ n. next (symbols_of (last_member (codes "symbols") ms)) (λ ss. reads (enum_ n ss) (names_of p ++ (n ∷ [])))) is
    ∙ next_ok _ symbols (λ ss. reads (enum_ name ss) (names_of p ++ (name ∷ []))) symbols_are ∙ ap (λ ns. reads (enum_ name symbols) ns) (sym names_are)

pub fixed_is : (canonical : Bool) (p : Parts) (enclosing : List ℕ) (ms : Members) (name : List ℕ) (size : ℕ) (names : List (List ℕ)) → defined_name canonical (names_of p) enclosing ms ≡ Ok name → size_of (last_member (codes "size") ms) ≡ Ok size
    → names ≡ names_of p ++ (name ∷ []) → fixed_read canonical (names_of p) enclosing ms ≡ Ok (record { value = fixed name size; names = names })
fixed_is canonical p enclosing ms name size names is size_is names_are =
    next_ok _ name (λ n. next (size_of (last_member (codes "size") ms)) (λ s. reads (fixed n s) (names_of p ++ (n ∷ [])))) is
    ∙ next_ok _ size (λ s. reads (fixed name s) (names_of p ++ (name ∷ []))) size_is ∙ ap (λ ns. reads (fixed name size) ns) (sym names_are)
