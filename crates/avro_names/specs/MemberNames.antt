-- How the members of a JSON object name a type, a field or a symbol (Apache Avro 1.11 specification, "Names").
use Rattle.std.specs.Prelude.{◌≡◌, ℕ, List, [], ◌∷◌, ◌++◌, Bool, cond, ◌||◌, codes, Option, Some, None, Result, Ok, Err, ⊤}
use Rattle.std.specs.Borrow.{Bor}
use Rattle.json_span.specs.Json.{Json, Items, Members, text, array, no_items, item}
use Rattle.json_token.specs.Chars.{content}
use Rattle.json_span.specs.Nodes.{StandForItems}
use Rattle.json_span.specs.Parts.{last_member, IsTextOf}
use Rattle.json_span.specs.declared.tree.Tree.{Tree}
use Rattle.avro_names.specs.Names.{is_part, is_definable, has_dot, in_namespace}
use Rattle.avro_names.specs.NameList.{is_among}
use Rattle.avro_names.specs.Outcomes.{next}
use Rattle.avro_names.specs.declared.error.SchemaNo.{SchemaNo}
use Rattle.avro_names.specs.declared.error.SchemaNo.TheVariants.{BadType, Redefined, BadName}

-- a name as a fullname; in canonical reading it is one
abbrev pub full_name : Bool → List ℕ → List ℕ → List ℕ
full_name canonical namespace name = cond (canonical || has_dot name) name (in_namespace namespace name)

-- a name without dots is in the namespace that its object gives, or else in the enclosing one
abbrev pub name_in : List ℕ → List ℕ → Option Json → Result (List ℕ) SchemaNo
name_in namespace name None = Ok (in_namespace namespace name)
name_in namespace name (Some (text s)) = Ok (in_namespace (content s) name)
name_in namespace name (Some j) = Err BadType

-- the fullname that an object gives; in canonical reading each name is one
abbrev pub given_name : Bool → List ℕ → Option Json → Option Json → Result (List ℕ) SchemaNo
given_name canonical enclosing (Some (text s)) namespace = cond (canonical || has_dot (content s)) (Ok (content s)) (name_in enclosing (content s) namespace)
given_name canonical enclosing (Some j) namespace = Err BadType
given_name canonical enclosing None namespace = Err BadType

abbrev pub new_name : List (List ℕ) → List ℕ → Result (List ℕ) SchemaNo
new_name names name = cond (is_among name names) (Err Redefined) (cond (is_definable name) (Ok name) (Err BadName))

-- the fullname of the type that an object defines
unfoldable pub defined_name : Bool → List (List ℕ) → List ℕ → Members → Result (List ℕ) SchemaNo
defined_name canonical names enclosing ms = next (given_name canonical enclosing (last_member (codes "name") ms) (last_member (codes "namespace") ms)) (new_name names)

-- a field's name or a symbol, after those before it
abbrev pub part_name : List (List ℕ) → Option Json → Result (List ℕ) SchemaNo
part_name seen (Some (text s)) = cond (is_part (content s)) (cond (is_among (content s) seen) (Err BadType) (Ok (content s))) (Err BadName)
part_name seen (Some j) = Err BadType
part_name seen None = Err BadType

-- the symbols of an enum, after those before them
abbrev pub symbols_read : List (List ℕ) → Items → Result (List (List ℕ)) SchemaNo
symbols_read seen no_items = Ok []
symbols_read seen (item j js) = next (part_name seen (Some j)) (λ name. next (symbols_read (seen ++ (name ∷ [])) js) (λ rest. Ok (name ∷ rest)))

abbrev pub symbols_of : Option Json → Result (List (List ℕ)) SchemaNo
symbols_of (Some (array js)) = symbols_read [] js
symbols_of (Some j) = Err BadType
symbols_of None = Err BadType

-- ---- only private clauses cite what follows

-- the text of a member that is there and is one
abbrev pub IsTextMember : Option Json → Option (Bor (List ℕ)) → Type 0
IsTextMember None None = ⊤
IsTextMember None (Some t) = ⊥
IsTextMember (Some j) r = IsTextOf j r

-- the symbols so far, and what is read of the rest behind them
pub record SymbolsSoFar (tree : Tree) (js : Items) (rest : List ℕ) (seen : List (List ℕ)) : Type 0 where
  pub left : Items
  pub stand : StandForItems tree rest left
  pub ok : (ss : List (List ℕ)) → symbols_read seen left ≡ Ok ss → symbols_read [] js ≡ Ok (seen ++ ss)
  pub err : (e : SchemaNo) → symbols_read seen left ≡ Err e → symbols_read [] js ≡ Err e
