-- What the look-ups of parts say: the text that a value is, an array's items, and the last member of a name.
use Rattle.std.specs.Prelude.{◌≡◌, ℕ, List, cond, Option, Some, None, ⊤}
use Rattle.std.specs.Borrow.{Bor}
use Rattle.std.specs.Str.{bytes_eq}
use Rattle.json_span.specs.Json.{Json, Items, Members, text, array, no_members, member}
use Rattle.json_token.specs.Chars.{content}
use Rattle.json_span.specs.Nodes.{Stands, StandForItems, StandForMembers}
use Rattle.json_span.specs.declared.tree.Tree.{Tree}
use Rattle.json_span.specs.declared.tree.Member.{Member}

-- the second, unless there is a first
abbrev pub later : Option Json → Option Json → Option Json
later (Some j) o = Some j
later None o = o

-- the value of the last member of this name
abbrev pub last_member : List ℕ → Members → Option Json
last_member name no_members = None
last_member name (member s j ms) = later (last_member name ms) (cond (bytes_eq (content s) name) (Some j) None)

-- the node stands for the value, where there is one
abbrev pub IsMember : Tree → Option Json → Option ℕ → Type 0
IsMember tree None None = ⊤
IsMember tree None (Some k) = ⊥
IsMember tree (Some j) None = ⊥
IsMember tree (Some j) (Some k) = Stands tree k j

-- the text of a value that is one
abbrev pub IsTextOf : Json → Option (Bor (List ℕ)) → Type 0
IsTextOf j None = (s : List ℕ) → j ≡ text s → ⊥
IsTextOf j (Some t) = (s : List ℕ) × (j ≡ text s) × (t.now ≡ content s)

-- the nodes of the items of a value that is an array
abbrev pub AreItemsOf : Tree → Json → Option (Bor (List ℕ)) → Type 0
AreItemsOf tree j None = (js : Items) → j ≡ array js → ⊥
AreItemsOf tree j (Some t) = (js : Items) × (j ≡ array js) × StandForItems tree t.now js

-- of these members, whose last are still to be looked at, the last before them was found; only private proofs cite it
pub record FoundBefore (tree : Tree) (rest : List Member) (ms : Members) (name : List ℕ) (found : Option ℕ) : Type 0 where
  pub left : Members
  pub stand : StandForMembers tree rest left
  pub so_far : Option Json
  pub is : last_member name ms ≡ later (last_member name left) so_far
  pub node : IsMember tree so_far found
