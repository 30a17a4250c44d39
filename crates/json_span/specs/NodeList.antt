-- Nodes of a tree as they are kept: each in few bytes, and its text, items or members in a list beside them.
-- Only private clauses cite it.
use Rattle.std.specs.Prelude.{◌≡◌, ℕ, ◌<◌, List, [], ◌∷◌, length, get_or, Option, Some, None, ⊤}
use Rattle.std.specs.Borrow.{Bor}
use Rattle.json_span.specs.declared.beside.Beside.{Beside}
use Rattle.json_span.specs.declared.small.Small.{Small}
use Rattle.json_span.specs.declared.small.Kept.{Kept}
use Rattle.json_span.specs.declared.small.Kept.TheVariants.{Null as KeptNull, Bool as KeptFlag, Number as KeptNumber, Plain as KeptPlain, Escaped as KeptText, NoItems, Array as KeptItems, NoMembers, Object as KeptMembers}
use Rattle.json_span.specs.declared.tree.Node.{Node}
use Rattle.json_span.specs.declared.tree.Form.{Form}
use Rattle.json_span.specs.declared.tree.Form.TheVariants.{Null, Bool as Flag, Number, Plain, Escaped, Array, Object}
use Rattle.json_span.specs.declared.tree.Kind.{Kind}
use Rattle.json_span.specs.declared.tree.Kind.TheVariants as kinds

-- the place is one of the list that it is of
abbrev pub IsKept : Beside → Kept → Type 0
IsKept b KeptNull = ⊤
IsKept b (KeptFlag v) = ⊤
IsKept b KeptNumber = ⊤
IsKept b KeptPlain = ⊤
IsKept b (KeptText place) = place < length b.texts.items
IsKept b NoItems = ⊤
IsKept b (KeptItems place) = place < length b.arrays.items
IsKept b NoMembers = ⊤
IsKept b (KeptMembers place) = place < length b.objects.items

abbrev pub AreKept : Beside → List Small → Type 0
AreKept b [] = ⊤
AreKept b (s ∷ ss) = IsKept b s.kept × AreKept b ss

-- the form that is kept
abbrev pub form_in : Beside → Kept → Form
form_in b KeptNull = Null
form_in b (KeptFlag v) = Flag v
form_in b KeptNumber = Number
form_in b KeptPlain = Plain
form_in b (KeptText place) = Escaped (get_or b.texts.items place [])
form_in b NoItems = Array []
form_in b (KeptItems place) = Array (get_or b.arrays.items place [])
form_in b NoMembers = Object []
form_in b (KeptMembers place) = Object (get_or b.objects.items place [])

abbrev pub node_in : Beside → Small → Node
node_in b s = record { start = s.start; end = s.end; form = form_in b s.kept }

-- the nodes that are kept, in order
abbrev pub nodes_in : Beside → List Small → List Node
nodes_in b [] = []
nodes_in b (s ∷ ss) = node_in b s ∷ nodes_in b ss

-- what was kept still is
pub record Grows (old new : Beside) : Type 0 where
  pub fits : (k : Kept) → IsKept old k → IsKept new k
  pub same : (k : Kept) → IsKept old k → form_in new k ≡ form_in old k

-- what a form says of its node
abbrev pub kind_of_form : Form → Kind
kind_of_form Null = kinds.Null
kind_of_form (Flag b) = kinds.Bool b
kind_of_form Number = kinds.Number
kind_of_form Plain = kinds.Text
kind_of_form (Escaped t) = kinds.Text
kind_of_form (Array v) = kinds.Array
kind_of_form (Object v) = kinds.Object

-- the text that a form has, or it has none
abbrev pub IsEscaped : Form → Option (Bor (List ℕ)) → Type 0
IsEscaped form (Some t) = form ≡ Escaped t.now
IsEscaped form None = (t : List ℕ) → form ≡ Escaped t → ⊥

-- what is kept says it too
abbrev pub kind_kept : Kept → Kind
kind_kept KeptNull = kinds.Null
kind_kept (KeptFlag v) = kinds.Bool v
kind_kept KeptNumber = kinds.Number
kind_kept KeptPlain = kinds.Text
kind_kept (KeptText place) = kinds.Text
kind_kept NoItems = kinds.Array
kind_kept (KeptItems place) = kinds.Array
kind_kept NoMembers = kinds.Object
kind_kept (KeptMembers place) = kinds.Object
