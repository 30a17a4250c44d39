-- What the look-ups of a tree say, by the values that its nodes stand for.
use Rattle.std.specs.Prelude.{ℕ, List}
use Rattle.json_span.specs.Json.{Json, Items, Members, null, boolean, number, text, array, object}
use Rattle.json_span.specs.Tree.{StandsIn, ItemsIn, MembersIn, IsRead}
use Rattle.json_span.specs.declared.tree.Tree.{Tree}
use Rattle.json_span.specs.declared.tree.Member.{Member}
use Rattle.json_span.specs.declared.tree.Kind.{Kind}
use Rattle.json_span.specs.declared.tree.Kind.TheVariants.{Null, Bool as Flag, Number, Text, Array, Object}

-- the node stands for the value
abbrev pub Stands : Tree → ℕ → Json → Type 0
Stands t node j = StandsIn t.nodes t.source.items node j

-- these nodes stand for the items, in order
abbrev pub StandForItems : Tree → List ℕ → Items → Type 0
StandForItems t nodes js = ItemsIn t.nodes t.source.items nodes js

-- these members have the names, and their nodes stand for the values, in order
abbrev pub StandForMembers : Tree → List Member → Members → Type 0
StandForMembers t members ms = MembersIn t.nodes t.source.items members ms

-- the tree has the node
abbrev pub HasNode : Tree → ℕ → Type 0
HasNode t node = (j : Json) × Stands t node j

-- the node at which the tree's value stands
abbrev pub root_of : Tree → ℕ
root_of t = t.root

-- the tree is that of the text
abbrev pub IsTreeOf : List ℕ → Tree → Type 0
IsTreeOf bytes t = IsRead bytes t.nodes t.source.items t.root

-- what a value is
abbrev pub kind_of : Json → Kind
kind_of null = Null
kind_of (boolean b) = Flag b
kind_of (number s) = Number
kind_of (text s) = Text
kind_of (array js) = Array
kind_of (object ms) = Object

-- the node stands for a value of that kind
abbrev pub IsOfKind : Tree → ℕ → Kind → Type 0
IsOfKind t node Null = Stands t node null
IsOfKind t node (Flag b) = Stands t node (boolean b)
IsOfKind t node Number = (s : List ℕ) × Stands t node (number s)
IsOfKind t node Text = (s : List ℕ) × Stands t node (text s)
IsOfKind t node Array = (js : Items) × Stands t node (array js)
IsOfKind t node Object = (ms : Members) × Stands t node (object ms)
