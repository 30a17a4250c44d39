-- Where the reader of a JSON text stands between two bytes: what was read, and what the open arrays and objects hold.
-- Only private clauses cite it.
use Rattle.std.specs.Prelude.{◌≡◌, ℕ, ◌+◌, ◌<◌, ◌≤◌, List, [], ◌∷◌, ◌++◌, length, Bool, true, false, Option, Some, None, Result, Ok, Err, ◌⊎◌, ⊤}
use Rattle.json_span.specs.Json.{Json, Items, Members, no_items, item, no_members, member}
use Rattle.json_span.specs.Text.{compact}
use Rattle.json_token.specs.TokenEnds.{WordFails}
use Rattle.json_token.specs.Chars.{content, IsChars}
use Rattle.json_token.specs.declared.error.JsonNo.{JsonNo}
use Rattle.json_token.specs.declared.error.JsonNo.TheVariants.{BadByte, Cut, TooDeep, Want}
use Rattle.json_span.specs.Ahead.{Frame, in_array, in_object, join_items, join_members, Expect, AfterAt, FirstNameAt, NextNameAt}
use Rattle.json_span.specs.Reading.{ReadsTo}
use Rattle.json_span.specs.Tree.{StandsIn, ItemsIn, MembersIn}
use Rattle.json_span.specs.declared.tree.Node.{Node}
use Rattle.json_span.specs.declared.tree.Member.{Member}
use Rattle.json_span.specs.declared.tree.Form.{Form}
use Rattle.json_span.specs.declared.state.Open.{Open}
use Rattle.json_span.specs.declared.state.Open.TheVariants.{InArray, InObject}
use Rattle.json_span.specs.declared.state.Next.{Next}
use Rattle.json_span.specs.declared.state.Next.TheVariants.{Value, After}

-- the bytes of a name or a text with its quotes
abbrev pub quote : List ℕ → List ℕ
quote s = 34 ∷ (s ++ (34 ∷ []))

-- items, each with its comma
abbrev pub listed : Items → List ℕ
listed no_items = []
listed (item j js) = compact j ++ (44 ∷ listed js)

-- members, each with its comma
abbrev pub named : Members → List ℕ
named no_members = []
named (member s j ms) = quote s ++ (58 ∷ (compact j ++ (44 ∷ named ms)))

-- the source text up to the value that is read
abbrev pub opened : List Frame → List ℕ
opened [] = []
opened (in_array front ∷ frames) = opened frames ++ (91 ∷ listed front)
opened (in_object front s ∷ frames) = opened frames ++ (123 ∷ (named front ++ (quote s ++ (58 ∷ []))))

-- an open array or object holds the nodes of the frame, and begins behind so many bytes
abbrev pub HoldsOne : List Node → List ℕ → ℕ → Open → Frame → Type 0
HoldsOne nodes source start (InArray begins v) (in_array front) = (begins ≡ start) × ItemsIn nodes source v.items front
HoldsOne nodes source start (InObject begins v name) (in_object front s) = (begins ≡ start) × MembersIn nodes source v.items front × (name ≡ content s) × IsChars s
HoldsOne nodes source start (InArray begins v) (in_object front s) = ⊥
HoldsOne nodes source start (InObject begins v name) (in_array front) = ⊥

-- the open ones, outermost first, hold the frames, innermost first
abbrev pub Holds : List Node → List ℕ → List Open → List Frame → Type 0
Holds nodes source opens [] = opens ≡ []
Holds nodes source opens (f ∷ frames) = (outer : List Open) × (o : Open) × (opens ≡ outer ++ (o ∷ [])) × HoldsOne nodes source (length (opened frames)) o f × Holds nodes source outer frames

-- a value comes next
pub record AtValue (bytes : List ℕ) (place : ℕ) (first : Bool) (nodes : List Node) (source : List ℕ) (opens : List Open) : Type 0 where
  pub frames : List Frame
  pub reads : ReadsTo bytes place (Expect first frames)
  pub holds : Holds nodes source opens frames
  pub source_is : source ≡ opened frames
  pub few : length frames ≤ 127
  pub begun : first ≡ true → (outer : List Frame) × (frames ≡ in_array no_items ∷ outer)

-- a value was read, and its node is made
pub record AtEnd (bytes : List ℕ) (place node : ℕ) (nodes : List Node) (source : List ℕ) (opens : List Open) : Type 0 where
  pub frames : List Frame
  pub value : Json
  pub reads : ReadsTo bytes place (AfterAt frames value)
  pub holds : Holds nodes source opens frames
  pub source_is : source ≡ opened frames ++ compact value
  pub few : length frames ≤ 127
  pub stands : StandsIn nodes source node value

abbrev pub At : List ℕ → Next → ℕ → List Node → List ℕ → List Open → Type 0
At bytes (Value first) place nodes source opens = AtValue bytes place first nodes source opens
At bytes (After node) place nodes source opens = AtEnd bytes place node nodes source opens

-- out of memory, or the word doesn't stand at the place
abbrev pub WordStops : List ℕ → List ℕ → ℕ → JsonNo → Type 0
WordStops bytes word from (BadByte place) = WordFails bytes word from (BadByte place)
WordStops bytes word from Cut = WordFails bytes word from Cut
WordStops bytes word from TooDeep = ⊥
WordStops bytes word from Want = ⊤

-- a value comes next, or perhaps the end of an array
pub record AtAny (bytes : List ℕ) (place : ℕ) (nodes : List Node) (source : List ℕ) (opens : List Open) : Type 0 where
  pub first : Bool
  pub at : AtValue bytes place first nodes source opens

-- a name comes next in the object that is open
abbrev pub AtName : List ℕ → ℕ → List Frame → Members → Type 0
AtName bytes place frames front = (ReadsTo bytes place (FirstNameAt frames) × (front ≡ no_members)) ⊎ ReadsTo bytes place (NextNameAt frames front)

-- a name and its colon were read
pub record NamedTo (bytes : List ℕ) (from to : ℕ) (name old new : List ℕ) : Type 0 where
  pub s : List ℕ
  pub valid : IsChars s
  pub means : name ≡ content s
  pub source_is : new ≡ old ++ (quote s ++ (58 ∷ []))
  pub reads : (frames : List Frame) (front : Members) → AtName bytes from frames front → ReadsTo bytes to (Expect false (in_object front s ∷ frames))
  pub further : from < to

-- one node more, with this text behind the source
pub record Adds (old new : List Node) (source more : List ℕ) (form : Form) (source_now : List ℕ) (k : ℕ) : Type 0 where
  pub node : k ≡ length old
  pub nodes : new ≡ old ++ (record { start = length source; end = length source + length more; form = form } ∷ [])
  pub source_is : source_now ≡ source ++ more

-- an open array has the node as an item more, or an object is as it was
abbrev pub AddsItem : ℕ → Open → Open → Bool → Type 0
AddsItem node (InArray begins v) (InArray at w) true = (at ≡ begins) × (w.items ≡ v.items ++ (node ∷ []))
AddsItem node (InArray begins v) (InObject at w name) true = ⊥
AddsItem node (InObject begins v name) new true = ⊥
AddsItem node old new false = new ≡ old

-- the node was put behind the items of the innermost array, or nothing was done
abbrev pub PushesItem : ℕ → List Open → List Open → Bool → Type 0
PushesItem node old new true = (outer : List Open) × (o p : Open) × (old ≡ outer ++ (o ∷ [])) × (new ≡ outer ++ (p ∷ [])) × AddsItem node o p true
PushesItem node old new false = new ≡ old

-- the item and a comma are behind the reader, or nothing was done
abbrev pub ItemFollows : List ℕ → ℕ → ℕ → List ℕ → List ℕ → List Open → List Open → Option ℕ → Type 0
ItemFollows bytes place node source now opens new (Some at) = (place < at) × ((nodes : List Node) → AtEnd bytes place node nodes source opens → AtValue bytes at false nodes now new)
ItemFollows bytes place node source now opens new None = (now ≡ source) × (new ≡ opens)

-- an item of the innermost array was read, and its node is behind those of the others
pub record BehindItem (bytes : List ℕ) (place start : ℕ) (items : List ℕ) (nodes : List Node) (source : List ℕ) (opens : List Open) : Type 0 where
  pub frames : List Frame
  pub front : Items
  pub value : Json
  pub reads : ReadsTo bytes place (AfterAt (in_array front ∷ frames) value)
  pub begins : start ≡ length (opened frames)
  pub items_in : ItemsIn nodes source items (join_items front (item value no_items))
  pub holds : Holds nodes source opens frames
  pub source_is : source ≡ opened (in_array front ∷ frames) ++ compact value
  pub few : length frames < 127

-- a member of the innermost object was read
pub record BehindMember (bytes : List ℕ) (place start : ℕ) (members : List Member) (nodes : List Node) (source : List ℕ) (opens : List Open) : Type 0 where
  pub frames : List Frame
  pub front : Members
  pub s : List ℕ
  pub value : Json
  pub reads : ReadsTo bytes place (AfterAt (in_object front s ∷ frames) value)
  pub begins : start ≡ length (opened frames)
  pub members_in : MembersIn nodes source members (join_members front (member s value no_members))
  pub holds : Holds nodes source opens frames
  pub source_is : source ≡ opened (in_object front s ∷ frames) ++ compact value
  pub few : length frames < 127

-- a node that was made is what the reader goes on behind
abbrev pub then_after : Result (ℕ × ℕ) JsonNo → Result (Next × ℕ) JsonNo
then_after (Ok r) = Ok (After r.0, r.1)
then_after (Err e) = Err e

-- with the node of the value the innermost array or object goes on
abbrev pub BehindOpen : List ℕ → ℕ → ℕ → List Node → List ℕ → List Open → Open → Type 0
BehindOpen bytes place node nodes source outer (InArray begins v) = (items : List ℕ) → items ≡ v.items ++ (node ∷ []) → BehindItem bytes place begins items nodes source outer
BehindOpen bytes place node nodes source outer (InObject begins v name) = (members : List Member) (m : Member) → m.node ≡ node → m.name ≡ name → members ≡ v.items ++ (m ∷ []) → BehindMember bytes place begins members nodes source outer
