-- The text of a record in a Records reply, as it is put together (Confluent REST Proxy API v2, consumer records).
use Rattle.std.specs.Prelude.{ℕ, ◌≡◌, ◌++◌, ⊤, Bool, cond, codes, decimal, List, [], Option, Some, None, Result, Ok, Err}
use Rattle.model.specs.state.World.{Format}
use Rattle.model.specs.state.Forms.{or_reason, reason_of}
use Rattle.model.specs.state.Forms.Showing.{Text}
use Rattle.model.specs.step.Walk.{Item}
use Rattle.model.specs.texts.Bodies.{item_text}
use Rattle.forms.specs.Shown.{showing}
use Rattle.forms.specs.declared.format.Format.{Format as Form}
use Rattle.forms.specs.declared.format.FormNo.{FormNo}
use Rattle.forms.specs.declared.format.FormNo.TheVariants as no
use Rattle.rest_replies.specs.Forms.{forms}

-- what stands before a record: the first one of a reply has no comma before it
abbrev pub comma_unless : (first : Bool) → List ℕ
comma_unless first = cond first [] (codes ",")

-- The text of the record was put behind a text, or the record doesn't read and the text is as it was, or there was no memory.
abbrev pub RowSo : (first : Bool) → Format → Item → (before now : List ℕ) → Result Unit FormNo → Type 0
RowSo first format item before now (Ok done) = (reason_of forms format item.row ≡ None) × (now ≡ before ++ (comma_unless first ++ item_text forms format item))
RowSo first format item before now (Err no.Json) = (reason_of forms format item.row ≡ Some 2) × (now ≡ before)
RowSo first format item before now (Err no.Base64) = ⊥
RowSo first format item before now (Err no.Want) = ⊤

-- what a record begins with
unfoldable pub opening_text : (first : Bool) → List ℕ
opening_text first = comma_unless first ++ codes "{\"topic\":"

-- its topic, whose name is quoted, and its key and its value as they are shown
unfoldable pub front_text : (topic key value : List ℕ) → List ℕ
front_text topic key value = topic ++ (codes ",\"key\":" ++ (key ++ (codes ",\"value\":" ++ value)))

-- These were put behind a text; or the key or the value isn't shown, whatever was put; or there was no memory.
abbrev pub FrontSo : Form → (topic : List ℕ) → (key value : Option (List ℕ)) → (before now : List ℕ) → Result Unit FormNo → Type 0
FrontSo format topic key value before now (Ok done) =
    (k : List ℕ) × (v : List ℕ) × (showing format key ≡ Text k) × (showing format value ≡ Text v) × (now ≡ before ++ front_text topic k v)
FrontSo format topic key value before now (Err no.Json) = (or_reason (showing format key) (showing format value) ≡ Some 2) × (rest : List ℕ) × (now ≡ before ++ rest)
FrontSo format topic key value before now (Err no.Base64) = ⊥
FrontSo format topic key value before now (Err no.Want) = ⊤

-- what it ends with: where it stands
unfoldable pub place_text : (partition offset : ℕ) → List ℕ
place_text partition offset =
    codes ",\"partition\":" ++ (decimal partition ++ (codes ",\"offset\":" ++ (decimal offset ++ codes "}")))
