-- What a reader returned is what the definition gives, unless memory ran out.
use Rattle.std.specs.Prelude.{◌≡◌, Option, Some, None, Result, Ok, Err, ⊤, List, map, ℕ}
use Rattle.rest_calls.specs.declared.unread.Unread.{Unread}
use Rattle.rest_calls.specs.declared.unread.Unread.TheVariants.{Unreadable, Invalid, Want}
use Rattle.broker_link.specs.Fetching.{at_of}
use Rattle.broker_link.specs.Places.{place_of}
use Rattle.broker_link.specs.declared.fetch.TopicPart.{TopicPart}
use Rattle.broker_link.specs.declared.place.Place.{Place}
use Rattle.model.specs.state.Log.{TopicPart as Part}
use Rattle.model.specs.step.Walk.{Place as Sought}
use Rattle.model.specs.state.World.{Settings}
use Rattle.rest_calls.specs.Reading.{Read, Calls, Refuses}
use Rattle.rest_calls.specs.Views.{asked_of, name_in, settings_of, HasRecords, HasFewRecords, PartitionsFit}
use Rattle.rest_calls.specs.declared.call.Call.{Call}
use Rattle.rest_calls.specs.declared.create.Created.{Created}

-- what doesn't read has no value; nothing else is wrong with it
abbrev pub Fails : {Y : Type 0} → Unread → Option Y → Type 0
Fails Want read = ⊤
Fails Unreadable read = read ≡ None
Fails Invalid read = ⊥

-- seen so, the value that was read is the one of the definition, and a refusal says that there is none
abbrev pub Reads : {X Y : Type 0} → (X → Y) → Result X Unread → Option Y → Type 0
Reads seen (Ok x) read = read ≡ Some (seen x)
Reads seen (Err e) read = Fails e read

-- the same of a relation: seen so, this was read, or nothing was
abbrev pub ReadsAs : {X Y : Type 0} → (X → Y) → Result X Unread → (Option Y → Type 0) → Type 0
ReadsAs seen (Ok x) Is = Is (Some (seen x))
ReadsAs seen (Err Unreadable) Is = Is None
ReadsAs seen (Err Invalid) Is = ⊥
ReadsAs seen (Err Want) Is = ⊤

-- seen so, this was read, or the refusal has this code: 422 for what doesn't read, 42204 for what isn't allowed
abbrev pub Gives : {X Y : Type 0} → (X → Y) → Result X Unread → (Result Y ℕ → Type 0) → Type 0
Gives seen (Ok x) Is = Is (Ok (seen x))
Gives seen (Err Unreadable) Is = Is (Err 422)
Gives seen (Err Invalid) Is = Is (Err 42204)
Gives seen (Err Want) Is = ⊤

-- the request reads as this call, or the refusal has this code
abbrev pub GivesCall : Result Call Unread → (Read → Type 0) → Type 0
GivesCall (Ok call) Is = Is (Calls (asked_of call))
GivesCall (Err Unreadable) Is = Is (Refuses 422)
GivesCall (Err Invalid) Is = Is (Refuses 42204)
GivesCall (Err Want) Is = ⊤

-- a name, empty where there is none, and settings
abbrev pub created_view : Created → List ℕ × Settings
created_view made = (name_in made.name, settings_of made.settings)

-- what holds of each call's records
abbrev pub IsWhole : Call → Type 0
IsWhole call = HasRecords call × HasFewRecords call × PartitionsFit call

-- the parts in the model's terms
abbrev pub parts_view : List TopicPart → List Part
parts_view parts = map at_of parts

-- and the places
abbrev pub places_view : List Place → List Sought
places_view places = map place_of places
