-- What a request asks for, or why it is refused: questions on brokers, topics and partitions, a produce of records in the binary or the
-- JSON format, and the calls of one consumer (Confluent REST Proxy API v2).
use Rattle.std.specs.Prelude.{◌≡◌, ℕ, ◌⊎◌, List, [], ◌∷◌, Option, Some, None, Result, Ok, Err, Bool, true, false}
use Rattle.serde_json.specs.Data.{Data}
use Rattle.model.specs.state.Log.{TopicPart}
use Rattle.model.specs.state.World.{Edge, Key, Settings}
use Rattle.model.specs.state.World.Edge.{Start, End}
use Rattle.model.specs.step.Walk.{Place as Sought}
use Rattle.model.specs.state.Entry.{Call, Given}
use Rattle.model.specs.state.Entry.Call.{Produce, Ask, Of}
use Rattle.model.specs.state.Entry.Question.{Brokers as AllBrokers, Topics as AllTopics, OneTopic, Parts, OnePart, EndOffsets as Edges}
use Rattle.model.specs.state.Entry.Act.{Create as Creates, Delete as Deletes, Subscription as AsksSubscription, Assign as Assigns, Assignments as AsksAssignments, Seek as Seeks, SeekEdge as SeeksEdge, Records as AsksRecords}
use Rattle.http_conn.specs.declared.request.Request.{Request}
use Rattle.rest_codes.specs.declared.response.Reply.{Reply}
use Rattle.rest_codes.specs.declared.response.Reply.TheVariants.{Want, NoMethod}
use Rattle.rest_codes.specs.Errors.{refusal_of}
use Rattle.rest_calls.specs.Views.{formats_in, key_in}
use Rattle.rest_routes.specs.Place.{Sent, Nowhere, Lacks, At, sent_of}
use Rattle.rest_routes.specs.declared.place.Place.{Place}
use Rattle.rest_routes.specs.declared.place.Place.TheVariants.{Brokers, Topics, Topic, Partition, Group, Instance}
use Rattle.rest_routes.specs.declared.place.TopicAsk.TheVariants as topic
use Rattle.rest_routes.specs.declared.place.PartitionAsk.TheVariants as partition
use Rattle.rest_calls.specs.Json.{IsJson}
use Rattle.rest_calls.specs.Body.{produced_by}
use Rattle.forms.specs.declared.format.Format.{Format}
use Rattle.rest_calls.specs.Create.{created_by, usual_settings}
use Rattle.rest_calls.specs.Assign.{assigned_by}
use Rattle.rest_calls.specs.Seek.{sought_by}
use Rattle.rest_routes.specs.Media.{accepted_formats, format_in, is_acceptable, is_supported}
use Rattle.rest_routes.specs.Query.{limits_of}
use Rattle.rest_routes.specs.declared.media.Accepted.{Accepted}
use Rattle.rest_routes.specs.declared.query.Limits.{Limits}
use Rattle.rest_routes.specs.declared.place.Ask.TheVariants.{Delete, Subscription, Assign, Assignments, Seek, SeekBeginning, SeekEnd, Records}

-- what a request reads as: a call, a refusal with a code, or the one of a path that hasn't the method, with the number of the path's
-- first place
pub data Read : Type 0 where
  Calls : Call → Read
  Refuses : ℕ → Read
  LacksMethod : ℕ → Read

-- ---- what bodies read as

-- the body lists these parts, or doesn't read
abbrev pub AssignedAs : List ℕ → Option (List TopicPart) → Type 0
AssignedAs body parts = (value : Option Data) × IsJson body value × (parts ≡ assigned_by value)

-- the body lists these places, or doesn't read
abbrev pub SoughtAs : List ℕ → Option (List Sought) → Type 0
SoughtAs body places = (value : Option Data) × IsJson body value × (places ≡ sought_by value)

-- The body gives this name and these settings, or is refused with this code. No body gives no name and the usual settings.
abbrev pub CreatedAs : List ℕ → Result (List ℕ × Settings) ℕ → Type 0
CreatedAs [] made = made ≡ Ok ([], usual_settings)
CreatedAs (b ∷ bs) made = (value : Option Data) × IsJson (b ∷ bs) value × (made ≡ created_by value)

-- the records of a body, in the format that its type names
abbrev pub records_in : Option Format → (to : Option ℕ) → List ℕ → Option (List Given)
records_in None to body = None
records_in (Some format) to body = produced_by format to body

-- ---- what requests read as

-- a produce of records without schemas
abbrev pub produce_of : List ℕ → List Given → Call
produce_of topic records = Produce topic (record { key_id = None; value_id = None; records = records })

-- a produce of the records, if they read
abbrev pub produce_read : List ℕ → Option (List Given) → Read
produce_read topic (Some records) = Calls (produce_of topic records)
produce_read topic None = Refuses 422

-- a Create with its name and its settings, if they read and are allowed; the name is empty where none is given
abbrev pub create_read : List ℕ → Result (List ℕ × Settings) ℕ → Read
create_read group (Ok made) = Calls (Of (key_in group made.0) (Creates made.1))
create_read group (Err code) = Refuses code

-- an Assign of the parts, if they read
abbrev pub assign_read : Key → Option (List TopicPart) → Read
assign_read key (Some parts) = Calls (Of key (Assigns parts))
assign_read key None = Refuses 422

-- a Seek to the places, if they read
abbrev pub seek_read : Key → Option (List Sought) → Read
seek_read key (Some places) = Calls (Of key (Seeks places))
seek_read key None = Refuses 422

-- a Seek to an edge of the parts, if they read
abbrev pub edge_read : Edge → Key → Option (List TopicPart) → Read
edge_read edge key (Some parts) = Calls (Of key (SeeksEdge edge parts))
edge_read edge key None = Refuses 422

-- the parts of a body, each of whose positions is set to this edge
abbrev pub EdgeReading : Edge → Key → List ℕ → Read → Type 0
EdgeReading edge key body read = (parts : Option (List TopicPart)) × AssignedAs body parts × (read ≡ edge_read edge key parts)

-- a Records with the formats that it accepts and its limits, if they read
abbrev pub records_read : Key → Accepted → Option Limits → Read
records_read key accepts (Some limits) = Calls (Of key (AsksRecords (formats_in accepts) limits.timeout limits.max_bytes))
records_read key accepts None = Refuses 422

-- what a request that is sent to a place reads as
abbrev pub ReadingAt : Place → Request → Read → Type 0
ReadingAt Brokers request read = read ≡ Calls (Ask AllBrokers)
ReadingAt Topics request read = read ≡ Calls (Ask AllTopics)
ReadingAt (Topic name topic.Produce) request read = read ≡ produce_read name (records_in (format_in request.content_type) None request.body)
ReadingAt (Topic name topic.Description) request read = read ≡ Calls (Ask (OneTopic name))
ReadingAt (Topic name topic.Partitions) request read = read ≡ Calls (Ask (Parts name))
ReadingAt (Partition name number partition.Produce) request read = read ≡ produce_read name (records_in (format_in request.content_type) (Some number) request.body)
ReadingAt (Partition name number partition.Description) request read = read ≡ Calls (Ask (OnePart (record { topic = name; partition = number })))
ReadingAt (Partition name number partition.EndOffsets) request read = read ≡ Calls (Ask (Edges (record { topic = name; partition = number })))
ReadingAt (Group group) request read = (made : Result (List ℕ × Settings) ℕ) × CreatedAs request.body made × (read ≡ create_read group made)
ReadingAt (Instance group name Delete) request read = read ≡ Calls (Of (key_in group name) Deletes)
ReadingAt (Instance group name Subscription) request read = read ≡ Calls (Of (key_in group name) AsksSubscription)
ReadingAt (Instance group name Assign) request read = (parts : Option (List TopicPart)) × AssignedAs request.body parts × (read ≡ assign_read (key_in group name) parts)
ReadingAt (Instance group name Assignments) request read = read ≡ Calls (Of (key_in group name) AsksAssignments)
ReadingAt (Instance group name Seek) request read = (places : Option (List Sought)) × SoughtAs request.body places × (read ≡ seek_read (key_in group name) places)
ReadingAt (Instance group name SeekBeginning) request read = EdgeReading Start (key_in group name) request.body read
ReadingAt (Instance group name SeekEnd) request read = EdgeReading End (key_in group name) request.body read
ReadingAt (Instance group name Records) request read = read ≡ records_read (key_in group name) (accepted_formats request.accept) (limits_of request.query)

-- what is said where this is so, and a refusal with the code where it isn't
abbrev pub Unless : Bool → ℕ → (Read → Type 0) → Read → Type 0
Unless true code says read = says read
Unless false code says read = read ≡ Refuses code

-- A request that is sent nowhere is refused with 404, one whose path hasn't the method with 405, one whose reply it doesn't accept
-- with 406, and one whose body is of another type with 415, in this order.
abbrev pub ReadingIn : Sent → Request → Read → Type 0
ReadingIn Nowhere request read = read ≡ Refuses 404
ReadingIn (Lacks place) request read = read ≡ LacksMethod place
ReadingIn (At place) request read =
    Unless (is_acceptable place request.accept) 406 (Unless (is_supported place request) 415 (ReadingAt place request)) read

-- what a request reads as
abbrev pub Reading : Request → Read → Type 0
Reading request read = ReadingIn (sent_of request) request read

-- the reply that tells a refusal
abbrev pub TellsRefusal : Read → Reply → Type 0
TellsRefusal (Calls call) reply = ⊥
TellsRefusal (Refuses code) reply = reply ≡ refusal_of code
TellsRefusal (LacksMethod place) reply = reply ≡ NoMethod place

-- a reply to a request that is no call: its refusal, or want of memory
abbrev pub Refusal : Request → Reply → Type 0
Refusal request reply = (reply ≡ Want) ⊎ ((read : Read) × TellsRefusal read reply × Reading request read)
