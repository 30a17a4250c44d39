-- From two readings of one request to their equality.
use Rattle.std.proofs.Common.{◌≡◌, ◌∙◌, ℕ, List, [], ◌∷◌, sym, ap, refl, Option, Some, None, Result, Bool, true, false}
use Rattle.serde_json.specs.Data.{Data}
use Rattle.model.specs.state.Log.{TopicPart}
use Rattle.model.specs.state.World.{Edge, Key, Settings}
use Rattle.model.specs.state.World.Edge.{Start, End}
use Rattle.model.specs.step.Walk.{Place as Sought}
use Rattle.http_conn.specs.declared.request.Request.{Request}
use Rattle.rest_calls.specs.Json.{IsJson}
use Rattle.rest_calls.specs.Create.{created_by}
use Rattle.rest_calls.specs.Assign.{assigned_by}
use Rattle.rest_calls.specs.Seek.{sought_by}
use Rattle.rest_routes.specs.Media.{is_acceptable, is_supported}
use Rattle.rest_routes.specs.Place.{Sent, Nowhere, Lacks, At, sent_of}
use Rattle.rest_routes.specs.declared.place.Place.{Place}
use Rattle.rest_routes.specs.declared.place.Place.TheVariants.{Brokers, Topics, Topic, Partition, Group, Instance}
use Rattle.rest_routes.specs.declared.place.TopicAsk.TheVariants.{Produce, Description, Partitions}
use Rattle.rest_routes.specs.declared.place.PartitionAsk.TheVariants as partition
use Rattle.rest_routes.specs.declared.place.Ask.TheVariants.{Delete, Subscription, Assign, Assignments, Seek, SeekBeginning, SeekEnd, Records}
use Rattle.rest_calls.specs.Views.{key_in}
use Rattle.rest_calls.specs.Reading.{Read, Reading, ReadingAt, ReadingIn, Unless, CreatedAs, AssignedAs, SoughtAs, EdgeReading, create_read, assign_read, seek_read, edge_read}

-- a body is one value of JSON, or none
pub one_value : (body : List ℕ) (x y : Option Data) → IsJson body x → IsJson body y → x ≡ y
one_value body (Some x) (Some y) is was = sym is.1 ∙ was.1
one_value body (Some x) None is was = let differs : Some x ≡ None = sym is.1 ∙ was is.0 in cc
one_value body None (Some y) is was = let differs : None ≡ Some y = sym (is was.0) ∙ was.1 in cc
one_value body None None is was = refl

one_assigned : (body : List ℕ) (x y : Option (List TopicPart)) → AssignedAs body x → AssignedAs body y → x ≡ y
one_assigned body x y is was = is.2 ∙ ap assigned_by (one_value body is.0 was.0 is.1 was.1) ∙ sym was.2

one_sought : (body : List ℕ) (x y : Option (List Sought)) → SoughtAs body x → SoughtAs body y → x ≡ y
one_sought body x y is was = is.2 ∙ ap sought_by (one_value body is.0 was.0 is.1 was.1) ∙ sym was.2

one_edge : (edge : Edge) (key : Key) (body : List ℕ) (a b : Read) → EdgeReading edge key body a → EdgeReading edge key body b → a ≡ b
one_edge edge key body a b x y = x.2 ∙ ap (edge_read edge key) (one_assigned body x.0 y.0 x.1 y.1) ∙ sym y.2

one_created : (body : List ℕ) (x y : Result (List ℕ × Settings) ℕ) → CreatedAs body x → CreatedAs body y → x ≡ y
one_created [] x y is was = is ∙ sym was
one_created (b ∷ bs) x y is was = is.2 ∙ ap created_by (one_value (b ∷ bs) is.0 was.0 is.1 was.1) ∙ sym was.2

one_at : (place : Place) (request : Request) (a b : Read) → ReadingAt place request a → ReadingAt place request b → a ≡ b
one_at Brokers request a b x y = x ∙ sym y
one_at Topics request a b x y = x ∙ sym y
one_at (Topic topic Produce) request a b x y = x ∙ sym y
one_at (Topic topic Description) request a b x y = x ∙ sym y
one_at (Topic topic Partitions) request a b x y = x ∙ sym y
one_at (Partition topic number partition.Produce) request a b x y = x ∙ sym y
one_at (Partition topic number partition.Description) request a b x y = x ∙ sym y
one_at (Partition topic number partition.EndOffsets) request a b x y = x ∙ sym y
one_at (Group group) request a b x y = x.2 ∙ ap (create_read group) (one_created request.body x.0 y.0 x.1 y.1) ∙ sym y.2
one_at (Instance group name Delete) request a b x y = x ∙ sym y
one_at (Instance group name Subscription) request a b x y = x ∙ sym y
one_at (Instance group name Assign) request a b x y = x.2 ∙ ap (assign_read (key_in group name)) (one_assigned request.body x.0 y.0 x.1 y.1) ∙ sym y.2
one_at (Instance group name Assignments) request a b x y = x ∙ sym y
one_at (Instance group name Seek) request a b x y = x.2 ∙ ap (seek_read (key_in group name)) (one_sought request.body x.0 y.0 x.1 y.1) ∙ sym y.2
one_at (Instance group name SeekBeginning) request a b x y = one_edge Start (key_in group name) request.body a b x y
one_at (Instance group name SeekEnd) request a b x y = one_edge End (key_in group name) request.body a b x y
one_at (Instance group name Records) request a b x y = x ∙ sym y

one_unless : (is : Bool) (code : ℕ) (says : Read → Type 0) → ((a b : Read) → says a → says b → a ≡ b) → (a b : Read) → Unless is code says a → Unless is code says b → a ≡ b
one_unless true code says one a b x y = one a b x y
one_unless false code says one a b x y = x ∙ sym y

one_in : (sent : Sent) (request : Request) (a b : Read) → ReadingIn sent request a → ReadingIn sent request b → a ≡ b
one_in Nowhere request a b x y = x ∙ sym y
one_in (Lacks place) request a b x y = x ∙ sym y
one_in (At place) request a b x y =
    one_unless (is_acceptable place request.accept) 406 (λ read. Unless (is_supported place request) 415 (ReadingAt place request) read)
    (one_unless (is_supported place request) 415 (ReadingAt place request) (one_at place request)) a b x y

pub one_reading : (request : Request) (a b : Read) → Reading request a → Reading request b → a ≡ b
one_reading request a b x y = one_in (sent_of request) request a b x y
