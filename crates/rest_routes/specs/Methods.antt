-- The methods of the gateway's paths (Confluent REST Proxy API v2; RFC 9110, section 10.2.1).
use Rattle.std.specs.Prelude.{◌≡◌, ℕ, Bool, true, false, List, [], ◌∷◌, ◌++◌, Option, Some, None, filter, codes, if◌then◌else◌}
use Rattle.std.specs.Str.{bytes_eq}
use Rattle.rest_codes.specs.Methods.{methods_of}
use Rattle.rest_routes.specs.declared.route.Route.{Route}
use Rattle.rest_routes.specs.declared.route.Route.TheVariants as route
use Rattle.rest_routes.specs.declared.route.Verb.{Verb}
use Rattle.rest_routes.specs.declared.route.Verb.TheVariants.{Delete, Get, Post}

-- a method, by its name
unfoldable pub verb_of : List ℕ → Option Verb
verb_of method =
    if bytes_eq method (codes "DELETE") then Some Delete else
    if bytes_eq method (codes "GET") then Some Get else
    if bytes_eq method (codes "POST") then Some Post else None

-- the path has this method
abbrev pub has_method : Route → Verb → Bool
has_method route.Instance Delete = true
has_method route.Subscription Delete = true
has_method r Delete = false
has_method route.Group Get = false
has_method route.Instance Get = false
has_method route.Positions Get = false
has_method route.Beginning Get = false
has_method route.End Get = false
has_method r Get = true
has_method route.Brokers Post = false
has_method route.Topics Post = false
has_method route.Partitions Post = false
has_method route.EndOffsets Post = false
has_method route.Instance Post = false
has_method route.Records Post = false
has_method r Post = true

-- the number of the path's first place: a path has as many places, one after the other, as methods
abbrev pub first_place : Route → ℕ
first_place route.Brokers = 1
first_place route.Topics = 2
first_place route.Topic = 3
first_place route.Partitions = 5
first_place route.Partition = 6
first_place route.EndOffsets = 8
first_place route.Group = 9
first_place route.Instance = 10
first_place route.Offsets = 11
first_place route.Subscription = 13
first_place route.Assignments = 16
first_place route.Positions = 18
first_place route.Beginning = 19
first_place route.End = 20
first_place route.Records = 21

-- a method's name
abbrev pub name_of_verb : Verb → List ℕ
name_of_verb Delete = codes "DELETE"
name_of_verb Get = codes "GET"
name_of_verb Post = codes "POST"

-- the names of methods, a comma and a space between them
abbrev pub listed : List Verb → List ℕ
listed [] = []
listed (v ∷ []) = name_of_verb v
listed (v ∷ w ∷ vs) = name_of_verb v ++ (codes ", " ++ listed (w ∷ vs))

-- what the number of the path's first place lists are its methods, in the order DELETE, GET, POST
abbrev pub IsListed : Route → Type 0
IsListed r = methods_of (first_place r) ≡ listed (filter (has_method r) (Delete ∷ Get ∷ Post ∷ []))
