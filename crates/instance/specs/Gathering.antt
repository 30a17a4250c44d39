-- What a look fetches, and the positions that it sets back before (Apache Kafka protocol guide, Fetch and ListOffsets).
use mathlib.Core.List.{IsPrefix}
use Rattle.std.specs.List.{AllZip}
use Rattle.std.specs.Prelude.{ℕ, ℤ, ◌<◌, ◌≤◌, ◌≡◌, ◌⊎◌, ◌≤ℤ◌, ⊤, pos, nat_abs, is_some, true, false, List, [], ◌∷◌, map, All, Option, Some, None}
use Rattle.model.specs.state.Log.{TopicPart, Row, Log, IsLog, part_at, from}
use Rattle.model.specs.step.Walk.{Place, Lot, turned}
use Rattle.model.specs.state.World.{Edge, with_positions}
use Rattle.model.specs.state.Entry.Event.{Reset}
use Rattle.model.specs.step.Fixed.{Edges, HasPart}
use Rattle.model.specs.step.Look.{SetBack}
pub use Rattle.broker_link.specs.Fetching.{asked}
use Rattle.broker_link.specs.Fetching.{IsEdge, row_of, rows_in_turn}
use Rattle.broker_link.specs.declared.fetch.Fetched.{Fetched}
use Rattle.instance.specs.declared.event.Event.{Event as CodeEvent}
use Rattle.instance.specs.Ending.{own_of}
use Rattle.consumer_state.specs.Positions.{set_at}

-- the position lies from the start to the end of its partition
abbrev pub IsInside : Log → Place → Type 0
IsInside log place = ((part_at log place.at).start ≤ place.position) × (place.position ≤ (part_at log place.at).end)

-- the topics have the partition of each place
abbrev pub HaveAll : Log → List Place → Type 0
HaveAll log places = All (λ place. HasPart log place.at) places

-- the first rows from a position on, where it lies in range
pub record IsGotAt (log : Log) (place : Place) (f : Fetched) : Type 0 where
  pub outside : f.out_of_range ≡ true → (place.position < (part_at log place.at).start) ⊎ ((part_at log place.at).end < place.position)
  pub inside : f.out_of_range ≡ false → IsInside log place
  pub first : IsPrefix (map row_of f.rows) (from log place.at place.position)

-- what came for each place; where all are in range and no row came, none has a row there
pub record GotFrom (log : Log) (places : List Place) (fetched : List Fetched) : Type 0 where
  pub each : AllZip (IsGotAt log) places fetched
  pub none : All (λ f. f.out_of_range ≡ false) fetched → All (λ f. f.rows ≡ []) fetched → All (λ place. from log place.at place.position ≡ []) places

-- the rows at hand at a log of places that are all in range there
pub record IsHand (log : Log) (places : List Place) (lots : List Lot) : Type 0 where
  pub whose : map (λ lot. lot.place) lots ≡ places
  pub first : All (λ lot. IsPrefix lot.rows (from log lot.place.at lot.place.position)) lots
  pub none : All (λ lot. lot.rows ≡ []) lots → All (λ place. from log place.at place.position ≡ []) places
  pub range : All (IsInside log) places

-- Of each place these rows came. Beginning at number `first`, they are those of one fetch up to so many bytes, of the places in turn.
abbrev pub AreGiven : (most first : ℕ) → Log → List Place → List (List Row) → Type 0
AreGiven most first log places came = turned first came ≡ rows_in_turn most [] log (turned first places)

-- the places that were told a new position, with it
abbrev pub news_of : List Place → List (Option ℤ) → List Place
news_of [] told = []
news_of (place ∷ places) [] = []
news_of (place ∷ places) (None ∷ told) = news_of places told
news_of (place ∷ places) (Some position ∷ told) = record { at = place.at; position = nat_abs position } ∷ news_of places told

-- all places, these with their new positions
abbrev pub put_all : List Place → List (Option ℤ) → List Place
put_all [] told = []
put_all (place ∷ places) [] = place ∷ places
put_all (place ∷ places) (None ∷ told) = place ∷ put_all places told
put_all (place ∷ places) (Some position ∷ told) = record { at = place.at; position = nat_abs position } ∷ put_all places told

-- a new position was told exactly where the old one is out of range
abbrev pub AreTold : List Fetched → List (Option ℤ) → Type 0
AreTold fetched told = AllZip (λ f o. is_some o ≡ f.out_of_range) fetched told

-- The events are those of the positions that were set back from log `a` to log `b`.
pub record SetsBack (tells : Type 0) (reset : Edge) (a : Log) (places : List Place) (events : List CodeEvent) (b : Log) (places2 : List Place) : Type 0 where
  pub news : List Place
  pub told : map own_of events ≡ map Reset news
  pub after : places2 ≡ with_positions news places
  pub set : tells → IsLog a → SetBack reset a places news b

-- one position told or not
abbrev pub put_maybe : List Place → ℕ → Option ℤ → List Place
put_maybe places i None = places
put_maybe places i (Some position) = set_at places i (nat_abs position)

-- a position that was told isn't below 0
abbrev pub IsLowIf : Option ℤ → Type 0
IsLowIf None = ⊤
IsLowIf (Some position) = pos 0 ≤ℤ position

-- an edge that was told is the partition's
abbrev pub IsEdgeIf : Log → TopicPart → Edge → Option ℤ → Type 0
IsEdgeIf log at edge None = ⊤
IsEdgeIf log at edge (Some position) = IsEdge log at edge position

-- from log `a` to log `b` an edge was told for each place that is out of range, in turn
abbrev pub EdgesTold : Edge → Log → List Place → List (Option ℤ) → Log → Type 0
EdgesTold edge a places told b = Edges edge a (map (λ place. place.at) (news_of places told)) (news_of places told) b

-- The places that were out of range were set to the edges that were told, and the events say so.
pub record AreSet (tells : Type 0) (edge : Edge) (a : Log) (places : List Place) (fetched : List Fetched) (events : List CodeEvent) (b : Log) (places2 : List Place) : Type 0 where
  pub told : List (Option ℤ)
  pub are : AreTold fetched told
  pub says : map own_of events ≡ map Reset (news_of places told)
  pub put : places2 ≡ put_all places told
  pub edges : tells → IsLog a → EdgesTold edge a places told b
