-- The rows that are at hand of a look: a fetch answers the first stored rows from a position on (Apache Kafka protocol guide, Fetch).
use Rattle.std.specs.Prelude.{ℕ, ◌≤◌, ◌≡◌, Bool, List, [], map, is_none, All, Option}
use mathlib.Core.List.{IsPrefix}
use Rattle.model.specs.state.Log.{Row, Log, Keeps, IsLogAfter, part_at, from}
use Rattle.model.specs.step.Walk.{Place, Lot}
use Rattle.model.specs.state.World.{Format}

-- at one log no place has a row at or above its position; where `looked`, each position is in range there
pub record HasNone (a b : Log) (places : List Place) (looked : Type 0) : Type 0 where
  pub log : Log
  pub since : IsLogAfter a log
  pub kept : Keeps log b
  pub none : All (λ place. from log place.at place.position ≡ []) places
  pub range : looked → All (λ place. ((part_at log place.at).start ≤ place.position) × (place.position ≤ (part_at log place.at).end)) places

-- these rows were at hand: of each place the first ones from its position on
pub record AtHand (a b : Log) (places : List Place) (lots : List Lot) (looked : Type 0) : Type 0 where
  pub whose : map (λ lot. lot.place) lots ≡ places
  pub first : All (λ lot. IsPrefix lot.rows (from b lot.place.at lot.place.position)) lots
  pub none : All (λ lot. lot.rows ≡ []) lots → HasNone a b places looked

-- the rows that read in a format
abbrev pub reads_in : (Format → Row → Option ℕ) → Format → Row → Bool
reads_in reason format row = is_none (reason format row)
