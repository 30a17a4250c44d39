-- Positions that are set, and which calls may set them (Confluent REST Proxy API v2, positions).
use Rattle.std.specs.Prelude.{ℕ, zero, suc, ◌⊎◌, List, [], ◌∷◌, map, is_some, Bool, Some}
use Rattle.std.specs.List.{list_all}
use Rattle.model.specs.state.Log.{TopicPart}
use Rattle.model.specs.step.Walk.{Place}
use Rattle.model.specs.state.World.{Consumer, position_in, touched}
use Rattle.model.specs.state.Entry.{Reply}
use Rattle.model.specs.state.Entry.Reply.{Done}
use Rattle.model.specs.step.Ends.{EndsAlone, IsDone, IsRefused, at_positions}
use Rattle.model.specs.step.Rules.{AllAssigned}
use Rattle.rest_codes.specs.declared.response.Reply.{Reply as CodeReply}
use Rattle.rest_replies.specs.Failure.{Says}

-- the position of one place of the list set
abbrev pub set_at : List Place → ℕ → ℕ → List Place
set_at [] i position = []
set_at (place ∷ places) zero position = record { at = place.at; position = position } ∷ places
set_at (place ∷ places) (suc i) position = place ∷ set_at places i position

-- the partition is assigned
abbrev pub is_assigned : List Place → TopicPart → Bool
is_assigned places at = is_some (position_in places at)

-- each of them is
abbrev pub are_assigned : List Place → List TopicPart → Bool
are_assigned places ats = list_all (is_assigned places) ats

-- A seek is refused where a partition isn't assigned, and else sets the positions in turn.
pub record SeeksSo (now : ℕ) (news : List Place) (c : Consumer) (said : CodeReply) (c2 : Consumer) : Type 0 where
  pub reply : Reply
  pub says : Says reply said
  pub ends : EndsAlone now c (Some reply) (Some c2)
      (((AllAssigned (map (λ place. place.at) news) c → ⊥) × IsRefused 40990 (Some reply) (Some (touched now c)) (Some c2))
      ⊎ (AllAssigned (map (λ place. place.at) news) c × IsDone Done (Some reply) (Some (at_positions news now c)) (Some c2)))
