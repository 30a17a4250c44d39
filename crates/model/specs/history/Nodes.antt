-- The node numbers of a reply are those that the link was told: Apache Kafka protocol guide, the Metadata response.
use Rattle.std.specs.Prelude.{ℤ, IsPermutation, List, All, Contains, Option, Some}
use Rattle.model.specs.state.Entry.{PartTold, Reply}
use Rattle.model.specs.state.Entry.Reply.{Nodes, Told}

-- what a link answered last: the nodes, and the partitions of the topic that was asked for
pub record Heard : Type 0 where
  pub nodes : List ℤ
  pub parts : List PartTold

-- the reply lists just these nodes, and tells each partition as it was heard
abbrev pub HasNodes : Heard → Option Reply → Type 0
HasNodes heard (Some (Nodes nodes)) = IsPermutation heard.nodes nodes
HasNodes heard (Some (Told parts)) = All (Contains heard.parts) parts
HasNodes heard _ = Unit {0}
