-- The node numbers of a reply are the link's (Apache Kafka protocol guide, Metadata).
use Rattle.std.specs.Prelude.{⊤, ◌≡◌, All}
use Rattle.model.specs.state.Entry.{Reply}
use Rattle.model.specs.state.Entry.Reply.{Nodes, Told}
use Rattle.broker_link.specs.Stands.{Stand}
use Rattle.broker_link.specs.declared.link.PartInfo.{PartInfo}
use Rattle.rest_replies.specs.Found.{told_in}
use Rattle.rest_replies.specs.declared.found.Found.{Found}
use Rattle.rest_replies.specs.declared.found.Found.TheVariants as found

-- the node numbers are those that a link which stands so tells
abbrev pub AreHeard : Stand → Found → Type 0
AreHeard a (found.Brokers ids) = a.brokers ids
AreHeard a (found.Topics infos) = ⊤
AreHeard a (found.Topic info) = All a.nodes info.parts
AreHeard a (found.Partitions info) = All a.nodes info.parts
AreHeard a (found.Partition part) = a.nodes part
AreHeard a (found.Edges start end) = ⊤

-- the same of a reply
abbrev pub IsHeard : Stand → Reply → Type 0
IsHeard a (Nodes ids) = a.brokers ids
IsHeard a (Told parts) = All (λ told. (part : PartInfo) × a.nodes part × (told ≡ told_in part)) parts
IsHeard a _ = ⊤
