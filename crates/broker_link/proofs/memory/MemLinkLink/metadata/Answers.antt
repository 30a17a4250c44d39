use Rattle.std.proofs.Common.{subst, sym, List, ℕ, Bor}
use Rattle.std.specs.Prelude.{All, option_map, Option}
use Rattle.model.specs.state.Log.{Log, Topic, shape_of}
use Rattle.broker_link.specs.Made.{ArePlans}
use Rattle.broker_link.specs.Metadata.{IsMetadata}
use Rattle.broker_link.specs.Stored.{log_of, log_with}
use Rattle.broker_link.specs.Infos.{AreOnNodeOne, Gathered}
use Rattle.broker_link.specs.declared.link.TopicInfo.{TopicInfo}
use Rattle.broker_link.proofs.Infos.{is_metadata}
use Rattle.broker_link.proofs.memory.MemLinkLink.metadata.Goals as goal

pub returns-clause-known : goal.returns-clause-known
returns-clause-known c = λ plans.
    let name : Option (List ℕ) = option_map (λ (t : Bor (List ℕ)). t.now) c.args.topic in
    let link = c.begin_reading.new.self in
    let topics : List Topic = link.topics.list.items in
    let log : Log = log_with topics link.others in
    let later : ArePlans (shape_of (log_of topics)) = subst ArePlans (sym c.begin_reading.ensures.came.keeps.shape) plans in
    let got : Gathered name topics c.in_ok-infos.infos.items =
    subst (λ (ts : List Topic). ArePlans (shape_of (log_of ts)) → Gathered name ts c.in_ok-infos.infos.items) c.as_slice.ensures.value c.in_ok-infos.ensures.gathered later in
    subst (λ (l : List TopicInfo). IsMetadata name log l) (sym c.from_vec.ensures) (is_metadata name topics link.others c.in_ok-infos.infos.items got)

pub returns-clause-nodes : goal.returns-clause-nodes
returns-clause-nodes c = subst (All AreOnNodeOne) (sym c.from_vec.ensures) c.in_ok-infos.ensures.nodes
