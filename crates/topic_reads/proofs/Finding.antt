-- From calls of the link to what a question is answered.
use Rattle.std.proofs.Common.{◌≡◌, ℕ, suc, ◌-◌, ℤ, Bool, true, false, List, [], ◌∷◌, map, refl, sym, subst, ◌∙◌, inl, inr, arith, Some, None, Ok}
use Rattle.std.specs.Prelude.{◌<ℤ◌, nat_abs, AllPairs, slice_get}
use Rattle.std.specs.List.{position}
use Rattle.std.proofs.lemmas.Bool.Decides.{nat_tests}
use Rattle.std.proofs.lemmas.Grind.{common_steps}
use Rattle.model.specs.state.Log.{TopicPart, Log, IsLog, Keeps}
use Rattle.model.specs.state.World.Edge.{Start, End}
use Rattle.model.specs.state.Entry.{Question as Asked, Reply}
use Rattle.model.specs.state.Entry.Question.{Brokers as AllBrokers, Topics as AllTopics, OneTopic, Parts, OnePart, EndOffsets as Edges}
use Rattle.model.specs.state.Entry.Reply.{Edged, Names, Nodes, Told}
use Rattle.rest_calls.specs.Questions.{question_of}
use Rattle.rest_calls.specs.declared.question.Question.{Question}
use Rattle.rest_calls.specs.declared.question.Question.TheVariants as question
use Rattle.topic_reads.proofs.Names.{names_told}
use Rattle.model.specs.step.Fixed.{HasPart, edge_of}
use Rattle.model.specs.step.Step.{IsAnswered, Tells}
use Rattle.model.proofs.Stretches.{keeps_itself}
use Rattle.broker_link.specs.Causes as causes
use Rattle.broker_link.specs.Causes.{Counts}
use Rattle.broker_link.specs.Fetching.{IsEdge}
use Rattle.broker_link.specs.Metadata.{IsMetadata}
use Rattle.broker_link.specs.Replies.{CountsKept, link_reply}
use Rattle.broker_link.specs.declared.link.LinkNo.{LinkNo}
use Rattle.broker_link.proofs.CountedLemmas.{comes_on, links}
use Rattle.broker_link.specs.declared.link.PartInfo.{PartInfo}
use Rattle.broker_link.specs.declared.link.TopicInfo.{TopicInfo}
use Rattle.rest_replies.specs.Found.{name_in, reply_in, told_in}
use Rattle.topic_reads.specs.Finding.{ComesOf, FindsEdges, FindsPart, FindsTopic, is_numbered, part_of}
use Rattle.rest_replies.specs.declared.found.Found.{Found}
use Rattle.rest_replies.specs.declared.found.Found.TheVariants as found
use Rattle.rest_replies.specs.declared.found.AskNo.{AskNo}
use Rattle.rest_replies.specs.declared.found.AskNo.TheVariants.{NoTopic, NoPartition, Link}
use Rattle.topic_reads.proofs.Topics.{tells_parts}

-- ---- the place of a partition among those told

behind : (p : PartInfo) (ps : List PartInfo) (number : ℤ) (i : ℕ) → is_numbered number p ≡ false → position (is_numbered number) (p ∷ ps) ≡ Some i → (j : ℕ) × (i ≡ suc j) × (position (is_numbered number) ps ≡ Some j)
behind p ps number i e is = (i - 1, grind (arith, nat_tests, common_steps), grind (arith, nat_tests, common_steps))

pub part_at_place : (parts : List PartInfo) (number : ℤ) (i : ℕ) → position (is_numbered number) parts ≡ Some i → part_of number parts ≡ slice_get parts i
part_at_place [] number i is = absurd (cc is)
part_at_place (p ∷ ps) number i is = go (is_numbered number p) refl (part_at_place ps number)
  where
    go : (b : Bool) → is_numbered number p ≡ b → ((j : ℕ) → position (is_numbered number) ps ≡ Some j → part_of number ps ≡ slice_get ps j) → part_of number (p ∷ ps) ≡ slice_get (p ∷ ps) i
    go true e rest = let first : i ≡ 0 = grind (arith, nat_tests, common_steps) in rw (e, first) refl
    go false e rest =
        let later = behind p ps number i e is in
        rw (e, later.1) (rest later.0 later.2)

pub part_at_none : (parts : List PartInfo) (number : ℤ) → position (is_numbered number) parts ≡ None → part_of number parts ≡ None
part_at_none [] number is = refl
part_at_none (p ∷ ps) number is = go (is_numbered number p) refl (part_at_none ps number)
  where
    go : (b : Bool) → is_numbered number p ≡ b → (position (is_numbered number) ps ≡ None → part_of number ps ≡ None) → part_of number (p ∷ ps) ≡ None
    go true e rest = absurd (grind (arith, nat_tests, common_steps))
    go false e rest = rw e (rest (grind (arith, nat_tests, common_steps)))

-- ---- causes

pub comes_later : (c d e : Counts) (cause : AskNo) → CountsKept c d → ComesOf d e cause → ComesOf c e cause
comes_later c d e NoTopic kept comes = tt
comes_later c d e NoPartition kept comes = tt
comes_later c d e (Link why) kept comes = comes_on c d e why kept comes

-- ---- the edges of a partition

pub edges_there : (a m b : Log) (at : TopicPart) (start end : ℤ) (low high : ℕ) → IsLog b → Keeps a b → Keeps m b → HasPart a at → IsEdge m at Start start → IsEdge b at End end → low ≡ nat_abs start → high ≡ nat_abs end
    → FindsEdges a b at (Ok (low, high))
edges_there a m b at start end low high is a_kept m_kept have first last low_is high_is =
    (have, (b, (is, a_kept, keeps_itself b), low_is ∙ (first.is ∙ sym (let kept = m_kept.part at in kept.start)), high_is ∙ last.is))

-- ---- what a question is answered

answers : (q : Asked) (a b : Log) (said : Reply) → Tells q a b said → IsAnswered q a b (Some said)
answers q a b said tells = (said, refl, inl tells)

pub failed_link : (q : Asked) (a b : Log) (c d : Counts) (e : LinkNo) → causes.ComesOf c d e → IsAnswered q a b (Some (link_reply e))
failed_link q a b c d e comes = (link_reply e, refl, inr (links c d e comes))

pub brokers_answered : (q : Question) (x : Found) (a b : Log) (ids : List ℤ) → q ≡ question.Brokers → x ≡ found.Brokers ids → AllPairs (λ m n. m <ℤ n) ids → IsAnswered (question_of q) a b (Some (reply_in x))
brokers_answered q x a b ids q_is x_is rise = rw (q_is, x_is) (answers AllBrokers a b (Nodes ids) (ids, rise, refl))

pub topics_answered : (q : Question) (x : Found) (a m b : Log) (infos : List TopicInfo) → q ≡ question.Topics → x ≡ found.Topics infos → IsLog m → Keeps a m → IsMetadata None m infos → IsAnswered (question_of q) a b (Some (reply_in x))
topics_answered q x a m b infos q_is x_is is keeps tells =
    let told = names_told a m infos is keeps tells in
    rw (q_is, x_is) (answers AllTopics a b (Names (map name_in infos)) (map name_in infos, told.0, told.1, refl))

pub topic_answered : (q : Question) (x : Found) (a b : Log) (name asked : List ℕ) (info : TopicInfo) → q ≡ question.Topic name → x ≡ found.Topic info → asked ≡ name → FindsTopic a asked (Ok info) → IsAnswered (question_of q) a b (Some (reply_in x))
topic_answered q x a b name asked info q_is x_is asked_is told =
    let here : FindsTopic a name (Ok info) = subst (λ (n : List ℕ). FindsTopic a n (Ok info)) asked_is told in
    rw (q_is, x_is) (answers (OneTopic name) a b (Told (map told_in info.parts)) (inr (here.0, (map told_in info.parts, tells_parts a name info.parts here.1 here.2, refl))))

pub parts_answered : (q : Question) (x : Found) (a b : Log) (name asked : List ℕ) (info : TopicInfo) → q ≡ question.Partitions name → x ≡ found.Partitions info → asked ≡ name → FindsTopic a asked (Ok info) → IsAnswered (question_of q) a b (Some (reply_in x))
parts_answered q x a b name asked info q_is x_is asked_is told =
    let here : FindsTopic a name (Ok info) = subst (λ (n : List ℕ). FindsTopic a n (Ok info)) asked_is told in
    rw (q_is, x_is) (answers (Parts name) a b (Told (map told_in info.parts)) (inr (here.0, (map told_in info.parts, tells_parts a name info.parts here.1 here.2, refl))))

pub part_answered : (q : Question) (x : Found) (a b : Log) (at : TopicPart) (part : PartInfo) → question_of q ≡ OnePart at → x ≡ found.Partition part → FindsPart a at (Ok part) → IsAnswered (question_of q) a b (Some (reply_in x))
part_answered q x a b at part q_is x_is told = rw (q_is, x_is) (answers (OnePart at) a b (Told (told_in part ∷ [])) (inr (inr (told.0, (told_in part, told.1, refl)))))

pub edges_answered : (q : Question) (x : Found) (a b : Log) (at : TopicPart) (start end : ℕ) → question_of q ≡ Edges at → x ≡ found.Edges start end → FindsEdges a b at (Ok (start, end)) → IsAnswered (question_of q) a b (Some (reply_in x))
edges_answered q x a b at start end q_is x_is told =
    let edges = told.1 in
    let same : Edged start end ≡ Edged (edge_of Start edges.0 at) (edge_of End edges.0 at) = both start (edge_of Start edges.0 at) end (edge_of End edges.0 at) edges.2 edges.3 in
    rw (q_is, x_is) (answers (Edges at) a b (Edged start end) (inr (inr (told.0, (edges.0, edges.1, same)))))
  where
    both : (m m2 n n2 : ℕ) → m ≡ m2 → n ≡ n2 → Edged m n ≡ Edged m2 n2
    both m m2 n n2 e f = rw (e, f) refl
