-- From an answer and the text of its reply to what a question owes.
use Rattle.std.proofs.Common.{◌≡◌, ℕ, List, [], ◌∷◌, map, refl, ap, sym, subst, inl, inr, false, Some, Result, Ok, Err}
use Rattle.std.specs.Prelude.{◌⊎◌, All, IfErr, IfOk}
use Rattle.std.proofs.lemmas.List.Elements.{All-cons, All-nil, All-head, All-tail}
use Rattle.model.specs.state.Forms.{Forms}
use Rattle.model.specs.state.Log.{IsLog}
use Rattle.model.specs.state.Entry.{PartTold, Question as Asked}
use Rattle.model.specs.state.Entry.Call.{Ask}
use Rattle.model.specs.state.Entry.Reply.{Refused as Lacking, Want as NoMemory}
use Rattle.model.specs.step.Step.{IsAnswered}
use Rattle.model.specs.history.Legal.{is_fault, is_refusal}
use Rattle.model.specs.texts.Texts.{response_of}
use Rattle.broker_link.specs.Causes.{Counts}
use Rattle.broker_link.specs.Replies.{CountsKept, IsCounted, IsGood, link_reply}
use Rattle.broker_link.specs.declared.link.LinkNo.{LinkNo}
use Rattle.broker_link.specs.Stands.{Consults, Stand}
use Rattle.broker_link.specs.declared.link.LinkNo.TheVariants as link
use Rattle.broker_link.specs.declared.link.PartInfo.{PartInfo}
use Rattle.rest_calls.specs.Questions.{question_of}
use Rattle.rest_calls.specs.Responses.{response_in}
use Rattle.rest_calls.specs.declared.question.Question.{Question}
use Rattle.rest_codes.specs.declared.response.Reply.{Reply}
use Rattle.rest_codes.specs.declared.response.Reply.TheVariants as reply
use Rattle.rest_replies.specs.Failure.{SaysOrWant}
use Rattle.broker_link.proofs.CountedLemmas.{counted_done, counted_failed}
use Rattle.rest_replies.specs.Found.{refusal_of, reply_in, reply_of, told_in}
use Rattle.rest_replies.specs.Topics.{Fits, SaysFound}
use Rattle.topic_reads.specs.Heard.{AreHeard, IsHeard}
use Rattle.topic_reads.specs.Asked.{Asks}
use Rattle.topic_reads.specs.Finding.{ComesOf, IsWantIfLinks}
use Rattle.rest_replies.specs.declared.found.Found.{Found}
use Rattle.rest_replies.specs.declared.found.Found.TheVariants as found
use Rattle.rest_replies.specs.declared.found.AskNo.{AskNo}
use Rattle.rest_replies.specs.declared.found.AskNo.TheVariants.{NoTopic, NoPartition, Link}

no_fault : (x : Found) → is_fault (Some (reply_in x)) ≡ false
no_fault (found.Brokers ids) = refl
no_fault (found.Topics infos) = refl
no_fault (found.Topic info) = refl
no_fault (found.Partitions info) = refl
no_fault (found.Partition told) = refl
no_fault (found.Edges start end) = refl

no_refusal : (x : Found) → is_refusal (Some (reply_in x)) ≡ false
no_refusal (found.Brokers ids) = refl
no_refusal (found.Topics infos) = refl
no_refusal (found.Topic info) = refl
no_refusal (found.Partitions info) = refl
no_refusal (found.Partition told) = refl
no_refusal (found.Edges start end) = refl

is_good : (x : Found) → IsGood (reply_in x)
is_good (found.Brokers ids) = tt
is_good (found.Topics infos) = tt
is_good (found.Topic info) = tt
is_good (found.Partitions info) = tt
is_good (found.Partition told) = tt
is_good (found.Edges start end) = tt

each_heard : (a : Stand) (parts : List PartInfo) → All a.nodes parts → All (λ told. (part : PartInfo) × a.nodes part × (told ≡ told_in part)) (map told_in parts)
each_heard a [] all = All-nil (λ (told : PartTold). (part : PartInfo) × a.nodes part × (told ≡ told_in part))
each_heard a (p ∷ ps) all =
    All-cons (λ (told : PartTold). (part : PartInfo) × a.nodes part × (told ≡ told_in part)) (told_in p) (map told_in ps) (p, All-head a.nodes p ps all, refl) (each_heard a ps (All-tail a.nodes p ps all))

is_heard : (a : Stand) (x : Found) → AreHeard a x → IsHeard a (reply_in x)
is_heard a (found.Brokers ids) heard = heard
is_heard a (found.Topics infos) heard = tt
is_heard a (found.Topic info) heard = each_heard a info.parts heard
is_heard a (found.Partitions info) heard = each_heard a info.parts heard
is_heard a (found.Partition part) heard =
    All-cons (λ (told : PartTold). (part : PartInfo) × a.nodes part × (told ≡ told_in part)) (told_in part) [] (part, heard, refl) (All-nil (λ (told : PartTold). (part : PartInfo) × a.nodes part × (told ≡ told_in part)))
is_heard a (found.Edges start end) heard = tt

-- memory was wanting
wants : (asked : Asked) (a b : Stand) (said : Reply) → Consults a b → said ≡ reply.Want → Asks asked a said b
wants asked a b said went is = record {
  reply = NoMemory;
  says = λ advertise forms. ap response_in is;
  counted = counted_done a.counts b.counts NoMemory (let goes = went.goes in goes.counts) refl refl;
  answered = λ tells log. (NoMemory, refl, inr tt);
  heard = tt;
  good = λ plain tells log. tt;
}

asks_told : (q : Question) (a b : Stand) (x : Found) (said : Reply) → Fits q x → SaysFound q (Ok x) said → Consults a b
    → (a.tells → IsLog a.log → IsAnswered (question_of q) a.log b.log (Some (reply_in x))) → AreHeard a x → Asks (question_of q) a said b
asks_told q a b x said fits says went answered heard = go (says fits)
  where
    go : ((advertise : List ℕ) (forms : Forms) → response_in said ≡ response_of advertise forms (Ask (question_of q)) (reply_in x)) ⊎ (said ≡ reply.Want) → Asks (question_of q) a said b
    go (inr want) = wants (question_of q) a b said went want
    go (inl is) = record {
      reply = reply_in x;
      says = is;
      counted = counted_done a.counts b.counts (reply_in x) (let goes = went.goes in goes.counts) (no_fault x) (no_refusal x);
      answered = answered;
      heard = is_heard a x heard;
      good = λ plain tells log. is_good x;
    }

counted_cause : (c d : Counts) (cause : AskNo) → CountsKept c d → ComesOf c d cause → IsCounted c d (refusal_of cause)
counted_cause c d NoTopic kept comes = counted_done c d (Lacking 40401) kept refl refl
counted_cause c d NoPartition kept comes = counted_done c d (Lacking 40402) kept refl refl
counted_cause c d (Link e) kept comes = counted_failed c d e kept comes

good_cause : (cause : AskNo) → IsWantIfLinks cause → IsGood (refusal_of cause)
good_cause NoTopic wanting = tt
good_cause NoPartition wanting = tt
good_cause (Link e) wanting = subst (λ (e : LinkNo). IsGood (link_reply e)) (sym wanting) tt

heard_cause : (a : Stand) (cause : AskNo) → IsHeard a (refusal_of cause)
heard_cause a NoTopic = tt
heard_cause a NoPartition = tt
heard_cause a (Link link.Fault) = tt
heard_cause a (Link (link.Refused code)) = tt
heard_cause a (Link link.Want) = tt

asks_refused : (asked : Asked) (a b : Stand) (cause : AskNo) (said : Reply) → SaysOrWant (refusal_of cause) said → Consults a b
    → (a.tells → IsLog a.log → IsAnswered asked a.log b.log (Some (refusal_of cause))) → ComesOf a.counts b.counts cause → (a.plain → a.tells → IsLog a.log → IsWantIfLinks cause) → Asks asked a said b
asks_refused asked a b cause said (inr want) went answered comes good = wants asked a b said went want
asks_refused asked a b cause said (inl says) went answered comes good = record {
  reply = refusal_of cause;
  says = λ advertise forms. says advertise forms (Ask asked);
  counted = counted_cause a.counts b.counts cause (let goes = went.goes in goes.counts) comes;
  answered = answered;
  heard = heard_cause a cause;
  good = λ plain tells log. good_cause cause (good plain tells log);
}

pub asks : (q : Question) (a b : Stand) (result : Result Found AskNo) (said : Reply) → SaysFound q result said → Consults a b → IfOk result (Fits q)
    → (a.tells → IsLog a.log → IsAnswered (question_of q) a.log b.log (Some (reply_of result))) → IfOk result (AreHeard a) → IfErr result (ComesOf a.counts b.counts)
    → (a.plain → a.tells → IsLog a.log → IfErr result IsWantIfLinks) → Asks (question_of q) a said b
asks q a b (Ok x) said says went fits answered heard comes good = asks_told q a b x said fits says went answered heard
asks q a b (Err cause) said says went fits answered heard comes good = asks_refused (question_of q) a b cause said says went answered comes good
