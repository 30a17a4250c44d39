-- A produce is one step of the model, and its reply says what the model answers.
use Rattle.std.proofs.Common.{◌≡◌, ℕ, ◌^◌, ◌<◌, List, [], map, refl, ap, sym, ◌∙◌, arith, inl, inr, Option, Some, None, Result, Ok, Err}
use Rattle.std.specs.Prelude.{max, option_map}
use Rattle.model.specs.state.Log.{Log, IsLog, Keeps}
use Rattle.model.specs.texts.Texts.{response_of}
use Rattle.model.specs.history.Noted.{said_of}
use Rattle.model.specs.state.Entry.{Batch, Call, Given, Placed, Entry, Reply}
use Rattle.model.specs.state.Entry.Call.{Produce}
use Rattle.model.specs.state.Entry.Reply.{Want as NoMemory}
use Rattle.model.specs.step.Fixed.{SameCommits}
use Rattle.model.specs.step.Step.{ProduceEnds}
use Rattle.broker_link.specs.Causes.{Counts}
use Rattle.broker_link.specs.Replies.{IsCounted as Counted, IsGood as Good}
use Rattle.rest_calls.specs.Responses.{response_in}
use Rattle.rest_codes.specs.declared.response.Reply.{Reply as CodeReply}
use Rattle.rest_codes.specs.declared.response.Reply.TheVariants as reply
use Rattle.broker_link.specs.Replies.{IsCounted, IsGood}
use Rattle.rest_replies.specs.Answer.{reply_of}
use Rattle.rest_replies.specs.declared.answer.Told.{Told}
use Rattle.rest_replies.specs.declared.answer.ProduceNo.{ProduceNo}
use Rattle.instance.specs.Views.{event_of}
use Rattle.rest_replies.specs.Forms.{forms}
use Rattle.desk.specs.Shelf.{world_in, AreSound}
use Rattle.broker_link.specs.Stands.{Goes, Stand}
use Rattle.desk.specs.Step.{StepsSo, no_expiry, noted}
use Rattle.rest_replies.specs.Offsets.{SaysAnswer, plain_batch}
use Rattle.desk.specs.declared.consumers.Consumers.{Consumers}
use Rattle.desk.specs.declared.entry.Entry.{Entry as CodeEntry}
use Rattle.desk.proofs.Steps.{none_expired, forms_from, caused_by, there_later}

-- memory may have been wanting for any answer
want_instead : (a b : Log) (topic : List ℕ) (batch : Batch) (r : Reply) → ProduceEnds a b topic batch (Some r) → ProduceEnds a b topic batch (Some NoMemory)
want_instead a b topic batch r (inl done) =
    inr (inr (inr (record { unknown = inl ((done.have, done.room), record { base = done.answered.base; code = done.answered.code; places = done.answered.places }); why = NoMemory; links = tt; says = refl })))
want_instead a b topic batch r (inr (inl lacks)) = inr (inr (inr (record { unknown = inr lacks.1; why = NoMemory; links = tt; says = refl })))
want_instead a b topic batch r (inr (inr (inl lacks))) = inr (inr (inr (record { unknown = inr lacks.2; why = NoMemory; links = tt; says = refl })))
want_instead a b topic batch r (inr (inr (inr failed))) = inr (inr (inr (record { unknown = failed.unknown; why = NoMemory; links = tt; says = refl })))

-- the produce ended so, and this is the reply
pub record Answer (told : Type 0) (a b : Log) (topic : List ℕ) (batch : Batch) (before after : Counts) (well : Type 0) (said : CodeReply) : Type 0 where
  pub answer : Reply
  pub says : (advertise : List ℕ) → response_in said ≡ response_of advertise forms (Produce topic batch) answer
  pub counted : Counted before after answer
  pub ends : told → ProduceEnds a b topic batch (Some answer)
  pub good : well → Good answer

counts_of : (c d : Counts) (r : Reply) → IsCounted c d r → Counted c d r
counts_of c d r h = record { faults_kept = h.faults_kept; refusals_kept = h.refusals_kept; sent_kept = h.sent_kept; polls_kept = h.polls_kept; beats_kept = h.beats_kept; fault = h.fault; refusal = h.refusal; code = h.code }

counts_want : (c d : Counts) (r : Reply) → IsCounted c d r → Counted c d NoMemory
counts_want c d r h = record { faults_kept = h.faults_kept; refusals_kept = h.refusals_kept; sent_kept = h.sent_kept; polls_kept = h.polls_kept; beats_kept = h.beats_kept; fault = λ e. absurd (cc e); refusal = λ e. absurd (cc e); code = λ k e. absurd (cc e) }

wanted : (told : Type 0) (a b : Log) (topic : List ℕ) (batch : Batch) (before after : Counts) (well : Type 0) (r : Reply) (said : CodeReply) → said ≡ reply.Want → IsCounted before after r → (told → ProduceEnds a b topic batch (Some r))
    → Answer told a b topic batch before after well said
wanted told a b topic batch before after well r said is counted ends = record { answer = NoMemory; says = λ advertise. ap response_in is; counted = counts_want before after r counted; ends = λ t. want_instead a b topic batch r (ends t); good = λ w. tt }

pub answer_of : (told : Type 0) (a b : Log) (topic : List ℕ) (records : List Given) (before after : Counts) (well : Type 0) (result : Result (List Told) ProduceNo) (said : CodeReply)
    → SaysAnswer result said → IsCounted before after (reply_of result) → (told → ProduceEnds a b topic (plain_batch records) (Some (reply_of result))) → (well → IsGood (reply_of result)) → Answer told a b topic (plain_batch records) before after well said
answer_of told a b topic records before after well (Ok placed) said (inl says) counted ends good = record { answer = reply_of (Ok placed); says = λ advertise. says advertise topic forms records; counted = counts_of before after _ counted; ends = ends; good = good }
answer_of told a b topic records before after well (Err e) said (inl says) counted ends good = record { answer = reply_of (Err e); says = λ advertise. says advertise forms (Produce topic (plain_batch records)); counted = counts_of before after _ counted; ends = ends; good = good }
answer_of told a b topic records before after well (Ok placed) said (inr is) counted ends good = wanted told a b topic (plain_batch records) before after well (reply_of (Ok placed)) said is counted ends
answer_of told a b topic records before after well (Err e) said (inr is) counted ends good = wanted told a b topic (plain_batch records) before after well (reply_of (Err e)) said is counted ends

pub produce_step : (advertise : List ℕ) (caller now : ℕ) (topic : List ℕ) (batch : Batch) (a b : Stand) (xs : Consumers) (last moment last2 : ℕ) (e : CodeEntry) (said : CodeReply)
    → Goes a b → (a.tells → SameCommits a.log b.log) → (well : Type 0) → (a.plain → a.tells → IsLog a.log → well) → Answer (a.tells × IsLog a.log) a.log b.log topic batch a.counts b.counts well said
    → AreSound xs → e.caller ≡ caller → e.moment ≡ moment → e.events ≡ [] → (noted e).call ≡ Some (Produce topic batch) → e.round ≡ Some 0 → e.reply ≡ Some said → moment ≡ max now last → moment < 2 ^ 64 → last2 ≡ moment
    → StepsSo no_expiry advertise a (world_in xs last) (noted e) b (world_in xs last2)
produce_step advertise caller now topic batch a b xs last moment last2 e said goes commits well well_is one sound whose when none asked at says latest low still = record {
  goes = goes;
  reply = Some one.answer;
  says = answered ∙ ap (λ (c : Option Call). said_of advertise forms c (Some one.answer)) (sym asked);
  counted = one.counted;
  steps = λ told log.
      let entry : Entry = record { caller = caller; moment = moment; turn = record { round = 0; forms = forms }; expired = []; events = []; call = Some (Produce topic batch); reply = Some one.answer } in
      record {
        entry = entry;
        same = λ i. record { caller = whose i; moment = when i; events = map event_of (none i); call = asked i; round = at i; table = (noted e).table; reply = answered i };
        reply_is = refl;
        shows = λ table format bytes. refl;
        step = record {
          keeps = goes.keeps told;
          log = goes.is_log told log;
          world = λ k c found. sound k c found;
          forms = forms_from forms (λ table format bytes. refl);
          later = omega (arith, latest);
          last = still;
          does = inl (record { expired = none_expired moment (world_in xs last) low; does = (refl, one.ends (told, log), commits told, λ key. refl) });
        };
        quiet = refl;
        caused = λ lower. caused_by a.counts b.counts (world_in xs last) entry one.counted refl lower;
      };
  there = λ told log there key c found. there_later a.log b.log (goes.keeps told) c (there key c found);
  good = λ is_plain told log there. one.good (well_is is_plain told log);
}
  where
    answered : option_map response_in e.reply ≡ Some (response_of advertise forms (Produce topic batch) one.answer)
    answered = ap (option_map response_in) says ∙ ap Some (one.says advertise)
