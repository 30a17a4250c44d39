-- A question is one step of the model, and its reply says what the model answers.
use Rattle.std.proofs.Common.{◌≡◌, ℕ, ◌^◌, ◌<◌, List, [], map, refl, ap, sym, ◌∙◌, arith, inl, Option, Some, None}
use Rattle.std.specs.Prelude.{max, option_map}
use Rattle.model.specs.state.Log.{IsLog}
use Rattle.model.specs.state.Entry.{Call, Entry, Question}
use Rattle.model.specs.state.Entry.Call.{Ask}
use Rattle.model.specs.history.Noted.{said_of}
use Rattle.model.specs.texts.Texts.{response_of}
use Rattle.broker_link.specs.Stands.{Consults, Stand}
use Rattle.rest_calls.specs.Responses.{response_in}
use Rattle.rest_codes.specs.declared.response.Reply.{Reply as CodeReply}
use Rattle.rest_replies.specs.Forms.{forms}
use Rattle.instance.specs.Views.{event_of}
use Rattle.topic_reads.specs.Asked.{Asks}
use Rattle.desk.specs.Shelf.{world_in, AreSound}
use Rattle.desk.specs.Step.{StepsSo, no_expiry, noted}
use Rattle.desk.specs.declared.consumers.Consumers.{Consumers}
use Rattle.desk.specs.declared.entry.Entry.{Entry as CodeEntry}
use Rattle.desk.proofs.Steps.{none_expired, forms_from, caused_by, there_later}

pub ask_step : (advertise : List ℕ) (caller now : ℕ) (question : Question) (a b : Stand) (xs : Consumers) (last moment last2 : ℕ) (e : CodeEntry) (said : CodeReply)
    → Consults a b → Asks question a said b → AreSound xs → e.caller ≡ caller → e.moment ≡ moment → e.events ≡ [] → (noted e).call ≡ Some (Ask question) → e.round ≡ Some 0 → e.reply ≡ Some said
    → moment ≡ max now last → moment < 2 ^ 64 → last2 ≡ moment → StepsSo no_expiry advertise a (world_in xs last) (noted e) b (world_in xs last2)
ask_step advertise caller now question a b xs last moment last2 e said went one sound whose when none asked at says latest low still =
    let goes = went.goes in
    record {
      goes = goes;
      reply = Some one.reply;
      says = answered ∙ ap (λ (c : Option Call). said_of advertise forms c (Some one.reply)) (sym asked);
      counted = one.counted;
      steps = λ told log.
          let entry : Entry = record { caller = caller; moment = moment; turn = record { round = 0; forms = forms }; expired = []; events = []; call = Some (Ask question); reply = Some one.reply } in
          record {
            entry = entry;
            same = λ i. record { caller = whose i; moment = when i; events = map event_of (none i); call = asked i; round = at i; table = (noted e).table; reply = answered i };
            reply_is = refl;
            shows = λ table format bytes. refl;
            step = record {
              keeps = goes.keeps told;
              log = goes.is_log told log;
              world = λ k c found. sound k c found;
              forms = forms_from forms (λ table format bytes. refl);
              later = omega (arith, latest);
              last = still;
              does = inl (record { expired = none_expired moment (world_in xs last) low; does = (refl, one.answered told log, went.none told, went.commits told, λ key. refl) });
            };
            quiet = refl;
            caused = λ lower. caused_by a.counts b.counts (world_in xs last) entry one.counted refl lower;
          };
      there = λ told log there key c found. there_later a.log b.log (goes.keeps told) c (there key c found);
      good = λ is_plain told log there. one.good is_plain told log;
    }
  where
    answered : option_map response_in e.reply ≡ Some (response_of advertise forms (Ask question) one.reply)
    answered = ap (option_map response_in) says ∙ ap Some (one.says advertise forms)
