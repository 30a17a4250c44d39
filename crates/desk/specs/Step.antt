-- What one step of a shard owes, over a link.
use Rattle.std.specs.Prelude.{ℕ, ◌<◌, ◌^◌, ◌-◌, ◌≡◌, List, [], map, option_map, Option, Some}
use Rattle.model.specs.state.Log.{Log, IsLog}
use Rattle.model.specs.state.World.{World}
use Rattle.model.specs.state.Entry.{Call, Entry, Reply}
use Rattle.model.specs.step.Step.{Step, left}
use Rattle.model.specs.history.Legal.{call_tally, no_tally}
use Rattle.model.specs.history.Causes.{IsCaused}
use Rattle.model.specs.history.Noted.{Noted, noted_of, said_of, IsTable}
use Rattle.broker_link.specs.Causes.{Counts}
use Rattle.broker_link.specs.Stands.{Goes, Stand}
use Rattle.broker_link.specs.Replies.{IsCountedIf, IsGoodIf}
use Rattle.rest_calls.specs.Responses.{response_in}
use Rattle.rest_calls.specs.Views.{asked_of}
use Rattle.rest_calls.specs.declared.call.Call.{Call as CodeCall}
use Rattle.std.specs.declared.snapshot.Snapshot.{Snapshot}
use Rattle.instance.specs.Views.{event_of}
use Rattle.rest_replies.specs.Forms.{forms, shown}
use Rattle.consumer_state.specs.Assign.{totals}
use Rattle.desk.specs.Shelf.{AllThere}
use Rattle.desk.specs.declared.entry.Entry.{Entry as CodeEntry}

-- an entry of the code, read in the model's terms
abbrev pub noted : CodeEntry → Noted
noted e = record {
  caller = e.caller;
  moment = e.moment;
  events = map event_of e.events;
  call = option_map (λ (s : Snapshot CodeCall). asked_of s.value) e.call;
  round = e.round;
  table = e.table.value;
  reply = option_map response_in e.reply;
}

-- what an entry tells of its step, whatever the link tells
pub record IsEntry (caller moment : ℕ) (call : Call) (round : ℕ) (e : CodeEntry) : Type 0 where
  pub caller_is : e.caller ≡ caller
  pub moment_is : e.moment ≡ moment
  pub call_is : (noted e).call ≡ Some call
  pub round_is : e.round ≡ Some round

-- No instance is idle for so long: no moment reaches it.
abbrev pub no_expiry : ℕ
no_expiry = 2 ^ 64

-- no count stands at its end, so that one that rose is greater
pub record AreLow (c : Counts) : Type 0 where
  pub faults_low : c.faults < 2 ^ 64 - 1
  pub refusals_low : c.refusals < 2 ^ 64 - 1

-- The entry is one of the model's, and its step leads from a world and log to a world and log.
pub record Steps (idle : ℕ) (advertise : List ℕ) (before after : Counts) (w : World) (a : Log) (noted : Noted) (reply : Option Reply) (b : Log) (w2 : World) : Type 0 where
  pub entry : Entry
  pub same : noted ≡ noted_of advertise noted.table entry
  pub reply_is : entry.reply ≡ reply
  pub shows : (table : List (List ℕ)) → (let t = entry.turn in IsTable shown table t.forms)
  pub step : Step idle w a entry b w2
  pub quiet : call_tally (left entry.expired w) entry.call entry.events ≡ no_tally
  pub caused : AreLow after → IsCaused (totals before) (totals after) after.last_code [] w entry

-- The reply has its cause in the link's counts. Where the log is told the step is one of the model;
-- over a plain link that has the consumers' partitions no reply is a failure of the link.
pub record StepsSo (idle : ℕ) (advertise : List ℕ) (a : Stand) (w : World) (noted : Noted) (b : Stand) (w2 : World) : Type 0 where
  pub goes : Goes a b
  pub reply : Option Reply
  pub says : noted.reply ≡ said_of advertise forms noted.call reply
  pub counted : IsCountedIf a.counts b.counts reply
  pub steps : a.tells → IsLog a.log → Steps idle advertise a.counts b.counts w a.log noted reply b.log w2
  pub there : a.tells → IsLog a.log → AllThere a.log w → AllThere b.log w2
  pub good : a.plain → a.tells → IsLog a.log → AllThere a.log w → IsGoodIf reply
