-- Entries of the model that lead from a state of the gateway to a state, and the answer to one call. An instance that isn't
-- used for `idle` milliseconds expires; `caller` is the number of the one whose calls these are.
use Rattle.std.specs.Prelude.{ℕ, ◌+◌, ◌≤◌, ◌≡◌, cond, List, [], ◌∷◌, All, Option, Some, None}
use Rattle.gate_io.specs.Clocks.{Hand}
use Rattle.model.specs.state.Log.{IsLog, Log}
use Rattle.model.specs.state.World.{World}
use Rattle.model.specs.state.Entry.{Call, Entry, Reply}
use Rattle.model.specs.state.Entry.Act.{Create}
use Rattle.model.specs.state.Entry.Call.{Of}
use Rattle.model.specs.history.Legal.{Tally, Run}
use Rattle.model.specs.history.Served.{EndsIn, Serves}
use Rattle.model.specs.history.Noted.{IsTable, Noted, said_of}
use Rattle.model.specs.texts.Texts.{Response, response_of}
use Rattle.broker_link.specs.Causes.{Counts}
use Rattle.broker_link.specs.Stands.{Stand}
use Rattle.broker_link.specs.Replies.{CountsKept, IsCounted, IsCountedIf, IsGoodIf}
use Rattle.rest_calls.specs.Views.{counted, given_name, is_unnamed, key_in}
use Rattle.rest_codes.specs.declared.response.Reply.{Reply as CodeReply}
use Rattle.rest_codes.specs.declared.response.Reply.TheVariants as reply
use Rattle.rest_replies.specs.Forms.{shown}
use Rattle.desk.specs.Shelf.{AllThere, world_in}
use Rattle.desk.specs.Step.{AreLow, StepsSo, no_expiry}
use Rattle.desk.specs.Clocked.{IsClocked, behind}
use Rattle.desk.specs.declared.shard.Shard.{Shard}

-- the consumers and the log, where the clock stands, and what the link counts
pub record State : Type 0 where
  pub world : World
  pub log : Log
  pub hand : Hand
  pub counts : Counts

-- the same of a link that stands so
abbrev pub stood : World → Stand → Hand → State
stood w a hand = record { world = w; log = a.log; hand = hand; counts = a.counts }

-- the same of a shard
abbrev pub state_of : {L : Type 0} → (L → Stand) → Shard L → Hand → State
state_of stand shard hand = stood (world_in shard.instances shard.last) (stand shard.link) hand

-- one step of a shard, over a link that stands so
abbrev pub ShardSteps : {L : Type 0} → (L → Stand) → Shard L → Noted → Shard L → Type 0
ShardSteps stand a noted b = StepsSo no_expiry a.advertise (stand a.link) (world_in a.instances a.last) noted (stand b.link) (world_in b.instances b.last)

-- What the counts rose by pays what the entries owe: a fault or a refusal each, and nothing else is owed.
pub record Pays (before after : Counts) (owed : Tally) : Type 0 where
  pub faults_paid : before.faults + owed.faults ≤ after.faults
  pub refusals_paid : before.refusals + owed.refusals ≤ after.refusals
  pub short_none : owed.short ≡ 0
  pub placed_none : owed.placed ≡ 0
  pub looks_none : owed.looks ≡ 0

-- The entries lead from one state to the other. Over a plain link that has the consumers' partitions no reply is a
-- failure of the link, and nobody else adds rows.
pub record Runs (idle caller : ℕ) (plain ticks : Type 0) (s : State) (entries : List Entry) (t : State) : Type 0 where
  pub owed : Tally
  pub run : Run idle s.world s.log entries t.log t.world owed
  pub kept : CountsKept s.counts t.counts
  pub paid : AreLow t.counts → Pays s.counts t.counts owed
  pub clocked : ticks → IsClocked s.hand (behind s.world.last entries) t.hand
  pub there : AllThere s.log s.world → AllThere t.log t.world
  pub good : plain → AllThere s.log s.world → All (λ e. IsGoodIf e.reply) entries
  pub alone : plain → t.log.others ≡ s.log.others
  pub shows : All (λ e. (table : List (List ℕ)) → (let x = e.turn in IsTable shown table x.forms)) entries
  pub callers : All (λ e. e.caller ≡ caller) entries

-- the name that the gateway gives, as the calls define it
unfoldable pub name_text : (worker count : ℕ) → List ℕ
name_text worker count = given_name worker count

-- a Create of that name
abbrev pub named_so : List ℕ → Call → Call
named_so name (Of key (Create settings)) = Of (key_in key.group name) (Create settings)
named_so name call = call

-- one more was named, where the call is a Create without a name
abbrev pub named_after : Call → ℕ → ℕ
named_after asked names_given = cond (is_unnamed asked) (counted names_given) names_given

-- A call was answered: by its looks without reply and the entry with the reply, of which this is the text. A fault or a
-- refusal is its answer only where the link counted one meanwhile, and a broker's code is the link's last.
pub record IsAnswered (idle caller : ℕ) (advertise : List ℕ) (plain ticks : Type 0) (call : Call) (s : State) (said : Response) (t : State) : Type 0 where
  pub own : List Entry
  pub runs : Runs idle caller plain ticks s own t
  pub answer : Reply
  pub serves : Serves call answer own
  pub says : said ≡ response_of advertise (let e = serves.last in let x = e.turn in x.forms) call answer
  pub counted : IsCounted s.counts t.counts answer

-- a call of the one caller of a shard, 0, was answered, from where the clock stood to where it stands
abbrev pub ShardAnswered : {L C : Type 0} → (L → Stand) → (C → Type 0) → (C → Hand) → Shard L → C → Call → Response → Shard L → C → Type 0
ShardAnswered stand ticks hand a clock call said b clock2 = IsAnswered no_expiry 0 a.advertise (stand a.link).plain (ticks clock) call (state_of stand a (hand clock)) said (state_of stand b (hand clock2))

-- the same, where the log is told
abbrev pub ShardAnswers : {L C : Type 0} → (L → Stand) → (C → Type 0) → (C → Hand) → Shard L → C → Call → Response → Shard L → C → Type 0
ShardAnswers stand ticks hand a clock call said b clock2 = (stand a.link).tells → IsLog (stand a.link).log → ShardAnswered stand ticks hand a clock call said b clock2

-- One turn was taken for a call: one entry, and the text of its reply, if it has one. One without reply ends in its look.
pub record IsTurn (idle caller : ℕ) (advertise : List ℕ) (plain ticks : Type 0) (call : Call) (round : ℕ) (s : State) (said : Option Response) (t : State) : Type 0 where
  pub entry : Entry
  pub runs : Runs idle caller plain ticks s (entry ∷ []) t
  pub call_is : entry.call ≡ Some call
  pub round_is : entry.turn.round ≡ round
  pub says : said ≡ said_of advertise (let x = entry.turn in x.forms) (Some call) entry.reply
  pub looks : entry.reply ≡ None → EndsIn entry.events round
  pub counted : IsCountedIf s.counts t.counts entry.reply

-- memory was wanting before the first turn: nothing was done
pub record Stays {S C : Type 0} (said : CodeReply) (shard shard2 : S) (clock clock2 : C) : Type 0 where
  pub wants : said ≡ reply.Want
  pub shard_same : shard2 ≡ shard
  pub clock_same : clock2 ≡ clock
