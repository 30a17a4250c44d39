-- From what a link did with the parts to what is answered for the records.
use Rattle.std.proofs.Common.{◌≡◌, ◌∙◌, ◌<◌, ◌^◌, ℕ, List, [], map, length, arith, ap, sym, subst, refl, inl, inr, Result, Ok, Err}
use Rattle.std.specs.Prelude.{All}
use Rattle.std.specs.List.{AllZip}
use Rattle.model.specs.state.Entry.{Payload}
use Rattle.model.specs.step.Fixed.{SameCommits}
use Rattle.model.specs.step.Produced.{Answered, Unknown}
use Rattle.broker_link.specs.Causes.{CodeComes, ComesOf}
use Rattle.broker_link.specs.Produced.{IsAsked, IsBased, IsPlaced, IsPlainly, MayBePlaced, first_code}
use Rattle.broker_link.specs.Stands.{Calls, Goes, IsAlone, IsOnceAtMost, IsOneMore, Stand}
use Rattle.broker_link.specs.declared.link.LinkNo.{LinkNo}
use Rattle.broker_link.specs.declared.link.LinkNo.TheVariants.{Want}
use Rattle.broker_link.specs.declared.link.PartRecords.{PartRecords}
use Rattle.broker_link.specs.declared.link.PartPlaced.{PartPlaced}
use Rattle.broker_link.proofs.Going.{goes_nowhere}
use Rattle.rest_calls.specs.declared.call.Row.{Row}
use Rattle.rest_replies.specs.Answer.{placed_of}
use Rattle.rest_replies.specs.declared.answer.Told.{Told}
use Rattle.producer.specs.Groups.{cursor_of, grouped, told_by}
use Rattle.producer.specs.Payloads.{payloads_of}
use Rattle.producer.specs.Plain.{TellsPlainly}
use Rattle.producer.specs.Send.{Sends}
use Rattle.producer.proofs.Answers.{unknown, untouched}
use Rattle.producer.proofs.Choosing.{as_many, partitions}
use Rattle.producer.proofs.Plain.{refusal_counted, told_plainly}
use Rattle.producer.proofs.Telling.{answered, told_whose}

-- after a failure, from what is known of the link
failed_so : (now : ℕ) (topic : List ℕ) (n : ℕ) (rows : List Row) (a b : Stand) (result : Result (List Told) LinkNo) (e : LinkNo) → result ≡ Err e
    → Goes a b → IsAlone a b → (a.tells → SameCommits a.log b.log) → ComesOf a.counts b.counts e → IsOnceAtMost now a.produces b.produces
    → (a.tells → Unknown a.log b.log topic (payloads_of n rows)) → (a.plain → e ≡ Want) → Sends now topic n rows a b result
failed_so now topic n rows a b result e is goes alone commits comes asked unknown plainly = subst (Sends now topic n rows a b) (sym is) (record {
  goes = record { goes = goes; alone = alone; commits = commits; answers = record { went = tt; cause = comes } };
  asked = asked;
  answered = λ tells. tt;
  unknown = unknown;
  whose = tt;
  lacked = λ plain tells. tt;
  codes = tt;
  plainly = plainly;
})

-- memory was wanting before the link was asked
pub unsent : (now : ℕ) (topic : List ℕ) (n : ℕ) (rows : List Row) (a : Stand) (result : Result (List Told) LinkNo) → result ≡ Err Want → Sends now topic n rows a a result
unsent now topic n rows a result is =
    failed_so now topic n rows a a result Want is (goes_nowhere a) (λ quiet. refl) (λ tells group at. refl) tt (inl refl) (λ tells. untouched a.log topic (payloads_of n rows)) (λ plain. refl)

-- the link failed
pub unanswered : (now : ℕ) (topic : List ℕ) (n : ℕ) (rows : List Row) (a b : Stand) (parts : List PartRecords) (result : Result (List Told) LinkNo) (e : LinkNo) → result ≡ Err e
    → parts ≡ grouped [] (payloads_of n rows) → Calls {T = List PartPlaced} a b (Err e) → IsOneMore now a.produces b.produces
    → (a.tells → MayBePlaced a.log b.log topic parts) → (a.plain → e ≡ Want) → Sends now topic n rows a b result
unanswered now topic n rows a b parts result e is same calls more may plainly =
    failed_so now topic n rows a b result e is calls.goes calls.alone calls.commits calls.answers.cause (inr more)
    (λ tells. unknown a.log b.log topic (payloads_of n rows) (subst (MayBePlaced a.log b.log topic) same (may tells))) plainly

-- the link answered, and memory was wanting
pub untold : (now : ℕ) (topic : List ℕ) (n : ℕ) (rows : List Row) (a b : Stand) (parts : List PartRecords) (placed : List PartPlaced) (result : Result (List Told) LinkNo) → result ≡ Err Want
    → parts ≡ grouped [] (payloads_of n rows) → Calls a b (Ok placed) → IsOneMore now a.produces b.produces
    → (a.tells → IsPlaced a.log b.log topic parts placed) → Sends now topic n rows a b result
untold now topic n rows a b parts placed result is same calls more are =
    failed_so now topic n rows a b result Want is calls.goes calls.alone calls.commits tt (inr more)
    (λ tells. unknown a.log b.log topic (payloads_of n rows) (subst (MayBePlaced a.log b.log topic) same (placed, are tells))) (λ plain. refl)

-- what is answered, from what the link answered and the records' numbers
pub told_of : (n : ℕ) (rows : List Row) (placed given : List PartPlaced) (numbers ns : List ℕ) (told : List Told) → told ≡ told_by (map cursor_of given) ns
    → given ≡ placed → ns ≡ numbers → numbers ≡ partitions (payloads_of n rows) → told ≡ told_by (map cursor_of placed) (map (λ (p : Payload). p.partition) (payloads_of n rows))
told_of n rows placed given numbers ns told is same one all =
    is ∙ (ap (λ (ps : List PartPlaced). told_by (map cursor_of ps) ns) same ∙ ap (λ (ms : List ℕ). told_by (map cursor_of placed) ms) (one ∙ all))

-- the link answered
pub sent : (now : ℕ) (topic : List ℕ) (n : ℕ) (rows : List Row) (a b : Stand) (parts : List PartRecords) (placed : List PartPlaced) (told : List Told) → length rows < 2 ^ 63
    → parts ≡ grouped [] (payloads_of n rows) → told ≡ told_by (map cursor_of placed) (map (λ (p : Payload). p.partition) (payloads_of n rows))
    → Calls a b (Ok placed) → IsOneMore now a.produces b.produces → (a.tells → IsPlaced a.log b.log topic parts placed) → AllZip IsAsked parts placed → AllZip IsBased parts placed
    → CodeComes a.counts b.counts (first_code placed) → (a.plain → a.tells → AllZip (IsPlainly a.log topic) parts placed) → Sends now topic n rows a b (Ok told)
sent now topic n rows a b parts placed told few same is calls more are order based comes lacks = record {
  goes = record { goes = calls.goes; alone = calls.alone; commits = calls.commits; answers = record { went = calls.answers.went; cause = tt } };
  asked = inr more;
  answered = λ tells.
      subst (λ (ts : List Told). Answered a.log b.log topic payloads (map placed_of ts)) (sym is)
      (answered a.log b.log topic payloads placed (omega (arith, as_many n rows, few)) (at_groups (λ ps. IsPlaced a.log b.log topic ps placed) (are tells)) (at_groups (λ ps. AllZip IsBased ps placed) based));
  unknown = λ tells. tt;
  whose = ap (λ (ts : List Told). map (λ (t : Told). t.partition) ts) is ∙ told_whose (map cursor_of placed) (map (λ (p : Payload). p.partition) payloads);
  lacked = λ plain tells.
      subst (λ (ts : List Told). All (TellsPlainly a.log topic) ts) (sym is)
      (told_plainly a.log b.log a.log topic payloads placed (let one : IsPlaced a.log b.log topic (grouped [] payloads) placed = at_groups (λ ps. IsPlaced a.log b.log topic ps placed) (are tells) in one.each)
      (at_groups (λ ps. AllZip (IsPlainly a.log topic) ps placed) (lacks plain tells)));
  codes = refusal_counted a.counts b.counts payloads placed told (at_groups (λ ps. AllZip IsAsked ps placed) order) is comes;
  plainly = λ plain. tt;
}
  where
    payloads : List Payload
    payloads = payloads_of n rows

    at_groups : (P : List PartRecords → Type 0) → P parts → P (grouped [] payloads)
    at_groups P p = subst P same p
