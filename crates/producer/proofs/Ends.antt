-- From the metadata's log and what the link answered to the ends of a produce, and to what a plain link answers.
use Rattle.std.proofs.Common.{◌≡◌, ℕ, ◌+◌, ◌<◌, ◌≤◌, Bool, true, false, nat_lt, List, [], ◌∷◌, length, map, refl, ap, sym, subst, ◌∙◌, inl, inr, arith, Result, Ok, Err, Some, None}
use Rattle.std.specs.Prelude.{◌≢◌, ◌⊎◌, ℤ, All}
use Rattle.std.specs.List.{list_any}
use Rattle.std.proofs.lemmas.List.Elements.{All-cons, All-nil, All-head, All-tail, All-weaker}
use Rattle.std.proofs.lemmas.Bool.Decides.{nat_tests}
use Rattle.model.specs.state.Log.{Log, Keeps, part_at}
use Rattle.model.specs.step.Walk.{Item}
use Rattle.gate_io.specs.Counts.{Rose}
use Rattle.model.specs.state.Entry.{Payload, Reply, is_zero}
use Rattle.model.specs.history.Legal.{is_failed}
use Rattle.model.specs.state.Entry.Placed.{Stored}
use Rattle.model.specs.state.Entry.Reply.{Answers, Refused}
use Rattle.model.specs.step.Produced.{Answered, Unknown, Places, NoneAdded, numbered, chosen, has_room}
use Rattle.model.specs.step.Step.{parts_of, ProduceEnds}
use Rattle.broker_link.specs.Causes.{Counts, ComesOf}
use Rattle.broker_link.specs.declared.link.LinkNo.{LinkNo}
use Rattle.broker_link.specs.declared.link.LinkNo.TheVariants.{Want}
use Rattle.broker_link.proofs.Answered.{parts_counted}
use Rattle.broker_link.proofs.CountedLemmas.{links}
use Rattle.broker_link.proofs.KeptTopics.{had_topic, has_still}
use Rattle.rest_calls.specs.Views.{batch_of, given_of}
use Rattle.rest_calls.specs.declared.call.Row.{Row}
use Rattle.rest_calls.specs.declared.call.Batch.{Batch as Sent}
use Rattle.broker_link.specs.Count.{IsCount}
use Rattle.producer.specs.Parts.{are_within}
use Rattle.rest_replies.specs.Answer.{placed_of}
use Rattle.producer.specs.Payloads.{number_at, number_in, payloads_of}
use Rattle.producer.specs.Plain.{TellsPlainly}
use Rattle.broker_link.specs.Replies.{CountsKept, IsCounted, IsStored, link_reply}
use Rattle.rest_replies.specs.declared.answer.ProduceNo.{ProduceNo}
use Rattle.rest_replies.specs.declared.answer.ProduceNo.TheVariants.{NoPartition, NoTopic, Link as LinkFailed}
use Rattle.rest_replies.specs.declared.answer.Told.{Told}
use Rattle.producer.proofs.Counting.{within, outside}
use Rattle.producer.proofs.Choosing.{number_low, partitions}

-- a log that was kept has as many partitions of each topic
same_parts : (a m : Log) (topic : List ℕ) → Keeps a m → parts_of m topic ≡ parts_of a topic
same_parts a m topic keeps = parts_counted a.topics m.topics topic keeps.shape

-- what was placed behind a later log was placed behind the earlier one
placed_since : (a m b : Log) (code : ℕ → ℤ) (items : List Item) → Keeps a m → NoneAdded a m → Places m b code items → Places a b code items
placed_since a m b code items keeps none places = record {
  stand = places.stand;
  behind =
      All-weaker (λ (item : Item). is_zero (code item.at.partition) ≡ true → (part_at m item.at).end ≤ item.row.offset) (λ (item : Item). is_zero (code item.at.partition) ≡ true → (part_at a item.at).end ≤ item.row.offset)
      (λ item h z. omega (arith, (keeps.part item.at).end, h z)) items places.behind;
  added = omega (arith, places.added, none);
}

-- the records of the request, as they were placed
chosen_are : (a m : Log) (topic : List ℕ) (n : ℕ) (rows : List Row) → Keeps a m → parts_of m topic ≡ n → chosen (parts_of a topic) 0 (map given_of rows) ≡ payloads_of n rows
chosen_are a m topic n rows keeps count = ap (λ (k : ℕ). chosen k 0 (map given_of rows)) (sym (same_parts a m topic keeps) ∙ count)

-- the metadata has the topic, and each partition that a record needs
has_rooms : (a m : Log) (topic : List ℕ) (n : ℕ) (rows : List Row) → Keeps a m → parts_of m topic ≡ n → are_within n rows ≡ true → All (has_room (parts_of a topic)) (map given_of rows)
has_rooms a m topic n rows keeps count is =
    subst (λ (k : ℕ). All (has_room k) (map given_of rows)) (sym count ∙ same_parts a m topic keeps) (within n rows is)

pub ends_answered : (a m b : Log) (topic : List ℕ) (batch : Sent) (n : ℕ) (told : List Told) → Keeps a m → NoneAdded a m → IsCount m topic (Some n) → are_within n batch.rows ≡ true
    → Answered m b topic (payloads_of n batch.rows) (map placed_of told) → ProduceEnds a b topic (batch_of batch) (Some (Answers (map placed_of told)))
ends_answered a m b topic batch n told keeps none count is answered =
    let payloads : List Payload = payloads_of n batch.rows in
    let there : Answered a b topic payloads (map placed_of told) = record {
      base = answered.base;
      code = answered.code;
      places = placed_since a m b answered.code (numbered topic answered.base [] payloads) keeps none answered.places;
      told = answered.told;
    } in
    inl (record {
      have = had_topic a m topic keeps count.0;
      room = has_rooms a m topic n batch.rows keeps count.1 is;
      answers = map placed_of told;
      answered = subst (λ (ps : List Payload). Answered a b topic ps (map placed_of told)) (sym (chosen_are a m topic n batch.rows keeps count.1)) there;
      says = refl;
    })

pub ends_unknown_topic : (a m : Log) (topic : List ℕ) (batch : Sent) → Keeps a m → NoneAdded a m → IsCount m topic None → ProduceEnds a m topic (batch_of batch) (Some (Refused 40401))
ends_unknown_topic a m topic batch keeps none count = inr (inl (λ has. count (has_still a m topic keeps has), none, refl))

pub ends_unknown_partition : (a m : Log) (topic : List ℕ) (batch : Sent) (n : ℕ) → Keeps a m → NoneAdded a m → IsCount m topic (Some n) → are_within n batch.rows ≡ false
    → ProduceEnds a m topic (batch_of batch) (Some (Refused 40402))
ends_unknown_partition a m topic batch n keeps none count is =
    inr (inr (inl (
      had_topic a m topic keeps count.0,
      λ room. outside n batch.rows is (subst (λ (k : ℕ). All (has_room k) (map given_of batch.rows)) (sym (same_parts a m topic keeps) ∙ count.1) room),
      none,
      refl,
    )))

pub ends_unasked : (a m : Log) (topic : List ℕ) (batch : Sent) (c d : Counts) (e : LinkNo) (reply : Reply) → NoneAdded a m → ComesOf c d e → reply ≡ link_reply e
    → ProduceEnds a m topic (batch_of batch) (Some reply)
ends_unasked a m topic batch c d e reply none comes says =
    inr (inr (inr (record { unknown = inr none; why = link_reply e; links = links c d e comes; says = ap (λ r. Some r) says })))

pub ends_failed : (a m b : Log) (topic : List ℕ) (batch : Sent) (n : ℕ) (c d : Counts) (e : LinkNo) (reply : Reply) → Keeps a m → NoneAdded a m → IsCount m topic (Some n) → are_within n batch.rows ≡ true
    → Unknown m b topic (payloads_of n batch.rows) → ComesOf c d e → reply ≡ link_reply e → ProduceEnds a b topic (batch_of batch) (Some reply)
ends_failed a m b topic batch n c d e reply keeps none count is unknown comes says =
    let payloads : List Payload = payloads_of n batch.rows in
    let there : Unknown a b topic payloads = record {
      base = unknown.base;
      code = unknown.code;
      places = placed_since a m b unknown.code (numbered topic unknown.base [] payloads) keeps none unknown.places;
    } in
    inr (inr (inr (record {
      unknown = inl (
        (had_topic a m topic keeps count.0, has_rooms a m topic n batch.rows keeps count.1 is),
        subst (λ (ps : List Payload). Unknown a b topic ps) (sym (chosen_are a m topic n batch.rows keeps count.1)) there,
      );
      why = link_reply e;
      links = links c d e comes;
      says = ap (λ r. Some r) says;
    })))

-- the answers to records are no fault, and a record with a code was counted
pub counted_told : (c d e : Counts) (told : List Told) → CountsKept c d → CountsKept c e → (list_any is_failed (map placed_of told) ≡ true → Rose d.refusals e.refusals)
    → IsCounted c e (Answers (map placed_of told))
counted_told c d e told read kept codes = record {
  faults_kept = kept.faults_kept;
  refusals_kept = kept.refusals_kept;
  sent_kept = kept.sent_kept;
  polls_kept = kept.polls_kept;
  beats_kept = kept.beats_kept;
  fault = λ f. absurd (cc f);
  refusal = λ f. rose_on c.refusals d.refusals e.refusals read.refusals_kept (codes f);
  code = λ code is. absurd (cc is);
}
  where
    rose_on : (x y z : ℕ) → x ≤ y → Rose y z → Rose x z
    rose_on x y z le rose = omega (arith, le, rose)

-- what the code found of the records, of the list that it looked through
pub within_is : (n : ℕ) (rows given : List Row) (answer b : Bool) → given ≡ rows → answer ≡ are_within n given → answer ≡ b → are_within n rows ≡ b
within_is n rows given answer b same is got = ap (λ (rs : List Row). are_within n rs) (sym same) ∙ (sym is ∙ got)

-- the same of the count as a number of 32 bits
pub within_number : (count n : ℕ) (rows given : List Row) (answer : Bool) → n ≡ count → given ≡ rows → answer ≡ are_within count given → answer ≡ true → are_within n rows ≡ true
within_number count n rows given answer is same found got = ap (λ (k : ℕ). are_within k rows) is ∙ within_is count rows given answer true same found got

-- ---- what is answered is never that the link found no memory

pub told_apart : (told : List Told) → Ok told ≢ Err (LinkFailed Want)
told_apart told is = cc is

pub failed_apart : (r : Result (List Told) ProduceNo) (e : ProduceNo) → r ≡ Err e → e ≢ LinkFailed Want → r ≢ Err (LinkFailed Want)
failed_apart r e was apart is = apart (cc (was, is))

-- what isn't answered so names no topic or partition
pub told_refuses : (told : List Told) → (◌≡◌ {A = Result (List Told) ProduceNo} (Ok told) (Err NoTopic)) ⊎ (◌≡◌ {A = Result (List Told) ProduceNo} (Ok told) (Err NoPartition)) → ⊥
told_refuses told (inl is) = absurd (cc is)
told_refuses told (inr is) = absurd (cc is)

pub failed_refuses : (e : ProduceNo) → (e ≢ NoTopic) × (e ≢ NoPartition) → (◌≡◌ {A = Result (List Told) ProduceNo} (Err e) (Err NoTopic)) ⊎ (◌≡◌ {A = Result (List Told) ProduceNo} (Err e) (Err NoPartition)) → ⊥
failed_refuses e never (inl is) = never.0 (cc is)
failed_refuses e never (inr is) = never.1 (cc is)

pub no_topic_apart : NoTopic ≢ LinkFailed Want
no_topic_apart is = cc is

pub no_partition_apart : NoPartition ≢ LinkFailed Want
no_partition_apart is = cc is

-- ---- a plain link refuses no record of a partition that is there

pub all_stored : (m : Log) (topic : List ℕ) (n i : ℕ) (told : List Told) (rows : List Row) → parts_of m topic ≡ n → All (TellsPlainly m topic) told
    → map (λ (t : Told). t.partition) told ≡ partitions (chosen n i (map given_of rows)) → are_within n rows ≡ true → All IsStored (map placed_of told)
all_stored m topic n i [] rows count plain whose is = All-nil IsStored
all_stored m topic n i (t ∷ ts) [] count plain whose is = absurd (cc whose)
all_stored m topic n i (t ∷ ts) (r ∷ rs) count plain whose is =
    let others : map (λ (t : Told). t.partition) ts ≡ partitions (chosen n (i + 1) (map given_of rs)) = cc whose in
    go (nat_lt (number_in r) n) refl (is_zero t.code) refl (λ w. all_stored m topic n (i + 1) ts rs count (All-tail (TellsPlainly m topic) t ts plain) others w)
  where
    same : t.partition ≡ number_at n i r
    same = cc whose

    below : (x y : ℕ) → nat_lt x y ≡ true → x < y
    below x y e = grind (arith, nat_tests)

    go : (b : Bool) → nat_lt (number_in r) n ≡ b → (z : Bool) → is_zero t.code ≡ z → (are_within n rs ≡ true → All IsStored (map placed_of ts)) → All IsStored (map placed_of (t ∷ ts))
    go false e z f ih = absurd (cc (is, the_rest))
      where
        the_rest : are_within n (r ∷ rs) ≡ false
        the_rest = rw e refl
    go true e true f ih =
        let rest : are_within n (r ∷ rs) ≡ are_within n rs = rw e refl in
        let stored : placed_of t ≡ Stored t.partition t.offset = rw f refl in
        let here : IsStored (placed_of t) = subst IsStored (sym stored) tt in
        All-cons IsStored (placed_of t) (map placed_of ts) here (ih (sym rest ∙ is))
    go true e false f ih =
        let lacks = All-head (TellsPlainly m topic) t ts plain in
        let low : number_at n i r < n = number_low n i r (below (number_in r) n e) in
        let there : t.partition < parts_of m topic = omega (arith, low, same, count) in
        absurd ((lacks (λ zero. cc (f, ap is_zero zero))).1 there)

-- a request has a record, so a topic that has room for all has a partition
pub some_parts : (n : ℕ) (rows : List Row) → 0 < length rows → are_within n rows ≡ true → 0 < n
some_parts n [] some is = absurd (omega (arith, some))
some_parts n (r ∷ rs) some is = omega (arith, All-head (has_room n) (given_of r) (map given_of rs) (within n (r ∷ rs) is))
