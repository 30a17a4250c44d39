use Rattle.std.proofs.Common.{◌≡◌, ◌∙◌, ℕ, ap, refl, subst, sym, inl, Some, false}
use Rattle.model.specs.state.Log.{IsLog}
use Rattle.model.specs.state.Entry.Reply.{Refused}
use Rattle.broker_link.specs.Count.{IsCount}
use Rattle.broker_link.specs.Replies.{IsCounted, IsGood, link_reply}
use Rattle.broker_link.proofs.CountedLemmas.{comes_on, counted_done, counted_failed}
use Rattle.broker_link.proofs.Going.{goes_on, once_behind, same_commits_on}
use Rattle.rest_replies.specs.Answer.{refusal_reply}
use Rattle.rest_replies.specs.declared.answer.ProduceNo.TheVariants.{NoPartition, NoTopic}
use Rattle.producer.proofs.Ends.{all_stored, counted_told, ends_answered, ends_failed, ends_unasked, ends_unknown_partition, ends_unknown_topic, failed_apart, failed_refuses, no_partition_apart, no_topic_apart, some_parts, told_apart, told_refuses, within_is, within_number}
use Rattle.producer.proofs.request.produce.Goals as goal

pub returns-in-Ok-None : goal.returns-in-Ok-None
returns-in-Ok-None g c =
    let a = g.L.Link.stand c.args.link.now in
    let m = g.L.Link.stand c.count_parts.new.link in
    let read = c.count_parts.ensures.goes in
    record {
      ends = λ tells is. ends_unknown_topic a.log m.log c.args.topic.now c.args.batch (read.goes.keeps tells) (read.none tells) (rw c.in-Ok-None.field-0-is at (c.in-Ok-None.ensures.counted tells is));
      apart = failed_apart _ NoTopic refl no_topic_apart;
      goes = read.goes;
      asked = inl read.asked;
      unsent = λ refused. read.asked;
      commits = read.commits;
      counts = counted_done a.counts m.counts (Refused 40401) read.goes.counts refl refl;
      good = λ plain tells is. tt;
    }

pub returns-in-Err : goal.returns-in-Err
returns-in-Err g c =
    let a = g.L.Link.stand c.args.link.now in
    let m = g.L.Link.stand c.count_parts.new.link in
    let read = c.count_parts.ensures.goes in
    let cause = c.in-Err.ensures.goes.answers.cause in
    let reply : refusal_reply c.failed.result ≡ link_reply c.in-Err.e = c.failed.ensures.reply in
    record {
      ends = λ tells is. ends_unasked a.log m.log c.args.topic.now c.args.batch a.counts m.counts c.in-Err.e (refusal_reply c.failed.result) (read.none tells) cause reply;
      apart = failed_apart _ c.failed.result refl c.failed.ensures.apart;
      goes = read.goes;
      asked = inl read.asked;
      unsent = λ refused. read.asked;
      commits = read.commits;
      counts = subst (IsCounted a.counts m.counts) (sym reply) (counted_failed a.counts m.counts c.in-Err.e read.goes.counts cause);
      good = λ plain tells is. subst IsGood (sym (reply ∙ ap link_reply (c.in-Err.ensures.plainly plain))) tt;
    }

pub returns-then-not-are_within : goal.returns-then-not-are_within
returns-then-not-are_within g c =
    let a = g.L.Link.stand c.args.link.now in
    let m = g.L.Link.stand c.count_parts.new.link in
    let read = c.count_parts.ensures.goes in
    let outside = within_is c.in-Ok-Some.count c.args.batch.rows c.as_slice.result.now c.are_within.result false c.as_slice.ensures c.are_within.ensures c.if-not-are_within.true in
    let count : a.tells → IsLog a.log → IsCount m.log c.args.topic.now (Some c.in-Ok-Some.count) = λ tells is. rw c.in-Ok-Some.field-0-is at (c.in-Ok-Some.ensures.counted tells is) in
    record {
      ends = λ tells is. ends_unknown_partition a.log m.log c.args.topic.now c.args.batch c.in-Ok-Some.count (read.goes.keeps tells) (read.none tells) (count tells is) outside;
      apart = failed_apart _ NoPartition refl no_partition_apart;
      goes = read.goes;
      asked = inl read.asked;
      unsent = λ refused. read.asked;
      commits = read.commits;
      counts = counted_done a.counts m.counts (Refused 40402) read.goes.counts refl refl;
      good = λ plain tells is. tt;
    }

pub send_parts-requires-clause-room : goal.send_parts-requires-clause-room
send_parts-requires-clause-room g c =
    let inside = within_number c.in-Ok-Some.count c.in-Some.count c.args.batch.rows c.as_slice.result.now c.are_within.result c.in-Some.ensures.some c.as_slice.ensures c.are_within.ensures c.if-not-are_within.false in
    (some_parts c.in-Some.count c.args.batch.rows c.requires.some inside, c.in-Some.ensures.few)

pub returns-in-Ok : goal.returns-in-Ok
returns-in-Ok g c =
    let a = g.L.Link.stand c.args.link.now in
    let m = g.L.Link.stand c.count_parts.new.link in
    let b = g.L.Link.stand c.send_parts.new.link in
    let read = c.count_parts.ensures.goes in
    let sends = c.in-Ok.ensures in
    let goes = goes_on a m b read.goes sends.goes.goes in
    let inside = within_number c.in-Ok-Some.count c.in-Some.count c.args.batch.rows c.as_slice.result.now c.are_within.result c.in-Some.ensures.some c.as_slice.ensures c.are_within.ensures c.if-not-are_within.false in
    let count : a.tells → IsLog a.log → IsCount m.log c.args.topic.now (Some c.in-Some.count) = λ tells is.
    subst (λ (n : ℕ). IsCount m.log c.args.topic.now (Some n)) (sym c.in-Some.ensures.some) (rw c.in-Ok-Some.field-0-is at (c.in-Ok-Some.ensures.counted tells is)) in
    record {
      ends = λ tells is.
          ends_answered a.log m.log b.log c.args.topic.now c.args.batch c.in-Some.count c.in-Ok.told (read.goes.keeps tells) (read.none tells) (count tells is) inside (sends.answered (read.goes.telling tells));
      apart = told_apart c.in-Ok.told;
      goes = goes;
      asked = once_behind c.args.now a.produces m.produces b.produces read.asked sends.asked;
      unsent = λ refused. absurd (told_refuses c.in-Ok.told refused);
      commits = λ tells. same_commits_on a.log m.log b.log (read.commits tells) (sends.goes.commits (read.goes.telling tells));
      counts = counted_told a.counts m.counts b.counts c.in-Ok.told read.goes.counts goes.counts sends.codes;
      good = λ plain tells is.
          all_stored m.log c.args.topic.now c.in-Some.count 0 c.in-Ok.told c.args.batch.rows (count tells is).1 (sends.lacked (read.goes.plainly plain) (read.goes.telling tells)) sends.whose inside;
    }

pub returns-in-Err-send_parts : goal.returns-in-Err-send_parts
returns-in-Err-send_parts g c =
    let a = g.L.Link.stand c.args.link.now in
    let m = g.L.Link.stand c.count_parts.new.link in
    let b = g.L.Link.stand c.send_parts.new.link in
    let read = c.count_parts.ensures.goes in
    let sends = c.in-Err-send_parts.ensures in
    let goes = goes_on a m b read.goes sends.goes.goes in
    let reply : refusal_reply c.failed-in-Err-send_parts.result ≡ link_reply c.in-Err-send_parts.e = c.failed-in-Err-send_parts.ensures.reply in
    let inside = within_number c.in-Ok-Some.count c.in-Some.count c.args.batch.rows c.as_slice.result.now c.are_within.result c.in-Some.ensures.some c.as_slice.ensures c.are_within.ensures c.if-not-are_within.false in
    let count : a.tells → IsLog a.log → IsCount m.log c.args.topic.now (Some c.in-Some.count) = λ tells is.
    subst (λ (n : ℕ). IsCount m.log c.args.topic.now (Some n)) (sym c.in-Some.ensures.some) (rw c.in-Ok-Some.field-0-is at (c.in-Ok-Some.ensures.counted tells is)) in
    record {
      ends = λ tells is.
          ends_failed a.log m.log b.log c.args.topic.now c.args.batch c.in-Some.count m.counts b.counts c.in-Err-send_parts.e (refusal_reply c.failed-in-Err-send_parts.result) (read.goes.keeps tells) (read.none tells) (count tells is) inside
          (sends.unknown (read.goes.telling tells)) sends.goes.answers.cause reply;
      apart = failed_apart _ c.failed-in-Err-send_parts.result refl c.failed-in-Err-send_parts.ensures.apart;
      goes = goes;
      asked = once_behind c.args.now a.produces m.produces b.produces read.asked sends.asked;
      unsent = λ refused. absurd (failed_refuses c.failed-in-Err-send_parts.result c.failed-in-Err-send_parts.ensures.links refused);
      commits = λ tells. same_commits_on a.log m.log b.log (read.commits tells) (sends.goes.commits (read.goes.telling tells));
      counts = subst (IsCounted a.counts b.counts) (sym reply) (counted_failed a.counts b.counts c.in-Err-send_parts.e goes.counts (comes_on a.counts m.counts b.counts c.in-Err-send_parts.e read.goes.counts sends.goes.answers.cause));
      good = λ plain tells is. subst IsGood (sym (reply ∙ ap link_reply (sends.plainly (read.goes.plainly plain)))) tt;
    }
