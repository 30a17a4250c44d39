use Rattle.wire_layout.proofs.Loops.{put_more, fits_more}
use Rattle.wire_data.specs.MetadataResponse.{as_stored, stored_topic}
use Rattle.wire_data.proofs.metadata_response.put_topics.Goals as goal

pub loop-topic-preserved : goal.loop-topic-preserved
loop-topic-preserved c =
    let kept = c.loop-topic.invariant in
    record {
      written = put_more (λ t. stored_topic.spelling (as_stored t)) c.args.topics.now c.loop-topic.topic-index _ _ _ _ c.loop-topic-test.true c.topic-item.is kept.written c.in_ok-put_topic.ensures.ok;
      fits = fits_more (λ t. stored_topic.fits (as_stored t)) c.args.topics.now c.loop-topic.topic-index _ c.loop-topic-test.true c.topic-item.is kept.fits c.in_ok-put_topic.ensures.fits;
    }
