use Rattle.std.proofs.Common.{◌≡◌, ◌++◌, take}
use Rattle.wire_layout.specs.Layout.{each, spelled}
use Rattle.wire_data.specs.MetadataResponse.{as_stored, stored_topic}
use Rattle.wire_data.proofs.metadata_response.put_topics.Given as goal

abbrev pub invariant-loop-topic : goal.invariant-loop-topic
invariant-loop-topic l = record {
  written : l.out.items ≡ l.fn.out.items ++ spelled (λ t. stored_topic.spelling (as_stored t)) (take l.topic-index l.topics);
  fits : each (λ t. stored_topic.fits (as_stored t)) (take l.topic-index l.topics);
}
