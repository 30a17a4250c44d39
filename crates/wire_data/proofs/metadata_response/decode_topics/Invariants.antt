use Rattle.std.proofs.Common.{◌≡◌, ◌-◌}
use Rattle.wire_layout.specs.Layout.{behind_many}
use Rattle.wire_data.specs.MetadataResponse.{AreTold, stored_topic}
use Rattle.wire_data.proofs.metadata_response.decode_topics.Given as goal

abbrev pub invariant-loop : goal.invariant-loop
invariant-loop l = record {
  told : AreTold l.counter l.topics l.fn.cursor l.cursor;
  behind : behind_many l.count stored_topic.behind l.fn.cursor.left ≡ behind_many (l.count - l.counter) stored_topic.behind l.cursor.left;
}
