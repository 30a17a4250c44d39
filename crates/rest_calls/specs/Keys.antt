-- The bytes by which a call finds its shard: a consumer's group and instance, or a topic, and which shard that is.
use Rattle.std.specs.Prelude.{ℕ, List, []}
use Rattle.model.specs.state.World.{key_bytes}
use Rattle.model.specs.state.Entry.{Call, Question}
use Rattle.model.specs.state.Entry.Call.{Produce, Ask, Of}
use Rattle.model.specs.state.Entry.Question.{Brokers, Topics, OneTopic, Parts, OnePart, EndOffsets}

-- the topic that a question is about, and none of one about all
abbrev pub topic_asked : Question → List ℕ
topic_asked Brokers = []
topic_asked Topics = []
topic_asked (OneTopic topic) = topic
topic_asked (Parts topic) = topic
topic_asked (OnePart at) = at.topic
topic_asked (EndOffsets at) = at.topic

-- a consumer's key in bytes, or the topic of a produce or a question
abbrev pub key_bytes_of : Call → List ℕ
key_bytes_of (Produce topic batch) = topic
key_bytes_of (Ask question) = topic_asked question
key_bytes_of (Of key act) = key_bytes key
