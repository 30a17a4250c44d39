-- What a question stands for in the model (Confluent REST Proxy API v2, brokers, topics and partitions).
use Rattle.model.specs.state.Entry as model
use Rattle.model.specs.state.Entry.Question.{Brokers as AllBrokers, Topics as AllTopics, OneTopic, Parts, OnePart, EndOffsets as Edges}
use Rattle.broker_link.specs.Fetching.{at_of}
use Rattle.rest_calls.specs.declared.question.Question.{Question}
use Rattle.rest_calls.specs.declared.question.Question.TheVariants.{Brokers, Topics, Topic, Partitions, Partition, EndOffsets}

abbrev pub question_of : Question → model.Question
question_of Brokers = AllBrokers
question_of Topics = AllTopics
question_of (Topic name) = OneTopic name
question_of (Partitions name) = Parts name
question_of (Partition part) = OnePart (at_of part)
question_of (EndOffsets part) = Edges (at_of part)
