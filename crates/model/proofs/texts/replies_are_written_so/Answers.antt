use Rattle.model.proofs.Checks.{stored_text, failed_text, brokers_text, topics_text, part_text, parts_text, topic_text, offsets_text, made_text, deleted_text, subscribed_text, listed_text, committed_text, unread_text, retriable_text, another_code_text, link_text, no_topic_text, no_partition_text, no_instance_text, format_text, exists_text, exclusive_text, unassigned_text}
use Rattle.model.proofs.texts.replies_are_written_so.Goals as goal

pub returns-clause-stored : goal.returns-clause-stored
returns-clause-stored c = stored_text

pub returns-clause-failed : goal.returns-clause-failed
returns-clause-failed c = failed_text

pub returns-clause-brokers : goal.returns-clause-brokers
returns-clause-brokers c = brokers_text

pub returns-clause-topics : goal.returns-clause-topics
returns-clause-topics c = topics_text

pub returns-clause-part : goal.returns-clause-part
returns-clause-part c = part_text

pub returns-clause-parts : goal.returns-clause-parts
returns-clause-parts c = parts_text

pub returns-clause-topic : goal.returns-clause-topic
returns-clause-topic c = topic_text

pub returns-clause-offsets : goal.returns-clause-offsets
returns-clause-offsets c = offsets_text

pub returns-clause-made : goal.returns-clause-made
returns-clause-made c = made_text

pub returns-clause-deleted : goal.returns-clause-deleted
returns-clause-deleted c = deleted_text

pub returns-clause-subscribed : goal.returns-clause-subscribed
returns-clause-subscribed c = subscribed_text

pub returns-clause-listed : goal.returns-clause-listed
returns-clause-listed c = listed_text

pub returns-clause-committed : goal.returns-clause-committed
returns-clause-committed c = committed_text

pub returns-clause-unread : goal.returns-clause-unread
returns-clause-unread c = unread_text

pub returns-clause-retriable : goal.returns-clause-retriable
returns-clause-retriable c = retriable_text

pub returns-clause-another_code : goal.returns-clause-another_code
returns-clause-another_code c = another_code_text

pub returns-clause-link : goal.returns-clause-link
returns-clause-link c = link_text

pub returns-clause-no_topic : goal.returns-clause-no_topic
returns-clause-no_topic c = no_topic_text

pub returns-clause-no_partition : goal.returns-clause-no_partition
returns-clause-no_partition c = no_partition_text

pub returns-clause-no_instance : goal.returns-clause-no_instance
returns-clause-no_instance c = no_instance_text

pub returns-clause-format : goal.returns-clause-format
returns-clause-format c = format_text

pub returns-clause-exists : goal.returns-clause-exists
returns-clause-exists c = exists_text

pub returns-clause-exclusive : goal.returns-clause-exclusive
returns-clause-exclusive c = exclusive_text

pub returns-clause-unassigned : goal.returns-clause-unassigned
returns-clause-unassigned c = unassigned_text
