-- The replies of the example histories of reading, computed.
use Rattle.std.proofs.Common.{◌≡◌, refl}
use Rattle.std.specs.Fmt.{digits}
use Rattle.json.specs.Print.{escape_byte}
use Rattle.model.specs.examples.Readings.{read_by_one, read_after_seek, read_from_the_start, read_from_the_end}
use Rattle.model.specs.examples.Subscribing.{read_by_subscription}
use Rattle.model.specs.examples.Asking.{questions}
use Rattle.model.specs.examples.ReadingReplies.{told_of_topics, replies_of, one_by_one, after_seek, from_the_start, from_the_end, by_subscription, made_again}
use Rattle.model.specs.examples.Expiring.{made_used_gone}

pub read_by_one_replies : replies_of read_by_one ≡ one_by_one
unfolding digits escape_byte
read_by_one_replies = refl

pub read_after_seek_replies : replies_of read_after_seek ≡ after_seek
unfolding digits escape_byte
read_after_seek_replies = refl

pub read_from_the_start_replies : replies_of read_from_the_start ≡ from_the_start
unfolding digits escape_byte
read_from_the_start_replies = refl

pub read_from_the_end_replies : replies_of read_from_the_end ≡ from_the_end
unfolding digits escape_byte
read_from_the_end_replies = refl

pub read_by_subscription_replies : replies_of read_by_subscription ≡ by_subscription
unfolding digits escape_byte
read_by_subscription_replies = refl

pub made_used_gone_replies : replies_of made_used_gone ≡ made_again
unfolding digits escape_byte
made_used_gone_replies = refl

pub questions_replies : replies_of questions ≡ told_of_topics
unfolding digits escape_byte
questions_replies = refl
