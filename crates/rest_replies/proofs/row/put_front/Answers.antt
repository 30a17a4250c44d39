use Rattle.std.specs.Prelude.{string_bytes}
use Rattle.rest_replies.proofs.RowLemmas.{front_put}
use Rattle.rest_replies.proofs.row.put_front.Goals as goal

pub returns : goal.returns
returns c =
    let key = c.in_ok-put_stored.ensures in
    front_put c.args.format c.args.topic.now c.args.stored.now.key c.args.stored.now.value (string_bytes c.args.text.now) (string_bytes c.push_str.new.self) (string_bytes c.push_str-2.new.self) (string_bytes c.put_stored.new.text) (string_bytes c.push_str-3.new.self)
    (string_bytes c.put_stored-2.new.text) key.0 c.put_stored-2.result c.in_ok-push_str.ensures.bytes c.in_ok-push_str-2.ensures.bytes key.1 key.2 c.in_ok-push_str-3.ensures.bytes c.put_stored-2.ensures
