use Rattle.avro_codec.proofs.ReadLemmas.{text_read, text_unread}
use Rattle.avro_codec.proofs.cursor.Cursor.text.Goals as goal

pub returns-in-Ok-from_utf8-clause-value : goal.returns-in-Ok-from_utf8-clause-value
returns-in-Ok-from_utf8-clause-value c =
    let a = c.in-Ok-from_utf8.ensures.cases in
    text_read c.args.node c.args.self.now c.in-Ok.piece.now c.in-Ok-from_utf8.text.now c.sized.new.self c.in-Ok.ensures.value a.0 a.1

pub returns-in-Err-from_utf8-clause-value : goal.returns-in-Err-from_utf8-clause-value
returns-in-Err-from_utf8-clause-value c = text_unread c.args.node c.args.self.now c.in-Ok.piece.now c.sized.new.self c.in-Ok.ensures.value c.in-Err-from_utf8.ensures.cases.0
