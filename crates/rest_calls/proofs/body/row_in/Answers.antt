use Rattle.std.proofs.Common.{option_map}
use Rattle.std.specs.Prelude.{codes, nat_abs}
use Rattle.json_span.specs.Parts.{last_member}
use Rattle.rest_calls.specs.Views.{bytes_of}
use Rattle.rest_calls.proofs.Records.{bad_key, bad_partition, bad_value, good_record}
use Rattle.rest_calls.proofs.body.row_in.Goals as goal

pub returns-in-Err-clause-reads : goal.returns-in-Err-clause-reads
returns-in-Err-clause-reads c = λ ms stands. bad_partition c.args.format (option_map nat_abs c.args.to) ms c.in-Err.e (c.in-Err.ensures.reads (last_member (codes "partition") ms) (c.member.ensures.value ms stands))

pub returns-in-Err-payload-clause-reads : goal.returns-in-Err-payload-clause-reads
returns-in-Err-payload-clause-reads c = λ ms stands. bad_key c.args.format (option_map nat_abs c.args.to) ms c.in-Err-payload.e (c.in-Err-payload.ensures (last_member (codes "key") ms) (c.member-2.ensures.value ms stands))

pub returns-in-Err-payload-2-clause-reads : goal.returns-in-Err-payload-2-clause-reads
returns-in-Err-payload-2-clause-reads c = λ ms stands. bad_value c.args.format (option_map nat_abs c.args.to) ms c.in-Err-payload-2.e (c.in-Err-payload-2.ensures (last_member (codes "value") ms) (c.member-3.ensures.value ms stands))

pub returns-in-Ok-payload-2-clause-reads : goal.returns-in-Ok-payload-2-clause-reads
returns-in-Ok-payload-2-clause-reads c = λ ms stands.
    good_record c.args.format (option_map nat_abs c.args.to) ms (option_map nat_abs c.in-Ok.partition) (bytes_of c.in-Ok-payload.key) (bytes_of c.in-Ok-payload-2.value)
    (c.in-Ok.ensures.reads (last_member (codes "partition") ms) (c.member.ensures.value ms stands))
    (c.in-Ok-payload.ensures (last_member (codes "key") ms) (c.member-2.ensures.value ms stands))
    (c.in-Ok-payload-2.ensures (last_member (codes "value") ms) (c.member-3.ensures.value ms stands))
