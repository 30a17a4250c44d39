use Rattle.std.proofs.Common.{None}
use Rattle.rest_calls.specs.Reading.{records_in}
use Rattle.rest_routes.specs.Media.{format_in}
use Rattle.rest_calls.proofs.Records.{produce_fails, produce_reads}
use Rattle.rest_calls.proofs.sent.produce.Goals as goal

pub returns-in-Ok-clause-reads : goal.returns-in-Ok-clause-reads
returns-in-Ok-clause-reads c =
    let found = records_in (format_in c.args.request.now.content_type) None c.args.request.now.body in
    produce_reads c.args.topic found c.in-Ok.batch c.in-Ok.ensures.reads

pub returns-in-Err-clause-reads : goal.returns-in-Err-clause-reads
returns-in-Err-clause-reads c =
    let found = records_in (format_in c.args.request.now.content_type) None c.args.request.now.body in
    produce_fails c.args.topic found c.in-Err.e c.in-Err.ensures.reads
