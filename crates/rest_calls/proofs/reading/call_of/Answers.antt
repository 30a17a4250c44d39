use Rattle.rest_calls.proofs.Refusing.{lacking, nowhere, read_there, refuses, unaccepted, unsupported}
use Rattle.rest_calls.specs.Reading.{Refuses}
use Rattle.rest_calls.proofs.reading.call_of.Goals as goal

pub returns-in-Err-NotFound-clause-refused : goal.returns-in-Err-NotFound-clause-refused
returns-in-Err-NotFound-clause-refused c =
    refuses c.args.request.now _ 404 c.refused.ensures (nowhere c.args.request.now (rw c.in-Err-NotFound.field-0-is at c.in-Err-NotFound.ensures.missed))

pub returns-in-Err-NoMethod-clause-refused : goal.returns-in-Err-NoMethod-clause-refused
returns-in-Err-NoMethod-clause-refused c =
    lacking c.args.request.now c.in-Err-NoMethod.allow (rw c.in-Err-NoMethod.field-0-is at c.in-Err-NoMethod.ensures.missed)

pub returns-then-not-is_acceptable-clause-refused : goal.returns-then-not-is_acceptable-clause-refused
returns-then-not-is_acceptable-clause-refused c =
    refuses c.args.request.now _ 406 c.refused-then-not-is_acceptable.ensures
    (unaccepted c.args.request.now c.in-Ok.place _ c.in-Ok.ensures.found c.is_acceptable.ensures c.if-not-is_acceptable.true)

pub returns-then-not-is_supported-clause-refused : goal.returns-then-not-is_supported-clause-refused
returns-then-not-is_supported-clause-refused c =
    refuses c.args.request.now _ 415 c.refused-then-not-is_supported.ensures
    (unsupported c.args.request.now c.in-Ok.place _ _ c.in-Ok.ensures.found c.is_acceptable.ensures c.if-not-is_acceptable.false c.is_supported.ensures c.if-not-is_supported.true)

pub returns-in-Err-Unreadable-clause-refused : goal.returns-in-Err-Unreadable-clause-refused
returns-in-Err-Unreadable-clause-refused c =
    refuses c.args.request.now _ 422 c.refused-in-Err-Unreadable.ensures
    (read_there c.args.request.now c.in-Ok.place _ _ (Refuses 422) c.in-Ok.ensures.found c.is_acceptable.ensures c.if-not-is_acceptable.false c.is_supported.ensures c.if-not-is_supported.false
    (rw c.in-Err-Unreadable.field-0-is at c.in-Err-Unreadable.ensures.reads))

pub returns-in-Err-Invalid-clause-refused : goal.returns-in-Err-Invalid-clause-refused
returns-in-Err-Invalid-clause-refused c =
    refuses c.args.request.now _ 42204 c.refused-in-Err-Invalid.ensures
    (read_there c.args.request.now c.in-Ok.place _ _ (Refuses 42204) c.in-Ok.ensures.found c.is_acceptable.ensures c.if-not-is_acceptable.false c.is_supported.ensures c.if-not-is_supported.false
    (rw c.in-Err-Invalid.field-0-is at c.in-Err-Invalid.ensures.reads))
