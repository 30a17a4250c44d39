use Rattle.rest_routes.specs.Media.{is_semicolon}
use Rattle.rest_routes.proofs.Parts.{before_none, before_place}
use Rattle.rest_routes.proofs.media.type_in.Goals as goal

pub returns-in-Some : goal.returns-in-Some
returns-in-Some c = before_place is_semicolon c.args.member.now c.in-Some.place c.in-Some.ensures.place

pub returns-in-None : goal.returns-in-None
returns-in-None c = before_none is_semicolon c.args.member.now c.in-None.ensures.place
