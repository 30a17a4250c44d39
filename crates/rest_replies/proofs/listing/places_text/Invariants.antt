use Rattle.std.proofs.Common.{◌≡◌, ◌++◌, map, take}
use Rattle.std.specs.Prelude.{codes, string_bytes}
use Rattle.model.specs.texts.Bodies.{joined}
use Rattle.rest_replies.proofs.ListingLemmas.{text_of}
use Rattle.rest_replies.proofs.listing.places_text.Given as goal

abbrev pub invariant-loop-i : goal.invariant-loop-i
invariant-loop-i l = string_bytes l.text ≡ codes "{\"partitions\":[" ++ joined (map text_of (take l.i l.places))
