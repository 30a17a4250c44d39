use Rattle.std.proofs.Common.{refl}
use Rattle.wire_layout.proofs.Rows.{◌▷◌, kept8, kept16}
use Rattle.wire_data.proofs.metadata_response.decode_topic.Goals as goal

pub returns-clause-value : goal.returns-clause-value
returns-clause-value c = record {
  stored = record { code = c.in_ok-code.code; name = c.in_ok-name.name; internal = c.in_ok-flag.flag; rows = c.in_ok-rows.rows };
  is = rw (kept16 c.in_ok-code.code c.in_ok-code.ensures.fits, c.is_set-internal.ensures, kept8 c.in_ok-flag.flag c.in_ok-flag.ensures.fits) refl;
  takes = c.in_ok-code.ensures.value ▷ c.in_ok-name.ensures.value ▷ c.in_ok-flag.ensures.value ▷ c.in_ok-rows.ensures.value;
  fits = (c.in_ok-code.ensures.fits, (c.in_ok-name.ensures.fits, (c.in_ok-flag.ensures.fits, c.in_ok-rows.ensures.fits)));
}
