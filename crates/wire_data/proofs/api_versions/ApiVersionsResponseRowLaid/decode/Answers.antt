use Rattle.wire_layout.proofs.Rows.{◌▷◌, kept16}
use Rattle.wire_data.proofs.api_versions.ApiVersionsResponseRowLaid.decode.Goals as goal

pub returns-clause-value : goal.returns-clause-value
returns-clause-value c =
    rw (kept16 c.in_ok-key.key c.in_ok-key.ensures.fits, kept16 c.in_ok-min.min c.in_ok-min.ensures.fits, kept16 c.in_ok-max.max c.in_ok-max.ensures.fits)
    (c.in_ok-key.ensures.value ▷ c.in_ok-min.ensures.value ▷ c.in_ok-max.ensures.value)
