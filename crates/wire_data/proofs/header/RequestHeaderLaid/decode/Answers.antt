use Rattle.wire_layout.proofs.Rows.{◌▷◌, kept16, kept32}
use Rattle.wire_data.proofs.header.RequestHeaderLaid.decode.Goals as goal

pub returns-clause-value : goal.returns-clause-value
returns-clause-value c =
    rw (kept16 c.in_ok-key.key c.in_ok-key.ensures.fits, kept16 c.in_ok-version.version c.in_ok-version.ensures.fits, kept32 c.in_ok-correlation.correlation c.in_ok-correlation.ensures.fits)
    (c.in_ok-key.ensures.value ▷ c.in_ok-version.ensures.value ▷ c.in_ok-correlation.ensures.value ▷ c.in_ok-client.ensures.value)
