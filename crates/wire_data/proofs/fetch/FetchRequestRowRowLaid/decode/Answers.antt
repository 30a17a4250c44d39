use Rattle.wire_layout.proofs.Rows.{◌▷◌, kept32, kept64}
use Rattle.wire_data.proofs.fetch.FetchRequestRowRowLaid.decode.Goals as goal

pub returns-clause-value : goal.returns-clause-value
returns-clause-value c =
    rw (kept32 c.in_ok-partition.partition c.in_ok-partition.ensures.fits, kept64 c.in_ok-offset.offset c.in_ok-offset.ensures.fits, kept32 c.in_ok-max_bytes.max_bytes c.in_ok-max_bytes.ensures.fits)
    (c.in_ok-partition.ensures.value ▷ c.in_ok-offset.ensures.value ▷ c.in_ok-max_bytes.ensures.value)
