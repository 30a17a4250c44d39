use Rattle.wire_layout.proofs.Rows.{◌▷◌, kept16, kept32, kept64}
use Rattle.wire_data.proofs.produce.ProduceResponseRowRowLaid.decode.Goals as goal

pub returns-clause-value : goal.returns-clause-value
returns-clause-value c =
    rw (kept32 c.in_ok-partition.partition c.in_ok-partition.ensures.fits, kept16 c.in_ok-code.code c.in_ok-code.ensures.fits, kept64 c.in_ok-base_offset.base_offset c.in_ok-base_offset.ensures.fits, kept64 c.in_ok-append_time.append_time c.in_ok-append_time.ensures.fits)
    (c.in_ok-partition.ensures.value ▷ c.in_ok-code.ensures.value ▷ c.in_ok-base_offset.ensures.value ▷ c.in_ok-append_time.ensures.value)
