use Rattle.wire_layout.proofs.Rows.{◌▷◌, kept16, kept32, kept64}
use Rattle.wire_data.proofs.list_offsets.ListOffsetsResponseRowRowLaid.decode.Goals as goal

pub returns-clause-value : goal.returns-clause-value
returns-clause-value c =
    rw (kept32 c.in_ok-partition.partition c.in_ok-partition.ensures.fits, kept16 c.in_ok-code.code c.in_ok-code.ensures.fits, kept64 c.in_ok-timestamp.timestamp c.in_ok-timestamp.ensures.fits, kept64 c.in_ok-offset.offset c.in_ok-offset.ensures.fits)
    (c.in_ok-partition.ensures.value ▷ c.in_ok-code.ensures.value ▷ c.in_ok-timestamp.ensures.value ▷ c.in_ok-offset.ensures.value)
