use Rattle.wire_layout.proofs.Rows.{◌▷◌, kept16, kept32}
use Rattle.wire_data.proofs.metadata.MetadataResponseRow2RowLaid.decode.Goals as goal

pub returns-clause-value : goal.returns-clause-value
returns-clause-value c =
    rw (kept16 c.in_ok-code.code c.in_ok-code.ensures.fits, kept32 c.in_ok-partition.partition c.in_ok-partition.ensures.fits, kept32 c.in_ok-leader.leader c.in_ok-leader.ensures.fits)
    (c.in_ok-code.ensures.value ▷ c.in_ok-partition.ensures.value ▷ c.in_ok-leader.ensures.value ▷ c.in_ok-replica.ensures.value ▷ c.in_ok-in_sync.ensures.value)
