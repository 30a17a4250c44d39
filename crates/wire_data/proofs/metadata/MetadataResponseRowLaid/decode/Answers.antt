use Rattle.wire_layout.proofs.Rows.{◌▷◌, kept32}
use Rattle.wire_data.proofs.metadata.MetadataResponseRowLaid.decode.Goals as goal

pub returns-clause-value : goal.returns-clause-value
returns-clause-value c =
    rw (kept32 c.in_ok-node.node c.in_ok-node.ensures.fits, kept32 c.in_ok-port.port c.in_ok-port.ensures.fits)
    (c.in_ok-node.ensures.value ▷ c.in_ok-host.ensures.value ▷ c.in_ok-port.ensures.value ▷ c.in_ok-rack.ensures.value)
