use Rattle.wire_layout.proofs.Rows.{◌▷◌, kept16, kept32}
use Rattle.wire_group.proofs.find_coordinator.FindCoordinatorResponseLaid.decode.Goals as goal

pub returns-clause-value : goal.returns-clause-value
returns-clause-value c =
    rw (kept16 c.in_ok-code.code c.in_ok-code.ensures.fits, kept32 c.in_ok-node.node c.in_ok-node.ensures.fits, kept32 c.in_ok-port.port c.in_ok-port.ensures.fits)
    (c.in_ok-code.ensures.value ▷ c.in_ok-node.ensures.value ▷ c.in_ok-host.ensures.value ▷ c.in_ok-port.ensures.value)
