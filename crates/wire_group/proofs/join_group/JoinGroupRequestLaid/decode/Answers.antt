use Rattle.wire_layout.proofs.Rows.{◌▷◌, kept32}
use Rattle.wire_group.proofs.join_group.JoinGroupRequestLaid.decode.Goals as goal

pub returns-clause-value : goal.returns-clause-value
returns-clause-value c =
    rw (kept32 c.in_ok-session_ms.session_ms c.in_ok-session_ms.ensures.fits, kept32 c.in_ok-rebalance_ms.rebalance_ms c.in_ok-rebalance_ms.ensures.fits)
    (c.in_ok-group.ensures.value ▷ c.in_ok-session_ms.ensures.value ▷ c.in_ok-rebalance_ms.ensures.value ▷ c.in_ok-member.ensures.value ▷ c.in_ok-protocol_type.ensures.value ▷ c.in_ok-rows.ensures.value)
