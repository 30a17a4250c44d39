use Rattle.wire_layout.proofs.Rows.{◌▷◌, kept16, kept32}
use Rattle.wire_group.proofs.join_group.JoinGroupResponseLaid.decode.Goals as goal

pub returns-clause-value : goal.returns-clause-value
returns-clause-value c =
    rw (kept32 c.in_ok-throttle_ms.throttle_ms c.in_ok-throttle_ms.ensures.fits, kept16 c.in_ok-code.code c.in_ok-code.ensures.fits, kept32 c.in_ok-generation.generation c.in_ok-generation.ensures.fits)
    (c.in_ok-throttle_ms.ensures.value ▷ c.in_ok-code.ensures.value ▷ c.in_ok-generation.ensures.value ▷ c.in_ok-protocol.ensures.value ▷ c.in_ok-leader.ensures.value ▷ c.in_ok-member.ensures.value ▷ c.in_ok-rows.ensures.value)
