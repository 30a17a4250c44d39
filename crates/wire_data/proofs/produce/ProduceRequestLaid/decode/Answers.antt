use Rattle.wire_layout.proofs.Rows.{◌▷◌, kept16, kept32}
use Rattle.wire_data.proofs.produce.ProduceRequestLaid.decode.Goals as goal

pub returns-clause-value : goal.returns-clause-value
returns-clause-value c =
    rw (kept16 c.in_ok-acks.acks c.in_ok-acks.ensures.fits, kept32 c.in_ok-timeout_ms.timeout_ms c.in_ok-timeout_ms.ensures.fits)
    (c.in_ok-transactional_id.ensures.value ▷ c.in_ok-acks.ensures.value ▷ c.in_ok-timeout_ms.ensures.value ▷ c.in_ok-rows.ensures.value)
