use Rattle.wire_layout.proofs.Rows.{◌▷◌, kept8, kept32}
use Rattle.wire_data.proofs.fetch.FetchRequestLaid.decode.Goals as goal

pub returns-clause-value : goal.returns-clause-value
returns-clause-value c =
    rw (kept32 c.in_ok-replica.replica c.in_ok-replica.ensures.fits, kept32 c.in_ok-max_wait_ms.max_wait_ms c.in_ok-max_wait_ms.ensures.fits, kept32 c.in_ok-min_bytes.min_bytes c.in_ok-min_bytes.ensures.fits, kept32 c.in_ok-max_bytes.max_bytes c.in_ok-max_bytes.ensures.fits, kept8 c.in_ok-isolation.isolation c.in_ok-isolation.ensures.fits)
    (c.in_ok-replica.ensures.value ▷ c.in_ok-max_wait_ms.ensures.value ▷ c.in_ok-min_bytes.ensures.value ▷ c.in_ok-max_bytes.ensures.value ▷ c.in_ok-isolation.ensures.value ▷ c.in_ok-rows.ensures.value)
