use Rattle.wire_layout.proofs.Rows.{◌▷◌, kept32}
use Rattle.wire_group.proofs.sync_group.SyncGroupRequestLaid.decode.Goals as goal

pub returns-clause-value : goal.returns-clause-value
returns-clause-value c =
    rw (kept32 c.in_ok-generation.generation c.in_ok-generation.ensures.fits)
    (c.in_ok-group.ensures.value ▷ c.in_ok-generation.ensures.value ▷ c.in_ok-member.ensures.value ▷ c.in_ok-rows.ensures.value)
