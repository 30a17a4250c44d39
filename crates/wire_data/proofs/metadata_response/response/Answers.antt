use Rattle.wire_layout.proofs.Rows.{◌▷◌, kept32}
use Rattle.wire_data.proofs.Topics.{response_told}
use Rattle.wire_data.proofs.metadata_response.response.Goals as goal

pub returns-clause-value : goal.returns-clause-value
returns-clause-value c =
    let told = c.in_ok-rows2.ensures.value in
    record {
      stored = record { rows = c.in_ok-rows.rows; controller = c.in_ok-controller.controller; rows2 = told.stored };
      is = rw (kept32 c.in_ok-controller.controller c.in_ok-controller.ensures.fits) (response_told _ told.stored told.is);
      takes = c.in_ok-rows.ensures.value ▷ c.in_ok-controller.ensures.value ▷ told.takes;
      fits = (c.in_ok-rows.ensures.fits, (c.in_ok-controller.ensures.fits, told.fits));
    }
