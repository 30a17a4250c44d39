use Rattle.model.proofs.Pins.{looks_pump, lost_are_told, shares_are_given, late_are_fixed, rebalances_are_paid, nobody_pays_later}
use Rattle.model.proofs.pinned.rebalances_are_pinned.Goals as goal

pub returns-clause-pumps : goal.returns-clause-pumps
returns-clause-pumps c = looks_pump

pub returns-clause-lost : goal.returns-clause-lost
returns-clause-lost c = lost_are_told

pub returns-clause-given : goal.returns-clause-given
returns-clause-given c = shares_are_given

pub returns-clause-late : goal.returns-clause-late
returns-clause-late c = late_are_fixed

pub returns-clause-paid : goal.returns-clause-paid
returns-clause-paid c = rebalances_are_paid

pub returns-clause-runs : goal.returns-clause-runs
returns-clause-runs c = nobody_pays_later
