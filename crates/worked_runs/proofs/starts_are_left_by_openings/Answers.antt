-- The three starts, at their rules.
use Rattle.worked_runs.specs.Short as short
use Rattle.worked_runs.specs.FullScript as full
use Rattle.worked_runs.specs.CalledOffScript as off
use Rattle.worked_runs.proofs.Openings.{left_by_opening}
use Rattle.worked_runs.proofs.starts_are_left_by_openings.Goals as goal

pub returns-clause-short : goal.returns-clause-short
returns-clause-short c = left_by_opening short.rules 0

pub returns-clause-full : goal.returns-clause-full
returns-clause-full c = left_by_opening full.rules 8

pub returns-clause-called_off : goal.returns-clause-called_off
returns-clause-called_off c = left_by_opening off.rules 8
