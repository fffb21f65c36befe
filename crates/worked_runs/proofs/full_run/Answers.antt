-- The full run, computed.
use Rattle.worked_runs.proofs.Scripts.{full_answers, full_run}
use Rattle.worked_runs.proofs.full_run.Goals as goal

pub returns-clause-answers : goal.returns-clause-answers
returns-clause-answers c = full_answers

pub returns-clause-run : goal.returns-clause-run
returns-clause-run c = full_run
