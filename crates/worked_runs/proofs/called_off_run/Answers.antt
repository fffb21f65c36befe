-- The run with a call off, computed.
use Rattle.worked_runs.proofs.CalledOff.{called_off_answers, called_off_run}
use Rattle.worked_runs.proofs.called_off_run.Goals as goal

pub returns-clause-answers : goal.returns-clause-answers
returns-clause-answers c = called_off_answers

pub returns-clause-run : goal.returns-clause-run
returns-clause-run c = called_off_run
