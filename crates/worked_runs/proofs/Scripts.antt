-- Both scripts, by computing what they answer and leave.
use Rattle.std.proofs.Common.{◌≡◌, true, Some, refl, ap, arith, nat_abs, ◌≢◌}
use Rattle.wire.specs.Sets.{member, inserted}
use Rattle.model.specs.Order.{Operation, collects}
use Rattle.model.specs.Order.Operation.{a_read}
use Rattle.worked_runs.specs.Lists.{calls_of, world_at}
use Rattle.model.specs.Kinds.{bin_weights}
use Rattle.worked_runs.specs.Openings.{opening_weight}
use Rattle.worked_runs.specs.Short as short
use Rattle.worked_runs.specs.Short.{ShortRun}
use Rattle.worked_runs.specs.Full.{FullRun}
use Rattle.worked_runs.specs.FullScript.{FullAnswers, script, start, new_weight, new_pair, lie}
use Rattle.worked_runs.proofs.Lists.{run_of, every_list}
use Rattle.worked_runs.proofs.Ends.{is_open, ended}
use Rattle.worked_runs.proofs.Tests.{all_from}
use Rattle.worked_runs.proofs.FullRound.{the_write, write_open, round_open, enough_answers}
use Rattle.worked_runs.proofs.Openings.{opened}

pub short_run : ShortRun
unfolding member inserted lib.Count.ones
short_run = record {
  opened = opened 4 1 0 (omega arith) (omega arith) refl refl refl;
  made = every_list bin_weights short.start (λ t s. refl) (λ t s. refl) refl (calls_of short.script);
  answered = refl;
  log = refl;
}

pub full_answers : FullAnswers
unfolding member inserted lib.Count.ones
full_answers = record { answered = refl; log = refl }

-- after its end its value is collected by its slip
write_collected : collects bin_weights (world_at bin_weights (calls_of script) start 40) 1 0 ≡ Some new_weight
unfolding member inserted lib.Count.ones
write_collected = refl

read_open : all_from (is_open bin_weights (calls_of script) start (λ t s. refl) 2 1) 0 48 ≡ true
unfolding member inserted lib.Count.ones
read_open = refl

read_collected : collects bin_weights (world_at bin_weights (calls_of script) start 49) 2 1 ≡ Some new_weight
unfolding member inserted lib.Count.ones
read_collected = refl

the_read : Operation (run_of bin_weights (calls_of script) start (λ t s. refl)) 42 2 1
unfolding member inserted lib.Count.ones
the_read = a_read (omega arith) refl refl

heavier : new_weight ≢ opening_weight
heavier same = omega (arith, ap (λ v. nat_abs v.grams) same)

pub full_run : FullRun bin_weights start (calls_of script)
unfolding member inserted lib.Count.ones
full_run = record {
  opening = opening_weight;
  opened = opened 5 2 8 (omega arith) (omega arith) refl refl refl;
  made = every_list bin_weights start (λ t s. refl) (λ t s. refl) refl (calls_of script);
  value = new_weight;
  new = heavier;
  write = 0;
  writer = 1;
  writes = refl;
  written = 39;
  write_ends = ended bin_weights (calls_of script) start (λ t s. refl) 1 0 0 39 new_weight the_write (omega arith) write_open write_collected;
  pair = new_pair;
  its_word = refl;
  its_writer = refl;
  sealed = refl;
  lie = 4;
  liar = 103;
  lying = lie;
  lies = refl;
  posted = refl;
  lie_after_begin = omega arith;
  lie_before_end = omega arith;
  change = 10;
  set = record { 0 = 30 };
  other_members = λ same. omega (arith, ap (λ s. s.0) same);
  changes = refl;
  changed = refl;
  change_after_begin = omega arith;
  change_before_end = omega arith;
  moved = refl;
  round = 3;
  round_open = round_open;
  enough = enough_answers;
  read = 42;
  reader = 2;
  other_client = λ same. omega (arith, same);
  reads = refl;
  later = omega arith;
  read_done = 48;
  read_ends = ended bin_weights (calls_of script) start (λ t s. refl) 2 1 42 48 new_weight the_read (omega arith) read_open read_collected;
}
