-- The run with a call off, by computing what its calls answer and leave.
use Rattle.std.proofs.Common.{◌≡◌, ℕ, zero, suc, ◌+◌, ◌<◌, true, Some, refl, ap, arith, nat_abs, ◌≢◌, List, ◌∷◌, ◌++◌, ◌∙◌, ⊎_elim}
use Rattle.wire.specs.Sets.{member, inserted}
use Rattle.orders.specs.Order.{◌∈◌}
use Rattle.quorums.proofs.Digits.{member_below}
use Rattle.rules.specs.declared.objection.Objection.TheVariants.{AlreadyCounted, NotAwaited}
use Rattle.rules.specs.Posts.{ack_entry, write_entry}
use Rattle.clients.specs.declared.fault.ClientFault.TheVariants.{Objects}
use Rattle.halls.specs.declared.fault.HallFault.TheVariants.{Step}
use Rattle.halls.specs.declared.fault.StepFault.TheVariants.{Client as ByClient}
use Rattle.model.specs.Kinds.{bin_weights}
use Rattle.model.specs.Order.{Operation, collects, Gives, InOrder}
use Rattle.model.specs.Order.Operation.{a_read}
use Rattle.model.specs.Response.{Enough}
use Rattle.worked_runs.specs.Lists.{calls_of, world_at}
use Rattle.worked_runs.specs.Openings.{opening_weight}
use Rattle.worked_runs.specs.FullScript.{new_weight, new_pair}
use Rattle.worked_runs.specs.CalledOff.{CalledOffRun, RefusedCount}
use Rattle.worked_runs.specs.CalledOffScript.{CalledOffAnswers, script, start, client_2}
use Rattle.worked_runs.proofs.Lists.{run_of, every_list}
use Rattle.worked_runs.proofs.Tests.{all_from}
use Rattle.worked_runs.proofs.Ends.{is_open, ended, never}
use Rattle.worked_runs.proofs.Handed.{HandsOver, Counts, counts, enough, is_only, once}
use Rattle.worked_runs.proofs.Orders.{written_or_not}
use Rattle.worked_runs.proofs.Openings.{opened}

pub called_off_answers : CalledOffAnswers
unfolding member inserted lib.Count.ones
called_off_answers = record { answered = refl; log = refl }

-- nothing is ever collected by the slip of the write
write_open : all_from (is_open bin_weights (calls_of script) start (λ t s. refl) 1 0) 0 26 ≡ true
unfolding member inserted lib.Count.ones
write_open = refl

the_read : Operation (run_of bin_weights (calls_of script) start (λ t s. refl)) 9 2 1
unfolding member inserted lib.Count.ones
the_read = a_read (omega arith) refl refl

read_open : all_from (is_open bin_weights (calls_of script) start (λ t s. refl) 2 1) 0 23 ≡ true
unfolding member inserted lib.Count.ones
read_open = refl

read_collected : collects bin_weights (world_at bin_weights (calls_of script) start 24) 2 1 ≡ Some new_weight
unfolding member inserted lib.Count.ones
read_collected = refl

still_collected : collects bin_weights (world_at bin_weights (calls_of script) start 25) 2 1 ≡ Some new_weight
unfolding member inserted lib.Count.ones
still_collected = refl

heavier : new_weight ≢ opening_weight
heavier same = omega (arith, ap (λ v. nat_abs v.grams) same)

-- what holds of replicas 0, 1 and 2 holds of each member of their set
members : (P : ℕ → Type 0) → P 0 → P 1 → P 2 → (q : ℕ) → member 7 q ≡ true → P q
members P none one two zero e = none
members P none one two (suc zero) e = one
members P none one two (suc (suc zero)) e = two
members P none one two (suc (suc (suc q))) e = absurd (omega (arith, member_below 3 7 (suc (suc (suc q))) (omega arith) e))

over : (position number q : ℕ)
    → HandsOver bin_weights (calls_of script) start (λ t s. refl) position number 2 q (ack_entry (100 + q) (write_entry 2 2 0 new_pair))
    → position < 25 → Counts bin_weights (calls_of script) start (λ t s. refl) 25 2 2 q
over position number q facts before = counts bin_weights (calls_of script) start (λ t s. refl) 25 q 2 2 0 position number new_pair before facts

-- entry 14 of replica 0, entry 11 of replica 1 when it comes again, and entry 12 of replica 2
enough_answers : Enough (run_of bin_weights (calls_of script) start (λ t s. refl)) 25 2 2 2
unfolding member inserted lib.Count.ones
enough_answers = enough bin_weights (calls_of script) start (λ t s. refl) 25 2 2 7 (omega arith)
    (members (Counts bin_weights (calls_of script) start (λ t s. refl) 25 2 2)
    (over 24 14 0 (record { call = refl; entry = refl; posted = refl; room = refl; unmarked = refl }) (omega arith))
    (over 21 11 1 (record { call = refl; entry = refl; posted = refl; room = refl; unmarked = refl }) (omega arith))
    (over 22 12 2 (record { call = refl; entry = refl; posted = refl; room = refl; unmarked = refl }) (omega arith)))

late_only : all_from (is_only bin_weights (calls_of script) start (λ t s. refl) 0 2 2 24) 0 26 ≡ true
unfolding member inserted lib.Count.ones
late_only = refl

refused_count : RefusedCount (run_of bin_weights (calls_of script) start (λ t s. refl))
unfolding member inserted lib.Count.ones enough_answers enough members over counts
refused_count = record {
  client = 2;
  round = 2;
  until = 25;
  within = omega arith;
  enough = enough_answers;
  again = 1;
  again_in = refl;
  again_why = Step 11 (ByClient (Objects client_2 AlreadyCounted));
  again_refused = refl;
  late = 0;
  late_in = refl;
  late_why = Step 14 (ByClient (Objects client_2 NotAwaited));
  late_refused = refl;
  late_once = once bin_weights (calls_of script) start (λ t s. refl) 26 0 2 2 24 late_only;
}

gives : Gives (run_of bin_weights (calls_of script) start (λ t s. refl)) 9 25 new_weight
gives = record { client = 2; place = 1; operation = the_read; within = omega arith; answers = still_collected }

-- the read gives what only that call writes
stands : (front back : List ℕ)
    → InOrder (run_of bin_weights (calls_of script) start (λ t s. refl)) opening_weight (front ++ (9 ∷ back)) → 0 ∈ front
stands front back order =
    ⊎_elim
    (λ written. written)
    (λ unwritten. absurd (heavier (order.reads front back 9 25 new_weight refl refl gives ∙ unwritten)))
    (written_or_not bin_weights (calls_of script) start (λ t s. refl) 0 refl opening_weight front)

pub called_off_run : CalledOffRun bin_weights start (calls_of script)
unfolding member inserted lib.Count.ones
called_off_run = record {
  opening = opening_weight;
  opened = opened 4 2 8 (omega arith) (omega arith) refl refl refl;
  made = every_list bin_weights start (λ t s. refl) (λ t s. refl) refl (calls_of script);
  value = new_weight;
  new = heavier;
  write = 0;
  writer = 1;
  place = 0;
  writes = refl;
  begun = refl;
  taking = 7;
  under_way = omega arith;
  number = 4;
  replica = 100;
  takes = refl;
  taken = refl;
  from_writer = refl;
  is_write = refl;
  off = 8;
  half_done = omega arith;
  calls_off = refl;
  called_off = refl;
  unfinished = never bin_weights (calls_of script) start (λ t s. refl) 1 0 0 refl write_open;
  read = 9;
  reader = 2;
  other_client = λ same. omega (arith, same);
  reads = refl;
  later = omega arith;
  read_done = 23;
  read_ends = ended bin_weights (calls_of script) start (λ t s. refl) 2 1 9 23 new_weight the_read (omega arith) read_open read_collected;
  collect = 25;
  within = omega arith;
  gives = gives;
  collected_pair = new_pair;
  collected = refl;
  stands = stands;
  refused_count = refused_count;
}
