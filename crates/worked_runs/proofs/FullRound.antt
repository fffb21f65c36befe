-- The last round of the write in the full run: entry 20 opens it, and entries 21, 22 and 23 of replicas 1, 2 and 4 answer it.
use Rattle.std.proofs.Common.{◌≡◌, ℕ, zero, suc, ◌+◌, ◌<◌, true, refl, inr, arith}
use Rattle.std.proofs.lemmas.Bool.{false≢true}
use Rattle.wire.specs.Sets.{member, inserted}
use Rattle.quorums.proofs.Digits.{member_below}
use Rattle.rules.specs.Posts.{ack_entry, write_entry}
use Rattle.model.specs.Order.{Operation}
use Rattle.model.specs.Order.Operation.{a_write}
use Rattle.model.specs.Response.{Open, Enough}
use Rattle.worked_runs.specs.Lists.{calls_of}
use Rattle.model.specs.Kinds.{bin_weights}
use Rattle.worked_runs.specs.FullScript.{script, start, new_weight, new_pair}
use Rattle.worked_runs.proofs.Lists.{run_of}
use Rattle.worked_runs.proofs.Tests.{all_from}
use Rattle.worked_runs.proofs.Ends.{is_open}
use Rattle.worked_runs.proofs.Rounds.{last_asked, under_way}
use Rattle.worked_runs.proofs.Handed.{HandsOver, Counts, counts, enough}

-- what holds of replicas 1, 2 and 4 holds of each member of their set
members : (P : ℕ → Type 0) → P 1 → P 2 → P 4 → (q : ℕ) → member 22 q ≡ true → P q
unfolding member
members P one two four zero e = absurd (false≢true e)
members P one two four (suc zero) e = one
members P one two four (suc (suc zero)) e = two
members P one two four (suc (suc (suc zero))) e = absurd (false≢true e)
members P one two four (suc (suc (suc (suc zero)))) e = four
members P one two four (suc (suc (suc (suc (suc q))))) e = absurd (omega (arith, member_below 5 22 (suc (suc (suc (suc (suc q))))) (omega arith) e))

pub the_write : Operation (run_of bin_weights (calls_of script) start (λ t s. refl)) 0 1 0
unfolding member inserted lib.Count.ones
the_write = a_write (omega arith) new_weight refl refl

-- up to its end nothing is collected by its slip
pub write_open : all_from (is_open bin_weights (calls_of script) start (λ t s. refl) 1 0) 0 39 ≡ true
unfolding member inserted lib.Count.ones
write_open = refl

-- with entry 20 the client asked last, and its write is under way, until entry 23 is handed to it
pub round_open : Open (run_of bin_weights (calls_of script) start (λ t s. refl)) 39 1 3 2
unfolding member inserted lib.Count.ones
round_open = record {
  asked_last = last_asked bin_weights (calls_of script) start (λ t s. refl) 39 20 1 3 2 3 refl refl refl (inr refl) refl refl;
  under_way = under_way bin_weights (calls_of script) start (λ t s. refl) 39 1 0 39 new_weight
      (omega arith) (omega arith) the_write write_open refl refl;
}

over : (position number q : ℕ)
    → HandsOver bin_weights (calls_of script) start (λ t s. refl) position number 1 q (ack_entry (100 + q) (write_entry 1 3 1 new_pair))
    → position < 40 → Counts bin_weights (calls_of script) start (λ t s. refl) 40 1 3 q
over position number q facts before = counts bin_weights (calls_of script) start (λ t s. refl) 40 q 1 3 1 position number new_pair before facts

pub enough_answers : Enough (run_of bin_weights (calls_of script) start (λ t s. refl)) 40 1 3 2
unfolding member inserted lib.Count.ones
enough_answers = enough bin_weights (calls_of script) start (λ t s. refl) 40 1 3 22 (omega arith)
    (members (Counts bin_weights (calls_of script) start (λ t s. refl) 40 1 3)
    (over 37 21 1 (record { call = refl; entry = refl; posted = refl; room = refl; unmarked = refl }) (omega arith))
    (over 38 22 2 (record { call = refl; entry = refl; posted = refl; room = refl; unmarked = refl }) (omega arith))
    (over 39 23 4 (record { call = refl; entry = refl; posted = refl; room = refl; unmarked = refl }) (omega arith)))
