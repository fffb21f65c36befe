-- The bit that is put in is the replica's.
use Rattle.std.proofs.Common.{◌≡◌, ◌*◌, ◌%◌, ◌^◌, ◌<◌, sym, ap, ◌∙◌, subst, arith}
use lib.Bits.{bit_or}
use Rattle.std.proofs.lemmas.Nat.{one_shl}
use Rattle.wire.specs.Sets.{inserted, Added}
use Rattle.wire.proofs.Made.{single_within}
use Rattle.wire.proofs.Membership.{inserted_members}
use Rattle.wire.proofs.set.ReplicaSet.with.Goals as goal

pub returns : goal.returns
unfolding inserted
returns c =
    let set = c.args.self.0 in
    let n = c.args.replica.number in
    let small : n < 64 = omega (arith, (single_within c.args.replica).1) in
    let bit : (1 * 2 ^ c.number.result) % 2 ^ 64 ≡ 2 ^ n = ap (λ k. (1 * 2 ^ k) % 2 ^ 64) c.number.ensures.value ∙ one_shl n 64 small in
    let value = ap (bit_or set) bit in
    record { value = value; members = subst (Added set n) (sym value) (inserted_members set n) }
