-- A replica and a client are those of their numbers, and their numbers lie between the first and the last. Assumes nothing.
use Rattle.std.proofs.Common.{◌≡◌, ℕ, ◌≤◌, ◌&&◌, true, leb, ltb, Some, sym, ap, arith}
use Rattle.std.proofs.lemmas.Bool.{and_parts, leb-true, lt-ltb}
use Rattle.kinds.specs.Partials.{only_if_true, only_if_some}
use Rattle.wire.specs.declared.party.Numbered.{Numbered}
use Rattle.wire.specs.Parties.{Replica, numbered}

pub single_is : {first last : ℕ} (x : Numbered first last) → Some x ≡ numbered first last x.number
single_is x = sym (only_if_true _ _ x.ok)

pub single_number : {first last : ℕ} (n : ℕ) (x : Numbered first last) → numbered first last n ≡ Some x → x.number ≡ n
single_number {first} {last} n x e =
    let found = only_if_some (leb first n && leb n last) (λ ok. record { number = n; ok = ok }) x e in
    sym (ap (λ (y : Numbered first last). y.number) found.1)

pub single_within : {first last : ℕ} (x : Numbered first last) → (first ≤ x.number) × (x.number ≤ last)
single_within {first} {last} x =
    let parts = and_parts (leb first x.number) (leb x.number last) x.ok in
    (leb-true first x.number parts.0, leb-true x.number last parts.1)

pub replica_below : (r : Replica) → ltb r.number 64 ≡ true
replica_below r = lt-ltb r.number 64 (omega (arith, (single_within r).1))
