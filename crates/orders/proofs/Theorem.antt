-- Stamped operations, sorted by their ranks, are in an order that respects real time and gives each read its value.
-- Real time never goes against the ranks; and in front of a read no write stands behind the one it read from.
use Rattle.std.proofs.Common.{◌≡◌, ℕ, ◌≤◌, true, false, ◌⊎◌, List, ◌∷◌, ◌++◌, sym, refl, ap, ◌∙◌, subst, inl, inr, append_assoc, arith}
use mathlib.Core.List.Memᴰ
use mathlib.Core.List.Memᴰ.{head as here}
use mathlib.Core.List.Memᴰ.{tail as there}
use Rattle.std.proofs.lemmas.Bool.{cases_Bool}
use Rattle.orders.specs.Order.{◌∈◌, Operations, Precedes, last_written, Origin, Stamped, Order, StampedOperationsHaveAnOrder}
use Rattle.orders.specs.Order.Origin.{the_opening, a_write}
use Rattle.orders.proofs.Sorting.{split, pairwise_front, pairwise_back, pairwise_distinct, Sorted, sort, sorted_front}
use Rattle.orders.proofs.Writes.{last_unchanged, last_from}
use Rattle.orders.proofs.Ranks.{rank_write, rank_read, Before, before_strict}

module _ (ops : Operations) (opening : ℕ) (ids : List ℕ) (h : Stamped ops opening ids) where
  -- What precedes an operation in real time comes before it by rank.
  precedes_before : (i j : ℕ) → i ∈ ids → j ∈ ids → Precedes ops i j → Before ops i j
  precedes_before i j m n p = by (cases_Bool (ops.writes i)) (cases_Bool (ops.writes j))
    where
      by : (ops.writes i ≡ true) ⊎ (ops.writes i ≡ false) → (ops.writes j ≡ true) ⊎ (ops.writes j ≡ false) → Before ops i j
      by (inl wi) (inl wj) = omega (arith, rank_write ops i wi, rank_write ops j wj, h.rises_at_writes i j m n p wj)
      by (inr ri) (inl wj) = omega (arith, rank_read ops i ri, rank_write ops j wj, h.rises_at_writes i j m n p wj)
      by (inl wi) (inr rj) = omega (arith, rank_write ops i wi, rank_read ops j rj, h.never_falls i j m n p)
      by (inr ri) (inr rj) = omega (arith, rank_read ops i ri, rank_read ops j rj, h.never_falls i j m n p, h.begins_first i m p.0)

  -- At a place of the sorted list: what stands there or in front of it is one of the operations,
  module _ (s : Sorted (Before ops) ids) (front back : List ℕ) (j : ℕ) (e : s.list ≡ front ++ (j ∷ back)) where
    listed : (i : ℕ) → i ∈ (front ++ (j ∷ back)) → i ∈ ids
    listed i m = s.only i (subst (λ l. i ∈ l) (sym e) m)

    place_listed : j ∈ ids
    place_listed = listed j (Memᴰ.append_right front (here refl))

    front_listed : (i : ℕ) → i ∈ front → i ∈ ids
    front_listed i m = listed i (Memᴰ.append_left (j ∷ back) m)

    -- and what comes before it stands in front.
    in_front : (i : ℕ) → i ∈ ids → Before ops i j → i ∈ front
    in_front i m b = sorted_front (before_strict ops) s.sorted front back i j e (s.all i m) b

    -- If a read stands there, no write in front has a larger stamp,
    module _ (r : ops.writes j ≡ false) where
      front_below : (i : ℕ) → i ∈ front → ops.writes i ≡ true → ops.stamp i ≤ ops.stamp j
      front_below i m t = omega (arith, rank_read ops j r, rank_write ops i t, pairwise_front s.sorted front back e m)

      -- so none stands in front at all if the read's stamp is 0,
      no_write : ops.stamp j ≡ 0 → (i : ℕ) → i ∈ front → ops.writes i ≡ true → ⊥
      no_write z i m t = omega (arith, front_below i m t, h.above_opening i (front_listed i m) t)

      -- and if it has a write's stamp, that write stands in front, with no other write between the two.
      module _ (w : ℕ) (n : w ∈ ids) (t : ops.writes w ≡ true) (same : ops.stamp w ≡ ops.stamp j) where
        write_in_front : w ∈ front
        write_in_front = in_front w n (omega (arith, rank_write ops w t, rank_read ops j r))

        only_write : (f b : List ℕ) → front ≡ f ++ (w ∷ b) → (i : ℕ) → i ∈ b → ops.writes i ≡ true → i ≡ w
        only_write f b is i m u =
            let whole = e ∙ ap (λ k. k ++ (j ∷ back)) is ∙ append_assoc f (w ∷ b) (j ∷ back) in
            let after = pairwise_back s.sorted f (b ++ (j ∷ back)) whole (Memᴰ.append_left (j ∷ back) m) in
            let inside = subst (λ k. i ∈ k) (sym is) (Memᴰ.append_right f (there m)) in
            h.own_stamp i w (front_listed i inside) n u t (omega (arith, after, rank_write ops w t, rank_write ops i u, front_below i inside u))

      reads_from : Origin ops opening ids j → last_written ops.writes ops.value opening front ≡ ops.value j
      reads_from (the_opening z v) = last_unchanged ops.writes ops.value opening front (λ i m t. absurd (no_write z i m t)) ∙ sym v
      reads_from (a_write w n t same v) =
          let at = split (write_in_front w n t same) in
          let others = λ (i : ℕ) (m : i ∈ at.back) (u : ops.writes i ≡ true). ap ops.value (only_write w n t same at.front at.back at.is i m u) in
          ap (last_written ops.writes ops.value opening) at.is ∙ last_from ops.writes ops.value w opening at.front at.back t others ∙ v

  -- The operations in the order of their ranks.
  order : Sorted (Before ops) ids
  order = sort (before_strict ops) ids h.once

  order_holds : Order ops opening ids order.list
  order_holds = record {
    all = order.all;
    only = order.only;
    once = pairwise_distinct (before_strict ops).irreflexive order.sorted;
    time = λ front back i j e m p. in_front order front back j e i m (precedes_before i j m (place_listed order front back j e) p);
    reads = λ front back j e r. sym (reads_from order front back j e r (h.origin j (place_listed order front back j e) r));
  }

pub stamped_operations_have_an_order : StampedOperationsHaveAnOrder
stamped_operations_have_an_order ops opening ids h = ((order ops opening ids h).list, order_holds ops opening ids h)
