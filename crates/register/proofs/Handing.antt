-- What a delivery comes to, once its tests have passed as far as they are told. Assumes nothing.
use Rattle.std.proofs.Common.{◌≡◌, ℕ, ◌-◌, ◌<◌, true, false, ◌&&◌, length, Some, refl, arith, eqb, ltb}
use Rattle.std.proofs.lemmas.Bool.{and_parts, eqb-true}
use Rattle.wire.specs.declared.pair.Seal.{Seal}
use Rattle.wire.specs.declared.party.Party.{Party}
use Rattle.wire.specs.declared.party.Party.TheVariants.{Client as AClient}
use Rattle.wire.specs.Parties.{Client}
use Rattle.halls.specs.declared.fault.HallFault.TheVariants.{Unfit}
use Rattle.model.specs.Tables.{is_full, places}
use Rattle.model.specs.Halls.{Hall, World, has_its_tables, party_in}
use Rattle.model.specs.Answers.{has_moment, refuses}
use Rattle.model.specs.Delivering.{deliver_called, entry_of, fits, stepped}
use Rattle.model.proofs.Parties.{client_in}

-- the tests up to the last have passed, for this party
pub record Handed (w : World) (number party : ℕ) (who : Party) : Type 0 where
  pub tables : has_its_tables w.hall ≡ true
  pub posted : ltb number (length w.hall.post.list) ≡ true
  pub party_is : party_in w.hall.rules party ≡ Some who
  pub room : is_full w.hall.post ≡ false
  pub time : has_moment w.hall ≡ true

module _ {V : Type 0} (w : World) (given : Seal) (kind number party : ℕ) (who : Party) (h : Handed w number party who) where
  pub handed_over : fits who (entry_of w.hall number) ≡ true
      → deliver_called {V = V} w given kind number party ≡ stepped who w given kind number (entry_of w.hall number)
  handed_over fit = rw (h.tables, h.posted, h.party_is, h.room, h.time, fit) refl

  pub unfit : fits who (entry_of w.hall number) ≡ false
      → deliver_called {V = V} w given kind number party ≡ refuses w.hall (Unfit number)
  unfit fit = rw (h.tables, h.posted, h.party_is, h.room, h.time, fit) refl

-- a client of the hall has a seat
pub seated : (h : Hall) (party : ℕ) (client : Client) → has_its_tables h ≡ true → party_in h.rules party ≡ Some (AClient client) → client.number - 1 < length h.seats
seated h party client tables who =
    let c = client_in h.rules party client who in
    let halves = and_parts (eqb (places h.post) h.lengths.post && eqb (places h.log) h.lengths.log) (eqb (places h.roll) h.lengths.roll && eqb (length h.seats) h.rules.clients) tables in
    let many = eqb-true (length h.seats) h.rules.clients (and_parts (eqb (places h.roll) h.lengths.roll) (eqb (length h.seats) h.rules.clients) halves.1).1 in
    omega (arith, c.low, c.high, c.number, many)
