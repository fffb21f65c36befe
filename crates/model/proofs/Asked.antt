-- What a client asked last: of two READs or WRITEs of one client the later has the higher round.
-- Told from the places of entries in the post, in a history in which every entry is justified.
use Rattle.std.proofs.Common.{◌≡◌, ℕ, zero, suc, ◌-◌, ◌<◌, List, [], ◌∷◌, reverse, length, get_or, sym, subst, arith}
use Rattle.std.proofs.lemmas.List.{get_or-reverse, length-reverse}
use Rattle.wire.specs.declared.entry.Entry.{Entry}
use Rattle.quorums.specs.Quorums.{Views}
use Rattle.histories.specs.Places.{Posted}
use Rattle.histories.specs.Places.Somewhere.{here, there}
use Rattle.histories.specs.Places.Everywhere.{next}
use Rattle.histories.specs.Shapes.{ReadEntry, WriteEntry}
use Rattle.histories.specs.Histories.{Fresh, Good}
use Rattle.histories.proofs.Places.{posted_map}
use Rattle.histories.proofs.Rounds.{Asks, by_read, by_write, asks_fresh}
use Rattle.model.specs.Halls.{Hall, no_entry}
use Rattle.model.specs.Delivering.{entry_of}
use Rattle.model.proofs.Frames.{posted_at, history_at}
use Rattle.model.proofs.Invariants.{history}

-- an entry of this shape stands at this place
pub record PlaceOf (P : Entry → Type 0) (h : List Entry) (d : Entry) : Type 0 where
  pub place : ℕ
  pub inside : place < length h
  pub holds : P (get_or h place d)

posted_place : {P : Entry → Type 0} {h : List Entry} (d : Entry) → Posted P h → PlaceOf P h d
posted_place d (here p) = record { place = 0; inside = omega arith; holds = p }
posted_place d (there s) = let r = posted_place d s in record { place = suc r.place; inside = omega (arith, r.inside); holds = r.holds }

-- and in the post it has this number
pub record NumberOf (P : Entry → Type 0) (h : Hall) : Type 0 where
  pub number : ℕ
  pub posted : number < length h.post.list
  pub holds : P (entry_of h number)

pub posted_number : {P : Entry → Type 0} (h : Hall) → Posted P (history h) → NumberOf P h
unfolding history
posted_number {P} h s =
    let list = h.post.list in
    let r = posted_place no_entry s in
    record {
      number = length list - 1 - r.place;
      posted = omega (arith, r.inside, length-reverse list);
      holds = subst P (get_or-reverse list r.place no_entry (omega (arith, r.inside, length-reverse list))) r.holds;
    }

-- of two places the one nearer to the front was posted later, and asks in a later round
asks_rise : {v : Views} {c k r : ℕ} (h : List Entry) (i j : ℕ) (d : Entry) → i < j → j < length h → Good v h → Asks c r (get_or h i d) → Asks c k (get_or h j d) → k < r
asks_rise [] i j d lt inside g a b = absurd (omega arith)
asks_rise (x ∷ h) i zero d lt inside g a b = absurd (omega arith)
asks_rise (x ∷ h) zero (suc j) d lt inside (next justified g) a b = earlier (asks_fresh a justified) b
  where
    at : Posted (λ y. y ≡ get_or h j d) h
    at = posted_at h j d (omega arith)

    earlier : {c k r : ℕ} → Fresh h c r → Asks c k (get_or h j d) → k < r
    earlier {c} {k} f (by_read {e} a) = f.reads (posted_map (λ y is. subst (λ z. ReadEntry c k e z) (sym is) a) at)
    earlier {c} {k} f (by_write {e} {s} a) = f.writes (posted_map (λ y is. subst (λ z. WriteEntry c k e s z) (sym is) a) at)
asks_rise (x ∷ h) (suc i) (suc j) d lt inside (next justified g) a b = asks_rise h i j d (omega arith) (omega arith) g a b

-- the entry of the higher number asks in the later round
pub asked_rise : {v : Views} {c k r : ℕ} (h : Hall) (m n : ℕ) → m < n → n < length h.post.list → Good v (history h) → Asks c k (entry_of h m) → Asks c r (entry_of h n) → k < r
unfolding history
asked_rise {v} {c} {k} {r} h m n lt inside g a b =
    let list = h.post.list in
    asks_rise (reverse list) (length list - 1 - n) (length list - 1 - m) no_entry (omega arith) (omega (arith, length-reverse list)) g
    (subst (Asks c r) (sym (history_at h n inside)) b) (subst (Asks c k) (sym (history_at h m (omega arith))) a)
