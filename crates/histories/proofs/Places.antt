-- Histories that lie below others, and the place where something was found.
-- Assumes nothing.
use Rattle.std.proofs.Common.{◌⊎◌, List, [], ◌∷◌, ◌++◌, inl, inr, ⊎_elim}
use Rattle.wire.specs.declared.entry.Entry.{Entry}
use Rattle.histories.specs.Places.{Somewhere, Everywhere, Posted}
use Rattle.histories.specs.Places.Somewhere.{here, there}
use Rattle.histories.specs.Places.Everywhere.{next}

-- h is g with newer entries above it, or none
pub data Beneath (g : List Entry) : List Entry → Type 0 where
  same : Beneath g g
  under : {x : Entry} {h : List Entry} → Beneath g h → Beneath g (x ∷ h)

pub beneath_next : (x : Entry) (h : List Entry) → Beneath h (x ∷ h)
beneath_next x h = under same

pub beneath_append : (new h : List Entry) → Beneath h (new ++ h)
beneath_append [] h = same
beneath_append (x ∷ new) h = under (beneath_append new h)

pub beneath_trans : {f g h : List Entry} → Beneath f g → Beneath g h → Beneath f h
beneath_trans b same = b
beneath_trans b (under c) = under (beneath_trans b c)

pub beneath_rest : {x : Entry} {g h : List Entry} → Beneath (x ∷ g) h → Beneath g h
beneath_rest b = beneath_trans (under same) b

-- what holds somewhere still does when entries are added
pub somewhere_grows : {P : Entry → List Entry → Type 0} {g h : List Entry} → Beneath g h → Somewhere P g → Somewhere P h
somewhere_grows same s = s
somewhere_grows (under b) s = there (somewhere_grows b s)

-- what holds everywhere holds everywhere below
pub everywhere_below : {P : Entry → List Entry → Type 0} {g h : List Entry} → Beneath g h → Everywhere P h → Everywhere P g
everywhere_below same e = e
everywhere_below (under b) (next p e) = everywhere_below b e

-- an entry of one shape that has another too
pub posted_map : {P Q : Entry → Type 0} {h : List Entry} → ((x : Entry) → P x → Q x) → Posted P h → Posted Q h
posted_map f (here {x = x} p) = here (f x p)
posted_map f (there s) = there (posted_map f s)

-- what was posted up to h and after it is either of the two
pub posted_split : {P : Entry → Type 0} (new : List Entry) {h : List Entry} → Posted P (new ++ h) → Posted P new ⊎ Posted P h
posted_split [] s = inr s
posted_split (x ∷ new) (here p) = inl (here p)
posted_split (x ∷ new) (there s) = ⊎_elim (λ i. inl (there i)) inr (posted_split new s)

-- a place of h at which P holds, with what Q says of it and of all below it
pub record Found (P Q : Entry → List Entry → Type 0) (h : List Entry) : Type 0 where
  pub entry : Entry
  pub below : List Entry
  pub seen : P entry below
  pub ruled : Q entry below
  pub rest : Everywhere Q below
  pub place : Beneath (entry ∷ below) h

pub found : {P Q : Entry → List Entry → Type 0} {h : List Entry} → Somewhere P h → Everywhere Q h → Found P Q h
found (here {x = x} {h = h} p) (next q e) = record { entry = x; below = h; seen = p; ruled = q; rest = e; place = same }
found (there s) (next q e) =
    let f = found s e in
    record { entry = f.entry; below = f.below; seen = f.seen; ruled = f.ruled; rest = f.rest; place = under f.place }

-- a place above h at which an entry of this shape stands, with what Q says of it and of all below it
pub record Above (P : Entry → Type 0) (Q : Entry → List Entry → Type 0) (h : List Entry) : Type 0 where
  pub entry : Entry
  pub below : List Entry
  pub seen : P entry
  pub ruled : Q entry below
  pub rest : Everywhere Q below
  pub beneath : Beneath h below

pub found_above : {P : Entry → Type 0} {Q : Entry → List Entry → Type 0} {new h : List Entry} → Posted P new → Everywhere Q (new ++ h) → Above P Q h
found_above {h = h} (here {h = new} p) (next {x = x} q e) = record { entry = x; below = new ++ h; seen = p; ruled = q; rest = e; beneath = beneath_append new h }
found_above (there s) (next q e) = found_above s e
