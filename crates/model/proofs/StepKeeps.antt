-- Every call keeps every rule.
-- By what each call did, told from its definition, and the lemma of that change.
use Rattle.std.proofs.Common.{◌≡◌, ℕ, ◌+◌, ◌-◌, ◌≤◌, Bool, cond, List, ◌∷◌, Some, None, Option, sym, refl, ap, ◌∙◌, subst, arith, ne_eqb}
use borrow.Author.Tests.{clash}
use Rattle.wire.specs.declared.entry.Entry.{Entry}
use Rattle.wire.specs.declared.pair.Seal.{Seal}
use Rattle.wire.specs.declared.text.Text.{Text}
use Rattle.stores.specs.declared.card.Card.{Card}
use Rattle.sealers.specs.Sealing.{spent, genuine_then}
use Rattle.sealers.proofs.Sealing.{remains}
use Rattle.source.specs.Issued.{next_text}
use Rattle.kinds.specs.Kinds.{RecordKind}
use Rattle.model.specs.Halls.{Hall, World, desk_of, seat_of, with_seat, with_store}
use Rattle.model.specs.Answers.{Answer}
use Rattle.model.specs.Calls.{Call, Step}
use Rattle.model.specs.Delivering.{posting}
use Rattle.model.specs.Meddling.{sent_by}
use Rattle.model.specs.Slips.{freed, holding_slip}
use Rattle.model.proofs.BeginKeeps.{begin_keeps}
use Rattle.model.proofs.ClientKeeps.{client_keeps, sealed_with}
use Rattle.model.proofs.Effects.{Effect, stands, issues, starts, client_steps, replica_steps, calls_off, collects_it, lodges, redeems, meddles, Seated, hall_is, sealed_is, effect_of}
use Rattle.model.proofs.Invariants.{Holds, UnforgedNow}
use Rattle.model.proofs.IssueKeeps.{issue_keeps}
use Rattle.model.proofs.Posts.{open_keeps}
use Rattle.model.proofs.ReplicaKeeps.{replica_keeps, replica_world}
use Rattle.model.proofs.ReplicaPosts.{replica_posts}
use Rattle.model.proofs.SlipKeeps.{one_seat_keeps, freed_rule, lodged_rule}

-- the world with another hall
abbrev pub in_hall : World → Hall → World
in_hall w h = record w { hall = h }

module _ {V : Type 0} (kind : RecordKind V) (sealed : List Text) (w : World) (holds : Holds kind.number sealed w) (small : kind.number ≤ 63) (unforged : UnforgedNow kind.number sealed w)
    (call : Call V) (given : Seal) (a : Answer V) (h' : Hall) (text : Option Text) (genuine : Text → Seal → Bool) where
  -- a world with this hall and these genuine seals
  abbrev with_seals_of : Hall → World
  with_seals_of h = record w { hall = h; genuine = genuine }

  -- every rule holds after a call that has sealed this text, or none
  abbrev KeptSo : Option Text → Hall → Type 0
  KeptSo t h = genuine ≡ genuine_then (desk_of w) t given → Holds kind.number (sealed_with t sealed) (with_seals_of h)

  -- a call that seals nothing and leaves this hall
  plain : {h : Hall} → text ≡ None → h ≡ h' → Holds kind.number sealed (in_hall w h) → KeptSo text h'
  plain none e done_so =
      subst (λ t. KeptSo t h') (sym none)
      (λ same. subst (λ q. Holds kind.number sealed (record w { hall = h'; genuine = q })) (sym same) (subst (λ h. Holds kind.number sealed (in_hall w h)) e done_so))

  freeing : {c : ℕ} → Seated w c → Holds kind.number sealed (in_hall w (with_seat w.hall c (freed (seat_of w.hall c))))
  freeing {c} s = one_seat_keeps kind.number sealed w c (freed (seat_of w.hall c)) w.left_open holds s.low s.high (freed_rule (holds.seats c s.low s.high))

  lodging : {c : ℕ} (lodged : Option ℕ) → Seated w c → Holds kind.number sealed (in_hall w (with_seat w.hall c (holding_slip (seat_of w.hall c) lodged)))
  lodging {c} lodged s = one_seat_keeps kind.number sealed w c (holding_slip (seat_of w.hall c) lodged) w.left_open holds s.low s.high (lodged_rule lodged (holds.seats c s.low s.high))

  replica_hall : (place : ℕ → Option Card) (saves : Option ℕ) (post : Option Entry) → Holds kind.number sealed (replica_world w place saves post) → Holds kind.number sealed (in_hall w (posting (with_store w.hall place saves) post))
  replica_hall place saves None done_so = done_so
  replica_hall place saves (Some x) done_so = done_so

  keeps_by : Effect kind w given call a h' text → KeptSo text h'
  keeps_by (stands f is e none) = plain none e holds
  keeps_by (issues set is allowed p) =
      subst (λ t. KeptSo t h') (sym (sealed_is p))
      (λ grown. subst (λ h. Holds kind.number (next_text w.hall.source set ∷ sealed) (with_seals_of h)) (hall_is p)
      (issue_keeps kind.number sealed w holds (record { newest = w.hall.source.newest + 1 }) (record { epoch = w.hall.source.newest + 1; set = set; seal = given })
      (spent w.hall.seals 0) w.left_open genuine refl refl allowed.right allowed.few allowed.roll_room allowed.post_room (remains (desk_of w) (next_text w.hall.source set) given genuine grown) others (next_text w.hall.source set) refl))
    where
      others : (q : ℕ) → 1 ≤ q → spent w.hall.seals 0 q ≡ w.hall.seals q
      others q low = ap (λ b. cond b (w.hall.seals q - 1) (w.hall.seals q)) (ne_eqb q 0 (λ e. omega arith))
  keeps_by (starts client word is allowed p) =
      plain (sealed_is p) (hall_is p)
      (begin_keeps kind.number sealed w holds client word w.left_open allowed.seated.low allowed.seated.high allowed.log_room allowed.post_room allowed.seal_left)
  keeps_by (client_steps number client is seated room fits line post seals step answer e) =
      subst (KeptSo text) e
      (client_keeps kind.number sealed w given small holds unforged number room.posted client seated.high room.room room.moment fits line post seals text step genuine)
  keeps_by (replica_steps number party r is inside room fits place saves post step answer e none) =
      plain none e (replica_hall place saves post (replica_keeps kind.number sealed w small holds unforged number room.posted r inside.inside room.room fits place saves post step))
  keeps_by (calls_off c k is its unended answer e none) = plain none e (freeing its.seated)
  keeps_by (collects_it c k v is its over answer e none) = plain none e (freeing its.seated)
  keeps_by (lodges c k is its answer e none) = plain none e (lodging (Some k) its.seated)
  keeps_by (redeems c k is seated answer e none) = plain none e (lodging None seated)
  keeps_by (meddles party e r is inside marked room answer q none) =
      plain none q (replica_posts kind.number sealed w r.number (sent_by party e) holds room (sym inside.number) (λ honest. absurd (clash (sym honest.unmarked ∙ marked))))

-- every call keeps every rule, whatever store and sealer leave open
pub step_keeps : {V : Type 0} (kind : RecordKind V) (sealed : List Text) (w w' : World) (a : Answer V) → kind.number ≤ 63 → Holds kind.number sealed w → UnforgedNow kind.number sealed w
    → (call : Call V) (step : Step kind w call a w') → Holds kind.number (sealed_with step.sealed sealed) w'
step_keeps kind sealed w w' a small holds unforged call step =
    open_keeps kind.number (sealed_with step.sealed sealed) (record w' { left_open = w.left_open }) w'.left_open
    (keeps_by kind sealed w holds small unforged call step.given a w'.hall step.sealed w'.genuine (effect_of kind w step.given a w'.hall step.sealed call (sym step.outcome)) step.seals.genuine)
