-- What checks is known: in a world whose posted seals are not forged, a posted pair or configuration that checks is one that
-- was sealed, and so is in the log or in the roll.
use Rattle.std.proofs.Common.{◌≡◌, ℕ, ◌<◌, ◌≤◌, true, ◌&&◌, eqb, List, length, Some, sym, ap, ◌∙◌, refl, ⊎_elim, arith}
use Rattle.std.proofs.lemmas.Bool.{or_cases, and_parts, eqb-true}
use Rattle.wire.specs.declared.pair.Configuration.{Configuration}
use Rattle.wire.specs.declared.pair.Pair.{Pair}
use Rattle.wire.specs.declared.text.Text.{Text}
use Rattle.wire.specs.Entries.{pair_of, configuration_of}
use Rattle.wire.specs.Texts.{pair_text, configuration_text}
use Rattle.rules.specs.Genuine.{genuine_configuration, opening_pair, first_configuration, same_pair, same_configuration, is_client}
use Rattle.sealers.proofs.Sealing.{or_right}
use Rattle.model.specs.Halls.{Hall, World}
use Rattle.model.specs.Delivering.{entry_of}
use Rattle.model.specs.Runs.{text_of}
use Rattle.model.proofs.Invariants.{issued_as, KnownConfiguration, KnownPair, KnownText, Genuine, RollRule, Holds, UnforgedNow}
use Rattle.model.proofs.Invariants.KnownPair.{the_opening, a_write}
use Rattle.model.proofs.Invariants.KnownText.{of_configuration, of_write}

-- a pair equal to the opening pair is known
opening_known : (h : Hall) (p : Pair) → same_pair p (opening_pair h.rules) ≡ true → KnownPair h p
opening_known h p same =
    let count = eqb p.stamp.count 0 in
    let writer = eqb p.stamp.writer 0 in
    let word = eqb p.word.0 h.rules.opening.0 in
    let seal = eqb p.seal.0 0 in
    let parts = and_parts (count && writer) (word && seal) same in
    let stamps = and_parts count writer parts.0 in
    let words = eqb-true p.word.0 h.rules.opening.0 (and_parts word seal parts.1).0 in
    the_opening (eqb-true p.stamp.count 0 stamps.0) (eqb-true p.stamp.writer 0 stamps.1) (λ i. record { 0 = words i })

-- the text of a pair is no configuration's, and no other pair's
pub text_pair : (kind : ℕ) (h : Hall) (p : Pair) → kind ≤ 63 → KnownText kind h (pair_text kind p) → KnownPair h p
text_pair kind h p small (of_configuration e lt same) = absurd (omega (arith, ap (λ t. t.tag) same))
text_pair kind h p small (of_write k s same) =
    let count = sym (ap (λ t. t.number) same) in
    let writer = sym (ap (λ t. t.party) same) in
    let word = sym (ap (λ t. t.body) same) in
    a_write k s (λ i. record { count = count i; writer = writer i }) (λ i. record { 0 = word i })

-- the configuration has the set of epoch e, and is of that epoch
set_known : (h : Hall) (c : Configuration) (e : ℕ) → e < length h.roll.list → c.epoch ≡ e → c.set.0 ≡ (issued_as h e).set.0 → KnownConfiguration h c
set_known h c e lt epoch set = record { issued = omega arith; set = set ∙ ap (λ a. (issued_as h a).set.0) (sym epoch) }

-- the text of a configuration is no pair's, and no other configuration's
pub text_configuration : (kind : ℕ) (h : Hall) (c : Configuration) → kind ≤ 63 → RollRule h.rules h.marked h.roll.list h.source.newest → KnownText kind h (configuration_text c) → KnownConfiguration h c
text_configuration kind h c small roll (of_configuration e lt same) =
    set_known h c e lt (ap (λ t. t.number) same ∙ roll.epochs e lt) (ap (λ t. t.body) same)
text_configuration kind h c small roll (of_write k s same) = absurd (omega (arith, ap (λ t. t.tag) same))

-- a configuration equal to the first one is known
first_known : (h : Hall) (c : Configuration) → RollRule h.rules h.marked h.roll.list h.source.newest → same_configuration c (first_configuration h.rules) ≡ true → KnownConfiguration h c
first_known h c roll same =
    let epoch = eqb c.epoch 0 in
    let set = eqb c.set.0 h.rules.first.0 in
    let seal = eqb c.seal.0 0 in
    let parts = and_parts epoch (set && seal) same in
    let sets = and_parts set seal parts.1 in
    set_known h c 0 roll.some (eqb-true c.epoch 0 parts.0) (eqb-true c.set.0 h.rules.first.0 sets.0 ∙ sym roll.first)

-- a posted entry whose text is its pair's, and whose pair checks
pub checked_pair : (kind : ℕ) (sealed : List Text) (w : World) → kind ≤ 63 → Holds kind sealed w → UnforgedNow kind sealed w
    → (n : ℕ) → n < length w.hall.post.list → text_of kind (entry_of w.hall n) ≡ Some (pair_text kind (pair_of (entry_of w.hall n)))
    → Genuine kind w (pair_of (entry_of w.hall n)) → KnownPair w.hall (pair_of (entry_of w.hall n))
checked_pair kind sealed w small holds unforged n lt text genuine =
    let p = pair_of (entry_of w.hall n) in
    let client = is_client w.hall.rules p.stamp.writer in
    let checks = w.genuine (pair_text kind p) p.seal in
    ⊎_elim (opening_known w.hall p)
    (λ seals. text_pair kind w.hall p small (holds.texts (pair_text kind p) (unforged.known n lt (pair_text kind p) text (or_right (eqb p.stamp.writer 0) client (and_parts client checks seals).0) (and_parts client checks seals).1)))
    (or_cases (same_pair p (opening_pair w.hall.rules)) (client && checks) genuine)

-- a posted entry whose text is its configuration's, and whose configuration checks
pub checked_configuration : (kind : ℕ) (sealed : List Text) (w : World) → kind ≤ 63 → Holds kind sealed w → UnforgedNow kind sealed w
    → (n : ℕ) → n < length w.hall.post.list → text_of kind (entry_of w.hall n) ≡ Some (configuration_text (configuration_of (entry_of w.hall n)))
    → genuine_configuration w.hall.rules w.genuine (configuration_of (entry_of w.hall n)) ≡ true
    → KnownConfiguration w.hall (configuration_of (entry_of w.hall n))
checked_configuration kind sealed w small holds unforged n lt text genuine =
    let c = configuration_of (entry_of w.hall n) in
    ⊎_elim (first_known w.hall c holds.roll)
    (λ seals. text_configuration kind w.hall c small holds.roll (holds.texts (configuration_text c) (unforged.known n lt (configuration_text c) text refl seals)))
    (or_cases (same_configuration c (first_configuration w.hall.rules)) (w.genuine (configuration_text c) c.seal) genuine)

-- writers of known pairs are small, so that stamps compare as numbers
pub known_writer : (kind : ℕ) (sealed : List Text) (w : World) → Holds kind sealed w → (p : Pair) → KnownPair w.hall p → p.stamp.writer < 256
known_writer kind sealed w holds p (the_opening count writer word) = omega arith
known_writer kind sealed w holds p (a_write k s stamp word) =
    let op = holds.log.each k s.logged in
    omega (arith, op.client_high, holds.sized.clients, op.writer s.writes s.stamped, ap (λ t. t.writer) stamp)
