-- What is genuine once a text has been sealed, and where that comes from. Assumes nothing.
use Rattle.std.proofs.Common.{◌≡◌, Bool, true, false, ◌&&◌, ◌||◌, eqb, ◌⊎◌, Some, None, Option, refl, sym, ◌∙◌, subst, inl, inr, ⊎_elim}
use Rattle.std.proofs.lemmas.Bool.{or_cases, and_parts, and_from, eqb-true, eq-eqb, true≢false}
use Rattle.wire.specs.declared.pair.Seal.{Seal}
use Rattle.wire.specs.declared.text.Text.{Text}
use Rattle.sealers.specs.Sealing.{Desk, Seals, same_text, genuine_with}

pub same_itself : (t : Text) → same_text t t ≡ true
same_itself t = and_from _ _ (eq-eqb t.tag t.tag refl) (and_from _ _ (eq-eqb t.party t.party refl) (and_from _ _ (eq-eqb t.number t.number refl) (eq-eqb t.body t.body refl)))

pub text_is : (t u : Text) → same_text t u ≡ true → t ≡ u
text_is t u same =
    let first = and_parts (eqb t.tag u.tag) (eqb t.party u.party && (eqb t.number u.number && eqb t.body u.body)) same in
    let second = and_parts (eqb t.party u.party) (eqb t.number u.number && eqb t.body u.body) first.1 in
    let third = and_parts (eqb t.number u.number) (eqb t.body u.body) second.1 in
    let tags = eqb-true t.tag u.tag first.0 in
    let parties = eqb-true t.party u.party second.0 in
    let numbers = eqb-true t.number u.number third.0 in
    let bodies = eqb-true t.body u.body third.1 in
    λ i. record { tag = tags i; party = parties i; number = numbers i; body = bodies i }

-- two tests that hold for the same things are the same
same_test : (a b : Bool) → (a ≡ true → b ≡ true) → (b ≡ true → a ≡ true) → a ≡ b
same_test true true there back = refl
same_test true false there back = sym (there refl)
same_test false true there back = back refl
same_test false false there back = refl

or_left : (a b : Bool) → a ≡ true → (a || b) ≡ true
or_left true b e = refl
or_left false b e = absurd (true≢false (sym e))

pub or_right : (a b : Bool) → b ≡ true → (a || b) ≡ true
or_right true b e = refl
or_right false b e = e

-- what holds of the text that was sealed
pub of_text : (P : Text → Type 0) {text : Text} → P text → (t : Text) → ◌≡◌ {A = Option Text} (Some text) (Some t) → P t
of_text P {text} holds t is = let same : text ≡ t = cc in subst P same holds

-- a sealer that has sealed nothing
pub nothing_sealed : (desk : Desk) (given : Seal) → Seals desk None given desk
nothing_sealed desk given = record { allowed = λ t is. let wrong : ⊥ = cc in absurd wrong; genuine = refl }

module _ (desk : Desk) (text : Text) (given : Seal) where
  -- what was genuine is so still
  pub still_with : (t : Text) (s : Seal) → desk.genuine t s ≡ true → genuine_with desk text given t s ≡ true
  still_with t s e = or_left (desk.genuine t s) _ e

  -- the seal that was given is
  pub given_with : (t : Text) (s : Seal) → t ≡ text → s.0 ≡ given.0 → genuine_with desk text given t s ≡ true
  given_with t s same at =
      or_right (desk.genuine t s) _
      (or_left (same_text t text && eqb s.0 given.0) _
      (and_from _ _ (subst (λ u. same_text t u ≡ true) same (same_itself t)) (eq-eqb s.0 given.0 at)))

  -- nothing else is, where nothing becomes genuine beside it
  pub origin : ((t : Text) (s : Seal) → desk.beside text t s ≡ false) → (t : Text) (s : Seal) → genuine_with desk text given t s ≡ true
      → (desk.genuine t s ≡ true) ⊎ ((t ≡ text) × (s.0 ≡ given.0))
  origin none t s e = ⊎_elim
      (λ old. inl old)
      (λ more. ⊎_elim
      (λ new. let parts = and_parts (same_text t text) (eqb s.0 given.0) new in inr (text_is t text parts.0, eqb-true s.0 given.0 parts.1))
      (λ beside. absurd (true≢false (sym beside ∙ none t s)))
      (or_cases (same_text t text && eqb s.0 given.0) (desk.beside text t s) more))
      (or_cases (desk.genuine t s) ((same_text t text && eqb s.0 given.0) || desk.beside text t s) e)

  -- the seals that are genuine afterwards are exactly those: the old ones, the new one, and no other
  pub exactly : (after : Text → Seal → Bool) → ((t : Text) (s : Seal) → desk.beside text t s ≡ false)
      → ((t : Text) (s : Seal) → after t s ≡ true → genuine_with desk text given t s ≡ true)
      → ((t : Text) (s : Seal) → desk.genuine t s ≡ true → after t s ≡ true)
      → after text given ≡ true → after ≡ genuine_with desk text given
  exactly after none there old new i t s = same_test (after t s) (genuine_with desk text given t s) (there t s) back i
    where
      back : genuine_with desk text given t s ≡ true → after t s ≡ true
      back e = ⊎_elim
          (λ was. old t s was)
          (λ is. subst (λ u. after u s ≡ true) (sym is.0) (subst (λ x. after text x ≡ true) (λ j. record { 0 = sym is.1 j }) new))
          (origin none t s e)

  module _ (after : Text → Seal → Bool) (is : after ≡ genuine_with desk text given) where
    pub remains : (t : Text) (s : Seal) → desk.genuine t s ≡ true → after t s ≡ true
    remains t s e = subst (λ g. g t s ≡ true) (sym is) (still_with t s e)

    pub given_genuine : after text given ≡ true
    given_genuine = subst (λ g. g text given ≡ true) (sym is) (given_with text given refl refl)
