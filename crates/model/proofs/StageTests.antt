-- What a test tells of a stage, and which changes of stage neither end an operation nor stamp a write.
-- Each is told by the five stages.
use Rattle.std.proofs.Common.{◌≡◌, true, false, not, ◌&&◌, ◌⊎◌, sym, refl, inl, inr}
use borrow.Author.Tests.{clash}
use Rattle.clients.specs.declared.line.Stage.{Stage}
use Rattle.clients.specs.declared.line.Stage.TheVariants.{Idle, Reading, Writing, WritingBack, Over}
use Rattle.clients.specs.Lines.{is_open, is_idle, is_reading, is_writing}
use Rattle.model.specs.Delivering.{is_over, is_stamping}

-- what holds of each of the five holds of all, in the order of a client's stages
by_stages : (P : Stage → Type 0) → P Idle → P Reading → P Writing → P WritingBack → P Over → (s : Stage) → P s
by_stages P idle reading writing back over Idle = idle
by_stages P idle reading writing back over Reading = reading
by_stages P idle reading writing back over Writing = writing
by_stages P idle reading writing back over WritingBack = back
by_stages P idle reading writing back over Over = over

pub reading_is : (s : Stage) → is_reading s ≡ true → s ≡ Reading
reading_is = by_stages (λ s. is_reading s ≡ true → s ≡ Reading) (λ p. absurd (clash p)) (λ p. refl) (λ p. absurd (clash p)) (λ p. absurd (clash p)) (λ p. absurd (clash p))

pub over_is : (s : Stage) → is_over s ≡ true → s ≡ Over
over_is = by_stages (λ s. is_over s ≡ true → s ≡ Over) (λ p. absurd (clash p)) (λ p. absurd (clash p)) (λ p. absurd (clash p)) (λ p. absurd (clash p)) (λ p. refl)

pub writing_cases : (s : Stage) → is_writing s ≡ true → (s ≡ Writing) ⊎ (s ≡ WritingBack)
writing_cases = by_stages (λ s. is_writing s ≡ true → (s ≡ Writing) ⊎ (s ≡ WritingBack)) (λ p. absurd (clash p)) (λ p. absurd (clash p)) (λ p. inl refl) (λ p. inr refl) (λ p. absurd (clash p))

pub closed_cases : (s : Stage) → is_open s ≡ false → (s ≡ Idle) ⊎ (s ≡ Over)
closed_cases =
    by_stages (λ s. is_open s ≡ false → (s ≡ Idle) ⊎ (s ≡ Over)) (λ p. inl refl) (λ p. absurd (clash (sym p))) (λ p. absurd (clash (sym p))) (λ p. absurd (clash (sym p))) (λ p. inr refl)

pub writing_opens : (s : Stage) → is_writing s ≡ true → is_open s ≡ true
writing_opens = by_stages (λ s. is_writing s ≡ true → is_open s ≡ true) (λ p. p) (λ p. refl) (λ p. refl) (λ p. refl) (λ p. p)

pub opens_busy : (s : Stage) → is_open s ≡ true → is_idle s ≡ false
opens_busy = by_stages (λ s. is_open s ≡ true → is_idle s ≡ false) (λ p. sym p) (λ p. refl) (λ p. refl) (λ p. refl) (λ p. refl)

pub opens_not_over : (s : Stage) → is_open s ≡ true → not (is_over s) ≡ true
opens_not_over = by_stages (λ s. is_open s ≡ true → not (is_over s) ≡ true) (λ p. refl) (λ p. refl) (λ p. refl) (λ p. refl) (λ p. p)

pub over_shut : (s : Stage) → is_over s ≡ true → is_open s ≡ false
over_shut = by_stages (λ s. is_over s ≡ true → is_open s ≡ false) (λ p. refl) (λ p. sym p) (λ p. sym p) (λ p. sym p) (λ p. refl)

pub idle_shut : (s : Stage) → is_idle s ≡ true → is_open s ≡ false
idle_shut = by_stages (λ s. is_idle s ≡ true → is_open s ≡ false) (λ p. refl) (λ p. sym p) (λ p. sym p) (λ p. sym p) (λ p. refl)

-- the same stage neither ends nor stamps
pub same_over : (s : Stage) → (is_over s && not (is_over s)) ≡ false
same_over = by_stages (λ s. (is_over s && not (is_over s)) ≡ false) refl refl refl refl refl

pub same_stamping : (s : Stage) → is_stamping s s ≡ false
same_stamping = by_stages (λ s. is_stamping s s ≡ false) refl refl refl refl refl

-- only a stage of writing stamps
pub not_to_reading : (s : Stage) → is_stamping s Reading ≡ false
not_to_reading = by_stages (λ s. is_stamping s Reading ≡ false) refl refl refl refl refl

pub not_to_back : (s : Stage) → is_stamping s WritingBack ≡ false
not_to_back = by_stages (λ s. is_stamping s WritingBack ≡ false) refl refl refl refl refl

pub not_to_over : (s : Stage) → is_stamping s Over ≡ false
not_to_over = by_stages (λ s. is_stamping s Over ≡ false) refl refl refl refl refl
