-- One replica more is marked, or passed over. Assumes nothing.
use Rattle.std.proofs.Common.{◌≡◌, ℕ, suc, ◌+◌, ◌-◌, ◌/◌, ◌%◌, ◌^◌, ◌<◌, true, false, Ok, Err, Result, IsErrAnd, refl, sym, ap, ◌∙◌, arith}
use Rattle.std.proofs.lemmas.Bool.{cond-true, cond-false, eq-eqb, ne_eqb}
use Rattle.wire.specs.Sets.{member}
use Rattle.halls.specs.declared.fault.HallFault.{HallFault}
use Rattle.register.specs.Setups.{Settings, Marking, mark_called}
use Rattle.runner.specs.Openings.{marks, unless_refused}
use Rattle.runner.specs.Opened.{settings_if}

module _ (set : ℕ) (s : Settings) where
  pub nothing : marks 0 set s ≡ Ok s
  unfolding marks
  nothing = refl

  pub passed_over : (n : ℕ) → 0 < n → (set / 2 ^ (n - 1) % 2 ≡ 1 → ⊥) → marks n set s ≡ marks (n - 1) set s
  unfolding marks member
  passed_over n lt lacks = by_number n (n - 1) (omega arith) (ne_eqb (set / 2 ^ (n - 1) % 2) 1 lacks)
    where
      by_number : (n m : ℕ) → n ≡ suc m → member set m ≡ false → marks n set s ≡ marks m set s
      by_number n m e no' = ap (λ k. marks k set s) e ∙ cond-false (member set m) _ _ no'

  pub one_marked : (n : ℕ) (m : Marking) → 0 < n → set / 2 ^ (n - 1) % 2 ≡ 1 → m ≡ mark_called s (100 + (n - 1))
      → marks n set s ≡ unless_refused m.answer m.settings (marks (n - 1) set)
  unfolding marks member
  one_marked n m lt has e = by_number n (n - 1) (omega arith) (eq-eqb (set / 2 ^ (n - 1) % 2) 1 has) e
    where
      by_number : (n k : ℕ) → n ≡ suc k → member set k ≡ true → m ≡ mark_called s (100 + k) → marks n set s ≡ unless_refused m.answer m.settings (marks k set)
      by_number n k e yes' is =
          ap (λ j. marks j set s) e ∙ cond-true (member set k) _ _ yes' ∙ ap (λ (x : Marking). unless_refused x.answer x.settings (marks k set)) (sym is)

-- a refusal ends it
pub refused_here : (r q : Result (Unit {0}) HallFault) (fault : HallFault) (s : Settings) (next : Settings → Result Settings HallFault)
    → q ≡ Err fault → IsErrAnd r (λ e. e ≡ fault) → settings_if r s ≡ unless_refused q s next
refused_here (Ok u) q fault s next e is = absurd is
refused_here (Err f) q fault s next e is = ap (λ x. Err x) is ∙ ap (λ x. unless_refused x s next) (sym e)
