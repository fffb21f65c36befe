-- Which way a chain of tests went, told from what came of it.
-- Nothing is assumed.
use Rattle.std.proofs.Common.{◌≡◌, Bool, true, false, cond, ◌&&◌, Some, None, Ok, Err, Option, Result, sym, refl}

-- one of the two ways of a test
pub way : {X P : Type 0} (b : Bool) {x y r : X} → cond b x y ≡ r → (b ≡ true → x ≡ r → P) → (b ≡ false → y ≡ r → P) → P
way true e yes_way no_way = yes_way refl e
way false e yes_way no_way = no_way refl e

-- an error is no success
pub not_ok : {A E P : Type 0} {e : E} {a : A} → ◌≡◌ {A = Result A E} (Err e) (Ok a) → P
not_ok p = absurd cc

pub ok_same : {A E : Type 0} {a b : A} → ◌≡◌ {A = Result A E} (Ok a) (Ok b) → a ≡ b
ok_same p = cc

pub some_same : {A : Type 0} {a b : A} → ◌≡◌ {A = Option A} (Some a) (Some b) → a ≡ b
some_same p = cc

pub not_some : {A P : Type 0} {a : A} → ◌≡◌ {A = Option A} None (Some a) → P
not_some p = absurd cc

-- one of the two ways of a test, under a function
pub way_in : {X Y P : Type 0} (f : X → Y) (b : Bool) {x y : X} {r : Y} → f (cond b x y) ≡ r → (b ≡ true → f x ≡ r → P) → (b ≡ false → f y ≡ r → P) → P
way_in f true e yes_way no_way = yes_way refl e
way_in f false e yes_way no_way = no_way refl e

-- not both parts of a test hold
pub not_both : (a b : Bool) → (a && b) ≡ false → a ≡ true → b ≡ false
not_both true b e is = e
not_both false true e is = sym is
not_both false false e is = refl

-- by a test that may go either way
pub either : {P : Type 0} (b : Bool) → (b ≡ true → P) → (b ≡ false → P) → P
either true yes_way no_way = yes_way refl
either false yes_way no_way = no_way refl
