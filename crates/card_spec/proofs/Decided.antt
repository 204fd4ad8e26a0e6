-- A test decides a condition: it passes exactly if the condition does not hold. Tests that are joined decide
-- conditions that are joined.
-- Assumes nothing.
use Prim.Native.Nat.{ℕ, ◌<◌, ◌≤◌}
use mathlib.Core.Bool.{Bool, true, false, ◌&&◌, true≢false}
use mathlib.Core.Logic.{◌≢◌, ◌⊎◌, inl, inr, ⊎_elim}
use mathlib.Core.Path.{◌≡◌, refl, sym}
use native.Mathlib.Omega.{arith}
use lib.Dec.{eqb, ltb, leb}
use borrow.Author.Tests.{eqb-true, eqb-false, ltb-true, ltb-false, leb-true, leb-false}

-- The test p decides the condition P.
pub record Decided (p : Bool) (P : Type 0) : Type 0 where
  pub passes : p ≡ true → ¬ P
  pub fails : p ≡ false → P

pub if_not : {p : Bool} {P : Type 0} → Decided p P → ¬ P → p ≡ true
if_not {p = true} d h = refl
if_not {p = false} d h = absurd (h (d.fails refl))

pub if_so : {p : Bool} {P : Type 0} → Decided p P → P → p ≡ false
if_so {p = true} d h = absurd (d.passes refl h)
if_so {p = false} d h = refl

pub by_leb : (a b : ℕ) → Decided (leb a b) (b < a)
by_leb a b = record { passes = λ e h. omega (arith, leb-true a b e); fails = leb-false a b }

pub by_ltb : (a b : ℕ) → Decided (ltb a b) (b ≤ a)
by_ltb a b = record { passes = λ e h. omega (arith, ltb-true a b e); fails = ltb-false a b }

pub by_eqb : (a b : ℕ) → Decided (eqb a b) (a ≢ b)
by_eqb a b = record { passes = λ e h. h (eqb-true a b e); fails = eqb-false a b }

-- Both tests: the second may rely on the first.
pub by_both : {p q : Bool} {P Q : Type 0} → Decided p P → (¬ P → Decided q Q) → Decided (p && q) (P ⊎ Q)
by_both {p = true} {q} {P} {Q} d e =
    let fine = d.passes refl in
    record { passes = λ h w. ⊎_elim fine ((e fine).passes h) w; fails = λ h. inr ((e fine).fails h) }
by_both {p = false} d e = record { passes = λ h w. false_is_true h; fails = λ h. inl (d.fails refl) }
  where
    false_is_true : {A : Type 0} → false ≡ true → A
    false_is_true h = absurd (true≢false (sym h))

-- The same condition in other words.
pub in_words : {p : Bool} {P Q : Type 0} → (P → Q) → (Q → P) → Decided p P → Decided p Q
in_words f g d = record { passes = λ e q. d.passes e (g q); fails = λ e. f (d.fails e) }

pub regroup : {p : Bool} {A B C : Type 0} → Decided p ((A ⊎ B) ⊎ C) → Decided p (A ⊎ B ⊎ C)
regroup {A = A} {B = B} {C = C} d = in_words there back d
  where
    there : (A ⊎ B) ⊎ C → A ⊎ B ⊎ C
    there (inl (inl a)) = inl a
    there (inl (inr b)) = inr (inl b)
    there (inr c) = inr (inr c)

    back : A ⊎ B ⊎ C → (A ⊎ B) ⊎ C
    back (inl a) = inl (inl a)
    back (inr (inl b)) = inl (inr b)
    back (inr (inr c)) = inr c
