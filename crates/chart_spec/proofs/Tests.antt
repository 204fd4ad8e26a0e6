-- Tests that are joined by `&&`, `||` and `not`, as types and back.
-- Assumes nothing.
use mathlib.Core.Bool.{Bool, true, false, ◌&&◌, ◌||◌}
use mathlib.Core.Logic.{◌⊎◌, inl, inr}
use mathlib.Core.Path.{◌≡◌, refl}
use lib.Dec.{T}

pub both→ : (p q : Bool) → T (p && q) → T p × T q
both→ true q h = (tt, h)
both→ false q h = absurd h

pub both← : (p q : Bool) → T p → T q → T (p && q)
both← true q h k = k
both← false q h k = absurd h

pub either→ : (p q : Bool) → T (p || q) → T p ⊎ T q
either→ true q h = inl tt
either→ false q h = inr h

pub either←left : (p q : Bool) → T p → T (p || q)
either←left true q h = tt
either←left false q h = absurd h

pub either←right : (p q : Bool) → T q → T (p || q)
either←right true q h = tt
either←right false q h = h

-- a test that passes is true
pub passes : (p : Bool) → T p → p ≡ true
passes true h = refl
passes false h = absurd h

-- two tests that are both true
pub both_true : (p q : Bool) → (p && q) ≡ true → (p ≡ true) × (q ≡ true)
both_true true q h = (refl, h)
both_true false q h = (h, cc)
