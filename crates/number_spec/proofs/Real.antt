-- The refusals have the numbers of 01's table, and none has number 0, which is that of a sound card.
-- Assumes nothing.
use Prim.Native.Nat.{ℕ}
use mathlib.Core.List.{[], ◌∷◌}
use mathlib.Core.Logic.{◌≢◌}
use mathlib.Core.Path.{◌≡◌, refl}
use native.Mathlib.Omega.{arith}
use Rattle.std.specs.Prelude.{map}
use Rattle.number_spec.specs.declared.Refusal.{Refusal}
use Rattle.number_spec.specs.declared.Refusal.TheVariants.{
  CardFrame,
  BackDistance,
  Counts,
  FaultyNode,
  MisusedNode,
  TooDeep,
  LogLength,
  UndeclaredAction,
  AllowanceSpent,
  RoomExceeded,
  UndeclaredLifeline,
  NoLogLeft,
  OutputTooShort,
}
use Rattle.number_spec.specs.Refusals.{number_of}

-- In the order of the table, whatever the node or the action.
pub refusals_are_numbered :
    (faulty misused undeclared : ℕ)
    → map number_of
    (CardFrame
    ∷ BackDistance
    ∷ Counts
    ∷ FaultyNode faulty
    ∷ MisusedNode misused
    ∷ TooDeep
    ∷ LogLength
    ∷ UndeclaredAction undeclared
    ∷ AllowanceSpent
    ∷ RoomExceeded
    ∷ UndeclaredLifeline
    ∷ NoLogLeft
    ∷ OutputTooShort
    ∷ [])
    ≡ 1 ∷ 2 ∷ 3 ∷ 4 ∷ 5 ∷ 6 ∷ 7 ∷ 8 ∷ 9 ∷ 10 ∷ 11 ∷ 12 ∷ 13 ∷ []
refusals_are_numbered faulty misused undeclared = refl

pub refusal_is_not_zero : (refusal : Refusal) → number_of refusal ≢ 0
refusal_is_not_zero CardFrame e = omega arith
refusal_is_not_zero BackDistance e = omega arith
refusal_is_not_zero Counts e = omega arith
refusal_is_not_zero (FaultyNode node) e = omega arith
refusal_is_not_zero (MisusedNode node) e = omega arith
refusal_is_not_zero TooDeep e = omega arith
refusal_is_not_zero LogLength e = omega arith
refusal_is_not_zero (UndeclaredAction action) e = omega arith
refusal_is_not_zero AllowanceSpent e = omega arith
refusal_is_not_zero RoomExceeded e = omega arith
refusal_is_not_zero UndeclaredLifeline e = omega arith
refusal_is_not_zero NoLogLeft e = omega arith
refusal_is_not_zero OutputTooShort e = omega arith
