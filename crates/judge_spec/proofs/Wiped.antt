-- A cleared room, number by number: zeros inside the usable part, and beyond it what was there.
-- Assumes nothing.
use Prim.Native.Nat.{ℕ, ◌+◌, ◌-◌, ◌<◌, ◌≤◌}
use mathlib.Core.List.{List}
use mathlib.Core.Path.{◌≡◌, refl, sym, ap, ◌∙◌}
use native.Mathlib.Omega.{arith}
use lib.ListN.{
  length,
  get_or,
  drop,
  replicate,
  length-replicate,
  get_or-replicate,
  length-append,
  length-drop,
  get_or-append,
}
use lib.Seq.{get_or-append-add, get_or-drop}
use Rattle.std.specs.Prelude.{Result, Ok, Err}
use Rattle.number_spec.specs.declared.Refusal.{Refusal}
use Rattle.judge_spec.specs.Judgment.{usable, refusal, cleared, leaves, room_after}

module _ (room : List ℕ) where
  abbrev n : ℕ
  n = usable (length room)

  abbrev zeros : List ℕ
  zeros = replicate n 0

  as_many_zeros : length zeros ≡ n
  as_many_zeros = length-replicate {A = ℕ} n 0

  pub zeros_inside : (i none : ℕ) → i < n → get_or (cleared room) i none ≡ 0
  zeros_inside i none h =
      get_or-append zeros (drop n room) none i (omega (arith, as_many_zeros))
      ∙ get_or-replicate n i 0 none h

  cleared_beyond : (i none : ℕ) → n ≤ i → get_or (cleared room) i none ≡ get_or room i none
  cleared_beyond i none h =
      let there : length zeros + (i - n) ≡ i = omega (arith, as_many_zeros) in
      let back : n + (i - n) ≡ i = omega arith in
      ap (λ j. get_or (cleared room) j none) (sym there)
      ∙ get_or-append-add zeros (drop n room) (i - n) none
      ∙ get_or-drop n room (i - n) none ∙ ap (λ j. get_or room j none) back

  cleared_length : length (cleared room) ≡ length room
  cleared_length =
      length-append zeros (drop n room)
      ∙ omega (arith, as_many_zeros, length-drop n room)

  left_beyond : (f : Result Unit Refusal) (i none : ℕ) → n ≤ i → get_or (leaves f room) i none ≡ get_or room i none
  left_beyond (Ok u) i none h = cleared_beyond i none h
  left_beyond (Err refused) i none h = refl

  left_length : (f : Result Unit Refusal) → length (leaves f room) ≡ length room
  left_length (Ok u) = cleared_length
  left_length (Err refused) = refl

module _ (card log room : List ℕ) where
  pub kept_beyond : (i none : ℕ) → usable (length room) ≤ i
      → get_or (room_after card log room) i none ≡ get_or room i none
  unfolding room_after
  kept_beyond i none h = left_beyond room (refusal card log) i none h

  pub same_length : length (room_after card log room) ≡ length room
  unfolding room_after
  same_length = left_length room (refusal card log)
