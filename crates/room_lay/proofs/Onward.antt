-- What a caller can rely on after laying: if the whole chart was laid, its places are a table, the card's chart stands
-- at its root, and as many places are in use as the chart has nodes. It is laid exactly if these do not exceed the
-- room.
-- Assumes nothing.
use Rattle.std.specs.Prelude.{Option, Some, None}
use Prim.Native.Nat.{ℕ, ◌-◌, ◌<◌, ◌≤◌}
use mathlib.Core.Bool.{Bool, true, false, cond}
use mathlib.Core.List.{List}
use mathlib.Core.Path.{◌≡◌, refl, ap, sym, subst, ◌∙◌}
use native.Mathlib.Omega.{arith}
use lib.ListN.{length}
use borrow.Author.Tests.{ltb-true, ltb-false}
use Rattle.chart_spec.specs.Chart.{size}
use Rattle.card_spec.specs.Parts.{nodes_of}
use Rattle.card_spec.specs.Nodes.{card_chart}
use Rattle.card_spec.specs.Table.{Sound}
use Rattle.card_spec.proofs.Telling.{sound→faultless, sound→once}
use Rattle.card_spec.proofs.Charted.{as_many_nodes}
use Rattle.room_spec.specs.declared.Root.{Root}
use Rattle.room_spec.specs.Room.{chart_in, Table, Rooted}
use Rattle.room_spec.proofs.Apart.{table_rooted}
use Rattle.room_lay.specs.Rooms.{placed, taken, exceeds, laying, laid_in}
use Rattle.room_lay.proofs.Placed.{placed_length, placed_table, placed_chart}

abbrev root_in : Option Root → Root
root_in (Some root) = root
root_in None = record { place = 0; used = 0 }

abbrev IsSome : Option Root → Type 0
IsSome (Some root) = Unit
IsSome None = ⊥

whole_if_it_does_not_exceed :
    (b : Bool) (root there : Root) → Some root ≡ cond b None (Some there) → (b ≡ false) × (root ≡ there)
whole_if_it_does_not_exceed true root there e = absurd (subst IsSome e tt)
whole_if_it_does_not_exceed false root there e = (refl, ap root_in e)

none_if_it_exceeds : (b : Bool) (there : Root) → None ≡ cond b None (Some there) → b ≡ true
none_if_it_exceeds true there e = refl
none_if_it_exceeds false there e = absurd (subst IsSome (sym e) tt)

-- Laying takes as many places as the chart has nodes.
pub taken_by_the_chart : (card : List ℕ) → Sound card → taken card ≡ size (card_chart card)
taken_by_the_chart card sound =
    sym (as_many_nodes (nodes_of card) (sound→faultless card sound) (sound→once card sound))

-- There is no root only if the chart exceeds the room.
pub too_little_exceeds : (card room : List ℕ) → Sound card → None ≡ laying card room
    → length room < size (card_chart card)
too_little_exceeds card room sound told =
    let over = none_if_it_exceeds (exceeds card room) (record { place = taken card - 1; used = taken card }) told
    in
    rw (taken_by_the_chart card sound) at (ltb-true (length room) (taken card) over)

module _ (card room : List ℕ) (sound : Sound card) (usable : length room ≤ 16384) (root : Root)
    (laid : Some root ≡ laying card room) where
  decided : (exceeds card room ≡ false) × (root ≡ record { place = taken card - 1; used = taken card })
  decided =
      whole_if_it_does_not_exceed (exceeds card room) root (record { place = taken card - 1; used = taken card }) laid

  enough : taken card ≤ length room
  enough = ltb-false (length room) (taken card) decided.0

  there : laid_in card room ≡ placed (nodes_of card) (taken card) room
  there = rw decided.0

  pub whole_fits : size (card_chart card) ≤ length room
  whole_fits = rw (taken_by_the_chart card sound) at enough

  pub whole_keeps_the_length : length (laid_in card room) ≡ length room
  whole_keeps_the_length = ap length there ∙ placed_length (nodes_of card) (taken card) room enough

  -- The places in use.
  pub whole_counts_the_chart : root.used ≡ size (card_chart card)
  whole_counts_the_chart = ap (λ r. r.used) decided.1 ∙ taken_by_the_chart card sound

  pub whole_is_a_table : Table (laid_in card room) root.used
  whole_is_a_table =
      let all : root.used ≡ taken card = ap (λ r. r.used) decided.1 in
      rw (there, all) (placed_table card sound room (taken card) (omega arith) enough usable)

  pub whole_is_below : root.place < root.used
  whole_is_below =
      let last : root.place ≡ taken card - 1 = ap (λ r. r.place) decided.1 in
      let all : root.used ≡ taken card = ap (λ r. r.used) decided.1 in
      omega (arith, (sound→faultless card sound).some)

  pub whole_is_rooted : Rooted (laid_in card room) root.place
  whole_is_rooted =
      let all : root.used ≡ taken card = ap (λ r. r.used) decided.1 in
      table_rooted (laid_in card room) root.used root.place whole_is_a_table whole_is_below
      (omega (arith, whole_is_below, enough, whole_keeps_the_length))

  -- The card's chart stands at the root.
  pub whole_stands : chart_in (laid_in card room) root.place ≡ card_chart card
  whole_stands =
      let last : root.place ≡ taken card - 1 = ap (λ r. r.place) decided.1 in
      rw (there, last) (placed_chart card sound room)
