-- What a caller can rely on after an answer. What was in use stands as before. A follow-up that did not exceed the room
-- has its root and its chart at its place, and the places in use have grown by its cost; and it exceeds the room
-- exactly if that many places do.
-- Assumes nothing.
use Prim.Native.Nat.{ℕ, ◌+◌, ◌<◌, ◌≤◌}
use mathlib.Core.List.{List}
use mathlib.Core.Logic.{◌↔◌}
use mathlib.Core.Path.{◌≡◌}
use native.Mathlib.Omega.{arith}
use lib.ListN.{length, get_or}
use Rattle.std.specs.Prelude.{Result, Ok}
use Rattle.chart_spec.specs.Executing.{Made, chart_of, cost_of}
use Rattle.chart_spec.specs.Executing.Made.{new_empty}
use Rattle.room_spec.specs.declared.Root.{Root}
use Rattle.room_spec.specs.declared.Missing.{Missing}
use Rattle.room_spec.specs.Room.{chart_in, Table, Rooted}
use Rattle.room_spec.specs.Building.{Follows}
use Rattle.room_spec.proofs.Standing.{kept_chart, kept_table}
use Rattle.room_spec.proofs.Apart.{table_rooted, kept_rooted}
use Rattle.room_spec.proofs.Answering.{answer_keeps}

module _ (before : List ℕ) (used : ℕ) (xs : List Made) (k : ℕ) (after : List ℕ) where
  module _ (answer : Result Root Missing) (given : Follows before used xs k after answer)
      (table : Table before used) where
    pub still_a_table : Table after used
    still_a_table = kept_table used before after (answer_keeps before used xs k after answer given) table

    module _ (place : ℕ) (root : Rooted before place) (below : place < used) where
      pub still_rooted : Rooted after place
      still_rooted =
          kept_rooted used before after place (answer_keeps before used xs k after answer given) table root below

      pub still_stands : chart_in after place ≡ chart_in before place
      still_stands =
          kept_chart used before after (answer_keeps before used xs k after answer given) place below root.inside

  module _ (x : Root) (given : Follows before used xs k after (Ok x)) where
    abbrev part : Made
    part = get_or xs k new_empty

    pub exceeds_the_room : (length after < x.used) ↔ (length before < used + cost_of part)
    exceeds_the_room =
        let cost = given.1.cost in
        let long = given.1.kept.long in
        (λ h. omega arith, λ h. omega arith)

    module _ (fits : x.used ≤ length after) where
      pub follow_up_is_rooted : Rooted after x.place
      follow_up_is_rooted =
          let held = given.1.held in
          table_rooted after x.used x.place held.table (held.below fits) (omega (arith, held.below fits))

      pub follow_up_is_below : x.place < x.used
      follow_up_is_below = given.1.held.below fits

      pub follow_up_costs : x.used ≡ used + cost_of part
      follow_up_costs = omega (arith, given.1.cost, given.1.kept.long)

      pub follow_up_stands : chart_in after x.place ≡ chart_of part
      follow_up_stands = given.1.stands fits
