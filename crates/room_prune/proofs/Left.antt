-- What is left of a pair and of a loop is what pruning leaves, by cases on what is left of their parts: the chart, and
-- what it costs. A side that was pruned but is not needed leaves only numbers above the places in use.
-- Assumes nothing.
use Prim.Native.Nat.{ℕ, ◌<◌, ◌≤◌}
use mathlib.Core.Bool.{true, false, not}
use mathlib.Core.Logic.{◌≢◌}
use mathlib.Core.List.{List}
use mathlib.Core.Path.{◌≡◌, refl, ap, sym, ◌∙◌}
use native.Mathlib.Decide.{ℕ_discrete}
use native.Mathlib.Omega.{arith}
use lib.Dec.{eqb}
use borrow.Author.Tests.{eq-eqb, ne_eqb}
use lib.ListN.{length}
use Rattle.chart_spec.specs.Chart.{Chart, Order, Loop}
use Rattle.chart_spec.specs.Chart.Chart.{empty, alt, pair, loop}
use Rattle.chart_spec.specs.Executing.{evades, prune}
use Rattle.chart_spec.specs.Executing.Made.{kept}
use Rattle.node.specs.declared.Node.{Node}
use Rattle.node_spec.specs.Kind.{kind_of}
use Rattle.node_spec.specs.Kind.Pair.{composed, choice}
use Rattle.node_spec.specs.Kind.Kind.{pairs, loops}
use Rattle.node_spec.proofs.Ranges.{six_is_the_choice}
use Rattle.std.specs.Prelude.{Option, Some, None}
use Rattle.room_spec.specs.declared.Root.{Root}
use Rattle.room_spec.specs.Room.{chart_in, Table, Rooted, Stands}
use Rattle.room_spec.specs.Building.{Builds, Prunes}
use Rattle.room_spec.proofs.Standing.{kept_self, kept_chart, kept_then, kept_table, table_less}
use Rattle.room_spec.proofs.Apart.{
  Reading,
  Working,
  table_rooted,
  kept_rooted,
  empty_here,
  action_here,
  order_here,
  alt_here,
  loop_here,
  unknown_here,
  left_lower,
  right_lower,
  body_lower,
}
use Rattle.room_spec.proofs.Adding.{
  builds_more,
  pair_builds,
  loop_builds,
  empty_builds,
  kept_builds,
  builds_kept,
  kept_then_builds,
}
use Rattle.room_prune.specs.Sides.{above, pair_of, pair_in, loop_of, loop_in}

module _ (before : List ℕ) (used : ℕ) (c : Chart) (d : ℕ) (after : List ℕ) where
  -- The places in use after pruning are a table, also where no more of them count than these if nothing is left.
  pub prunes_table :
      (p : Option Root) (least : ℕ) → least ≤ used → Table before used → Prunes before used c d after p
      → Table after (above p least)
  prunes_table (Some root) least h table (e, b) = b.held.table
  prunes_table None least h table (e, keeps) =
      table_less after used least h (kept_table used before after keeps table)

-- What is kept as it stands: an empty and an action.
pub leaf_pruned :
    (room : List ℕ) (used place d : ℕ) → Table room used → place < used → evades (chart_in room place) d ≡ true
    → prune (chart_in room place) d ≡ kept (chart_in room place)
    → Prunes room used (chart_in room place) d room (Some (record { place = place; used = used }))
leaf_pruned room used place d table below evading as_it_stands =
    (evading, rw as_it_stands (kept_builds room used place table (λ h. below)))

pub empty_pruned :
    (room : List ℕ) (used place d : ℕ) → Table room used → place < used → chart_in room place ≡ empty
    → Prunes room used (chart_in room place) d room (Some (record { place = place; used = used }))
unfolding prune
empty_pruned room used place d table below e =
    leaf_pruned room used place d table below (ap (λ c. evades c d) e)
    (ap (λ c. prune c d) e ∙ ap kept (sym e))

-- Sides of which something is left, and sides of which nothing is. If nothing is left of the left side, the right side
-- is pruned above the same places in use.
module _ (before middle : List ℕ) (used d : ℕ) (l r : Chart) (table : Table before used) where
  pub order_lost : (o : Order) → Prunes before used l d middle None
      → Prunes before used (pair o l r) d middle None
  order_lost o (le, keeps) = (rw le, keeps)

  pub alt_by_its_right :
      (room : List ℕ) (right : Option Root) → Prunes before used l d middle None → Prunes middle used r d room right
      → Prunes before used (alt l r) d room right
  unfolding prune
  alt_by_its_right room (Some part) (le, keeps) (re, rb) =
      (rw (le, re), rw le (kept_then_builds table.counted keeps rb))
  alt_by_its_right room None (le, keeps) (re, still) =
      (rw (le, re), kept_then used used before middle room (omega arith) keeps still)

  module _ (room : List ℕ) (left : Root) (kind : ℕ) where
    pub order_pruned :
        (o : Order) → kind_of kind ≡ pairs (composed o) → eqb kind 6 ≡ false → (right : Option Root)
        → Prunes before used l d middle (Some left) → Prunes middle left.used r d room right
        → Prunes before used (pair o l r) d (pair_in room kind left right) (pair_of room kind left right)
    unfolding prune
    order_pruned o e six (Some part) (le, lb) (re, rb) =
        (rw (le, re), pair_builds lb (composed o) kind table.counted e rb)
    order_pruned o e six None (le, lb) (re, keeps) =
        rw six (
          rw (le, re),
          kept_then used left.used before middle room (builds_more lb table.counted) lb.kept
              keeps,
        )

    pub alt_pruned :
        kind ≡ 6 → (right : Option Root) → Prunes before used l d middle (Some left)
        → Prunes middle left.used r d room right
        → Prunes before used (alt l r) d (pair_in room kind left right) (pair_of room kind left right)
    unfolding prune
    alt_pruned six (Some part) (le, lb) (re, rb) =
        (rw le, rw (le, re) (pair_builds lb choice kind table.counted (six_is_the_choice kind six) rb))
    alt_pruned six None (le, lb) (re, keeps) =
        rw (eq-eqb kind 6 six)
        (rw le, rw (le, re) (builds_kept lb (builds_more lb table.counted) keeps))

-- A loop always evades, and becomes the loop of what is left of its body, or empty.
pub loop_pruned :
    (before room : List ℕ) (used d : ℕ) (b : Chart) (k : Loop) (kind : ℕ) → Table before used → kind_of kind ≡ loops k
    → (body : Option Root) → Prunes before used b d room body
    → Builds before used (prune (loop k b) d) (loop_in room kind body used) (loop_of room body used)
unfolding prune
loop_pruned before room used d b k kind table e (Some root) (be, bb) =
    rw be (loop_builds bb k kind table.counted e)
loop_pruned before room used d b k kind table e None (be, keeps) =
    rw be
    (kept_then_builds table.counted keeps (empty_builds room used (kept_table used before room keeps table)))

-- At a place, by the ranges of kinds that the code tests.
module _ (work : Working) (d : ℕ) where
  abbrev r : Reading
  r = work.reading

  abbrev before : List ℕ
  before = r.room

  abbrev used : ℕ
  used = work.used

  abbrev place : ℕ
  place = r.place

  abbrev n : Node
  n = r.node

  table : Table before used
  table = work.table

  below : place < used
  below = work.below

  abbrev itself : Option Root
  itself = Some (record { place = place; used = used })

  pub at_an_empty : n.kind ≡ 0 → Prunes before used (chart_in before place) d before itself
  at_an_empty k = empty_pruned before used place d table below (empty_here r k)

  pub at_the_unknown : 11 ≤ n.kind → Prunes before used (chart_in before place) d before itself
  at_the_unknown k = empty_pruned before used place d table below (unknown_here r k)

  evades_here : 1 ≤ n.kind → n.kind ≤ 2 → evades (chart_in before place) d ≡ not (eqb n.a d)
  evades_here low high =
      let (receives, e, acts) = action_here r low high in
      ap (λ c. evades c d) acts

  pub at_another_action :
      1 ≤ n.kind → n.kind ≤ 2 → n.a ≢ d → Prunes before used (chart_in before place) d before itself
  unfolding prune
  at_another_action low high other =
      let (receives, e, acts) = action_here r low high in
      leaf_pruned before used place d table below (evades_here low high ∙ ap not (ne_eqb n.a d other))
      (ap (λ c. prune c d) acts ∙ ap kept (sym acts))

  pub at_an_action_on_it :
      1 ≤ n.kind → n.kind ≤ 2 → n.a ≡ d → Prunes before used (chart_in before place) d before None
  at_an_action_on_it low high same =
      (evades_here low high ∙ ap not (eq-eqb n.a d same), kept_self used before)

  module _ (low : 3 ≤ n.kind) (high : n.kind ≤ 6) where
    pub asks_left : (n.a < place) × Stands before (record { place = n.a; used = used })
    asks_left = let (a, there) = left_lower r low high in (a, (table, there, omega arith))

    right_there : (n.b < place) × Rooted before n.b
    right_there = right_lower r low high

    -- None is left of the left side.
    module _ (middle : List ℕ) (on_left : Prunes before used (chart_in before n.a) d middle None) where
      pub at_a_lost_order : n.kind ≢ 6 → Prunes before used (chart_in before place) d middle None
      at_a_lost_order other =
          let (o, e, whole) = order_here r low (omega arith) in
          rw whole (order_lost before middle used d (chart_in before n.a) (chart_in before n.b) table o on_left)

      pub asks_right_alone : (n.b < place) × Stands middle (record { place = n.b; used = used })
      asks_right_alone =
          let (b, there) = right_there in (
            b,
            (
              kept_table used before middle on_left.1 table,
              kept_rooted used before middle n.b on_left.1 table there (omega arith),
              omega arith,
            ),
          )

      pub at_an_alt_by_its_right :
          (room : List ℕ) (right : Option Root) → n.kind ≡ 6 → Prunes middle used (chart_in middle n.b) d room right
          → Prunes before used (chart_in before place) d room right
      at_an_alt_by_its_right room right six at_right =
          let (b, there) = right_there in
          let same : chart_in middle n.b ≡ chart_in before n.b
          = kept_chart used before middle on_left.1 n.b (omega arith) there.inside in
          rw (alt_here r six)
          (alt_by_its_right before middle used d (chart_in before n.a) (chart_in before n.b) table room right
          on_left
          (rw same at at_right))

    -- Something is left of the left side, and the right side is pruned above it.
    module _ (middle : List ℕ) (left : Root)
        (on_left : Prunes before used (chart_in before n.a) d middle (Some left)) where
      above_left : used ≤ left.used
      above_left = builds_more on_left.1 table.counted

      pub asks_right : (n.b < place) × Stands middle (record { place = n.b; used = left.used })
      asks_right =
          let (b, there) = right_there in
          let built = on_left.1 in
          let inside : n.b < length middle = omega (arith, there.inside, built.kept.long) in (
            b,
            (
              built.held.table,
              table_rooted middle left.used n.b built.held.table (omega (arith, above_left)) inside,
              omega (arith, above_left),
            ),
          )

      module _ (room : List ℕ) (right : Option Root)
          (at_right : Prunes middle left.used (chart_in middle n.b) d room right) where
        pub at_a_pair :
            Prunes before used (chart_in before place) d (pair_in room n.kind left right)
            (pair_of room n.kind left right)
        at_a_pair = by (ℕ_discrete n.kind 6)
          where
            same : chart_in middle n.b ≡ chart_in before n.b
            same =
                let (b, there) = right_there in
                kept_chart used before middle on_left.1.kept n.b (omega arith) there.inside

            by : Dec (n.kind ≡ 6)
                → Prunes before used (chart_in before place) d (pair_in room n.kind left right)
                (pair_of room n.kind left right)
            by (yes six) =
                rw (alt_here r six)
                (alt_pruned before middle used d (chart_in before n.a) (chart_in before n.b) table room left
                n.kind
                six right on_left (rw same at at_right))
            by (no other) =
                let (o, e, whole) = order_here r low (omega arith) in
                rw whole
                (order_pruned before middle used d (chart_in before n.a) (chart_in before n.b) table room left
                n.kind o e (ne_eqb n.kind 6 other) right on_left (rw same at at_right))

  pub asks_body : 7 ≤ n.kind → n.kind ≤ 10
      → (n.a < place) × Stands before (record { place = n.a; used = used })
  asks_body low high = let (a, there) = body_lower r low high in (a, (table, there, omega arith))

  pub above_body :
      (room : List ℕ) (body : Option Root) → Prunes before used (chart_in before n.a) d room body
      → Table room (above body used)
  above_body room body on_body =
      prunes_table before used (chart_in before n.a) d room body used (omega arith) table on_body

  pub at_a_loop :
      (room : List ℕ) (body : Option Root) → 7 ≤ n.kind → n.kind ≤ 10
      → Prunes before used (chart_in before n.a) d room body
      → Prunes before used (chart_in before place) d (loop_in room n.kind body used) (Some (loop_of room body used))
  at_a_loop room body low high on_body =
      let (k, e, whole) = loop_here r low high in
      rw whole (refl, loop_pruned before room used d (chart_in before n.a) k n.kind table e body on_body)
