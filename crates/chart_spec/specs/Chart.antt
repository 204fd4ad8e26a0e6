-- Charts, with all kinds of 01.
-- Assumes nothing.
use Rattle.std.specs.Prelude.{ℕ, ◌+◌, max}
use Rattle.chart_spec.specs.Action.{Action}

-- The three ways in which two parts follow each other: strict, weak sequence, parallel
-- (01, The chart card, kinds 3, 4, 5).
pub data Order : Type 0 where
  strict seq par : Order

-- The four loops: each round follows the round before it in one of the three orders; or the head loop
-- (01, The chart card, kinds 7 to 10).
pub data Loop : Type 0 where
  each : Order → Loop
  head : Loop

-- A chart: empty, an action, a choice, a pair in some order, or a loop (01, The chart card; 000, Definition 4).
pub data Chart : Type 0 where
  empty : Chart
  act : Action → Chart
  alt : Chart → Chart → Chart
  pair : Order → Chart → Chart → Chart
  loop : Loop → Chart → Chart

-- The number of nodes, each of which takes one place (01, How a log is executed, Places).
abbrev pub size : Chart → ℕ
size empty = 1
size (act a) = 1
size (alt l r) = 1 + (size l + size r)
size (pair o l r) = 1 + (size l + size r)
size (loop k b) = 1 + size b

-- The depth, counting the root as 1 (01, The chart card).
abbrev pub depth : Chart → ℕ
depth empty = 1
depth (act a) = 1
depth (alt l r) = 1 + max (depth l) (depth r)
depth (pair o l r) = 1 + max (depth l) (depth r)
depth (loop k b) = 1 + depth b
