-- Pruning makes no chart larger, by any count that grows with the parts of a chart, as the number of nodes and the
-- depth do. By induction on the chart: an alt becomes one of its sides pruned or an alt of both pruned, a loop becomes
-- the loop of its pruned body or empty. So pruning takes no more new places than the chart has nodes.
-- Assumes nothing.
use Prim.Native.Nat.{ℕ, ◌≤◌}
use native.Mathlib.Omega.{arith}
use mathlib.Core.Bool.{Bool, true, false}
use Rattle.chart_spec.specs.Chart.{Order, Loop, Chart, empty, act, alt, pair, loop, size, depth}
use Rattle.chart_spec.specs.Executing.{Made, kept, new_empty, new_alt, new_pair, new_loop, chart_of, cost_of}
use Rattle.chart_spec.specs.Executing.{evades, pruned_alt, pruned_loop, prune}

-- A count that grows with the parts of a chart.
pub record Grows (count : Chart → ℕ) : Type 0 where
  pub left : (l r : Chart) → count l ≤ count (alt l r)
  pub right : (l r : Chart) → count r ≤ count (alt l r)
  pub none : (k : Loop) (b : Chart) → count empty ≤ count (loop k b)
  pub alts : (l r m n : Chart) → count m ≤ count l → count n ≤ count r → count (alt m n) ≤ count (alt l r)
  pub pairs : (o : Order) (l r m n : Chart) → count m ≤ count l → count n ≤ count r
      → count (pair o m n) ≤ count (pair o l r)
  pub loops : (k : Loop) (b m : Chart) → count m ≤ count b → count (loop k m) ≤ count (loop k b)

module _ (count : Chart → ℕ) (grows : Grows count) where
  alt_no_greater : (p q : Bool) (l r : Chart) (m n : Made) → count (chart_of m) ≤ count l → count (chart_of n) ≤ count r
      → count (chart_of (pruned_alt p q m n)) ≤ count (alt l r)
  alt_no_greater true true l r m n hl hr = grows.alts l r (chart_of m) (chart_of n) hl hr
  alt_no_greater true false l r m n hl hr = omega (arith, grows.left l r)
  alt_no_greater false q l r m n hl hr = omega (arith, grows.right l r)

  loop_no_greater : (p : Bool) (k : Loop) (b : Chart) (m : Made) → count (chart_of m) ≤ count b
      → count (chart_of (pruned_loop p k m)) ≤ count (loop k b)
  loop_no_greater true k b m h = grows.loops k b (chart_of m) h
  loop_no_greater false k b m h = grows.none k b

  pub pruned_no_greater : (c : Chart) (d : ℕ) → count (chart_of (prune c d)) ≤ count c
  unfolding prune
  pruned_no_greater empty d = omega arith
  pruned_no_greater (act a) d = omega arith
  pruned_no_greater (alt l r) d =
      alt_no_greater (evades l d) (evades r d) l r (prune l d) (prune r d) (pruned_no_greater l d)
      (pruned_no_greater r d)
  pruned_no_greater (pair o l r) d =
      grows.pairs o l r (chart_of (prune l d)) (chart_of (prune r d)) (pruned_no_greater l d) (pruned_no_greater r d)
  pruned_no_greater (loop k b) d = loop_no_greater (evades b d) k b (prune b d) (pruned_no_greater b d)

size_grows : Grows size
size_grows =
    record {
      left = λ l r. omega arith;
      right = λ l r. omega arith;
      none = λ k b. omega arith;
      alts = λ l r m n hl hr. omega arith;
      pairs = λ o l r m n hl hr. omega arith;
      loops = λ k b m h. omega arith;
    }

depth_grows : Grows depth
depth_grows =
    record {
      left = λ l r. omega arith;
      right = λ l r. omega arith;
      none = λ k b. omega arith;
      alts = λ l r m n hl hr. omega arith;
      pairs = λ o l r m n hl hr. omega arith;
      loops = λ k b m h. omega arith;
    }

pub pruned_no_larger : (c : Chart) (d : ℕ) → size (chart_of (prune c d)) ≤ size c
pruned_no_larger = pruned_no_greater size size_grows

pub pruned_no_deeper : (c : Chart) (d : ℕ) → depth (chart_of (prune c d)) ≤ depth c
pruned_no_deeper = pruned_no_greater depth depth_grows

-- What was made takes no more places than it has nodes.
cost_at_most_its_nodes : (m : Made) → cost_of m ≤ size (chart_of m)
cost_at_most_its_nodes (kept c) = omega arith
cost_at_most_its_nodes new_empty = omega arith
cost_at_most_its_nodes (new_alt m n) = omega (arith, cost_at_most_its_nodes m, cost_at_most_its_nodes n)
cost_at_most_its_nodes (new_pair o m n) = omega (arith, cost_at_most_its_nodes m, cost_at_most_its_nodes n)
cost_at_most_its_nodes (new_loop k m) = omega (arith, cost_at_most_its_nodes m)

pub pruned_costs_at_most_the_chart : (c : Chart) (d : ℕ) → cost_of (prune c d) ≤ size c
pruned_costs_at_most_the_chart c d = omega (arith, cost_at_most_its_nodes (prune c d), pruned_no_larger c d)
