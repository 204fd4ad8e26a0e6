-- Pruning names no lifeline and no message that the chart did not name: what was declared stays declared. By induction
-- on the chart; for an alt and a loop, by which parts evade.
-- Assumes nothing.
use Prim.Native.Nat.{ℕ}
use mathlib.Core.Bool.{Bool, true, false}
use Rattle.chart_spec.specs.Chart.{Chart, Loop}
use Rattle.chart_spec.specs.Chart.Chart.{empty, act, alt, pair, loop}
use Rattle.chart_spec.specs.Executing.{Made, chart_of, evades, prune, pruned_alt, pruned_loop}
use Rattle.card_spec.specs.Meaning.{Declared}

module _ (lifelines messages : ℕ) where
  alt_declared :
      (p q : Bool) (m n : Made) → Declared lifelines messages (chart_of m) → Declared lifelines messages (chart_of n)
      → Declared lifelines messages (chart_of (pruned_alt p q m n))
  alt_declared true true m n dm dn = (dm, dn)
  alt_declared true false m n dm dn = dm
  alt_declared false q m n dm dn = dn

  loop_declared :
      (p : Bool) (k : Loop) (m : Made) → Declared lifelines messages (chart_of m)
      → Declared lifelines messages (chart_of (pruned_loop p k m))
  loop_declared true k m d = d
  loop_declared false k m d = tt

  pub pruned_declared :
      (c : Chart) (d : ℕ) → Declared lifelines messages c → Declared lifelines messages (chart_of (prune c d))
  unfolding prune
  pruned_declared empty d all = tt
  pruned_declared (act a) d all = all
  pruned_declared (alt l r) d (dl, dr) =
      alt_declared (evades l d) (evades r d) (prune l d) (prune r d) (pruned_declared l d dl) (pruned_declared r d dr)
  pruned_declared (pair o l r) d (dl, dr) = (pruned_declared l d dl, pruned_declared r d dr)
  pruned_declared (loop k b) d all = loop_declared (evades b d) k (prune b d) (pruned_declared b d all)
