-- Document 000's "repetition nesting" is false for head loops by its own Definitions 2, 3 and 5, so no proof here uses
-- it. Figure 4 and Definition 6 state that (x^◇₁*)^◇₂* is x^min(◇₁,◇₂)*; for the head loop of a strict loop and of a
-- head loop that would be the head loop alone. With x = alt(seq(0?1, 1!1), 1?0) the log 1?0 0?1 1?0 1!1 belongs to both
-- nestings and not to the head loop of x.
--
-- The search decides each published set, and antt computes the search. The rules by which a log is executed do not
-- depend on the false equation.
-- Assumes nothing.
use mathlib.Core.List.{[], ◌∷◌}
use mathlib.Core.Logic.{◌↔◌}
use Rattle.chart_spec.specs.Action.{Log}
use Rattle.chart_spec.specs.Chart.{strict, seq, each, head, Chart, act, alt, pair, loop}
use Rattle.chart_spec.specs.Published.{Published}
use Rattle.chart_spec.specs.Executing.{prune, follows}
use Rattle.chart_spec.specs.Searching.{tries, explore}
use Rattle.chart_spec.specs.ByHand.{emits, receives}
use Rattle.chart_spec.proofs.Judging.{search_decides_the_published_set}

-- alt(seq(0?1, 1!1), 1?0)
abbrev pub body : Chart
body = alt (pair seq (act (receives 0 1)) (act (emits 1 1))) (act (receives 1 0))

-- 1?0 0?1 1?0 1!1
abbrev pub telling : Log
telling = receives 1 0 ∷ receives 0 1 ∷ receives 1 0 ∷ emits 1 1 ∷ []

pub in_the_head_loop_of_the_strict_loop : Published (loop head (loop (each strict) body)) telling
unfolding explore tries follows prune
in_the_head_loop_of_the_strict_loop =
    (search_decides_the_published_set (loop head (loop (each strict) body)) telling).accepts.0 tt

pub in_the_head_loop_of_the_head_loop : Published (loop head (loop head body)) telling
unfolding explore tries follows prune
in_the_head_loop_of_the_head_loop = (search_decides_the_published_set (loop head (loop head body)) telling).accepts.0 tt

pub not_in_the_head_loop : ¬ Published (loop head body) telling
unfolding explore tries follows prune
not_in_the_head_loop m = (search_decides_the_published_set (loop head body) telling).accepts.1 m

-- So neither equation holds.
pub head_loop_of_strict_loop_is_another : ¬
    ((t : Log) → Published (loop head (loop (each strict) body)) t ↔ Published (loop head body) t)
head_loop_of_strict_loop_is_another equal = not_in_the_head_loop ((equal telling).0 in_the_head_loop_of_the_strict_loop)

pub head_loop_of_head_loop_is_another : ¬
    ((t : Log) → Published (loop head (loop head body)) t ↔ Published (loop head body) t)
head_loop_of_head_loop_is_another equal = not_in_the_head_loop ((equal telling).0 in_the_head_loop_of_the_head_loop)
