-- Working definitions, which nobody has to believe: a question that is answered by descending a chart.
-- Assumes nothing.
use Rattle.std.specs.Prelude.{Bool, true, ◌&&◌, ◌||◌, ◌≡◌}
use Rattle.chart_spec.specs.Chart.{Order, Loop, Chart, empty, alt, pair, loop}

-- Empty and loops say yes, an alt if either side does, any other pair if both do; what an action says is left open
-- (01, How a log is executed).
pub record Descends (f : Chart → Bool) : Type 0 where
  pub at_empty : f empty ≡ true
  pub at_alt : (l r : Chart) → f (alt l r) ≡ (f l || f r)
  pub at_pair : (o : Order) (l r : Chart) → f (pair o l r) ≡ (f l && f r)
  pub at_loop : (k : Loop) (b : Chart) → f (loop k b) ≡ true
