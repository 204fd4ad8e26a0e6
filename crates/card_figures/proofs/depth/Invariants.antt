-- After i turns the depths of the first i nodes are known. Assumes nothing.
use Rattle.card_figures.proofs.Depths.{Known}
use Rattle.card_figures.proofs.depth.Given as goal

abbrev pub invariant-loop-i : goal.invariant-loop-i
invariant-loop-i l = Known l.nodes l.i l.depths
