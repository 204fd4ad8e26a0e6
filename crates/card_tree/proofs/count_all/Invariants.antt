-- After i turns the children of the first i nodes are counted. Assumes nothing.
use Rattle.card_tree.proofs.Counts.{Counted}
use Rattle.card_tree.proofs.count_all.Given as goal

abbrev pub invariant-loop-i : goal.invariant-loop-i
invariant-loop-i l = Counted l.nodes l.i l.counts
