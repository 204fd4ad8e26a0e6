-- The set holds the lifelines that act in the first i nodes. Assumes nothing.
use mathlib.Core.Path.{◌≡◌}
use Rattle.card_spec.specs.Nodes.{row_to}
use Rattle.card_spec.specs.Figures.{acts}
use Rattle.card_figures.specs.Bits.{bits_of}
use Rattle.card_figures.proofs.acting.Given as goal

abbrev pub invariant-loop-i : goal.invariant-loop-i
invariant-loop-i l = l.set ≡ bits_of (acts (row_to l.nodes l.i)) 16
