-- `acting` meets its contract: the set holds the lifelines that act in the first i nodes, and has as many ones as there
-- are such lifelines. Assumes nothing.
use mathlib.Core.Path.{◌≡◌, sym, ◌∙◌, ap}
use native.Mathlib.Omega.{arith}
use lib.Count.{ones}
use Rattle.card_spec.specs.Nodes.{count_of, row_to}
use Rattle.card_spec.specs.Figures.{acts}
use Rattle.card_figures.proofs.Sets.{no_actors_yet, one_more_acts, ones_of_bits}
use Rattle.card_figures.proofs.acting.Goals as goal

pub loop-i-init : goal.loop-i-init
loop-i-init c = sym (no_actors_yet c.args.nodes.now)

pub loop-i-preserved : goal.loop-i-preserved
loop-i-preserved c =
    let at = c.loop-i in
    one_more_acts c.args.nodes.now at.i at.set _ _ c.node_at.ensures c.actor-set.ensures at.invariant

pub returns : goal.returns
returns c =
    let nodes = c.args.nodes.now in
    let all : c.loop-i.i ≡ count_of nodes = omega arith in
    ap ones (rw all at c.loop-i.invariant) ∙ ones_of_bits (acts (row_to nodes (count_of nodes))) 16
