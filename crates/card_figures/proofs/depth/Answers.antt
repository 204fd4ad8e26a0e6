-- `depth` meets its contract: after i turns the depths of the first i nodes are known. Assumes nothing.
use Prim.Native.Nat.{◌-◌}
use mathlib.Core.Path.{◌≡◌, ◌∙◌}
use native.Mathlib.Omega.{arith}
use Rattle.card_spec.specs.Nodes.{count_of}
use Rattle.card_figures.proofs.Depths.{none_known, one_more_known, root_known}
use Rattle.card_figures.proofs.depth.Goals as goal

pub loop-i-init : goal.loop-i-init
loop-i-init c = none_known c.args.nodes.now

pub loop-i-preserved : goal.loop-i-preserved
loop-i-preserved c =
    let at = c.loop-i in
    let deep = rw c.node_at.ensures at c.depth_over.ensures in
    one_more_known c.args.nodes.now at.i at.depths _ deep (c.requires.lower at.i (omega arith))
    (omega (arith, c.requires.few)) at.invariant

pub returns : goal.returns
returns c =
    let at = c.loop-i in
    let all : at.i ≡ count_of c.args.nodes.now = omega arith in
    c.from.ensures ∙ root_known c.args.nodes.now at.depths (c.count-count.result - 1) c.requires.some (omega arith)
    (rw all at at.invariant)
