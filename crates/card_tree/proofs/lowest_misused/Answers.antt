-- `lowest_misused` meets its contract: the counts below the root are all 1, or the lowest that is not refuses its node.
-- Assumes nothing.
use Prim.Native.Nat.{◌-◌}
use mathlib.Core.Path.{sym}
use native.Mathlib.Omega.{arith}
use Rattle.card_spec.specs.Nodes.{row_of}
use Rattle.card_tree.proofs.Counts.{some_misused, none_misused}
use Rattle.card_tree.proofs.lowest_misused.Goals as goal

pub returns-in-Some : goal.returns-in-Some
returns-in-Some c =
    let (inside, other, ones) = c.in-Some.ensures in
    rw c.count-root.ensures at
    (sym
    (some_misused (row_of c.args.nodes.now) c.count_all.new.counts (c.count-root.result - 1)
    (omega (arith, c.requires.few)) (λ j h. c.count_all.ensures j (omega (arith, c.requires.few))) c.in-Some.j inside
    other ones))

pub returns-in-None : goal.returns-in-None
returns-in-None c =
    rw c.count-root.ensures at
    (sym
    (none_misused (row_of c.args.nodes.now) c.count_all.new.counts (c.count-root.result - 1)
    (omega (arith, c.requires.few)) (λ j h. c.count_all.ensures j (omega (arith, c.requires.few))) c.in-None.ensures))
