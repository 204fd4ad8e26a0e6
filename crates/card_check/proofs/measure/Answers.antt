-- `measure` meets its contract: what the passes over the nodes require follows from the rules that hold.
-- Assumes nothing.
use mathlib.Core.Path.{sym, ◌∙◌}
use Rattle.number_spec.specs.declared.Refusal.TheVariants.{BackDistance, Counts}
use Rattle.card_spec.specs.Findings.{back_in_rule, counts_in_range}
use Rattle.card_spec.specs.Faultless.{Faultless}
use Rattle.card_spec.proofs.Lowest.{holds→}
use Rattle.card_spec.proofs.Relied.{has_few_lifelines, back→, faultless}
use Rattle.card_check.proofs.measure.Goals as goal
use Rattle.card_check.proofs.measure.Goals.{In_ok-lowest_faulty}

-- What the passes over the nodes require.
nodes_faultless : (c : In_ok-lowest_faulty) → Faultless c.nodes-nodes.result.now
nodes_faultless c =
    let card = c.args.card.now in
    let back = holds→ BackDistance (back_in_rule card) (sym c.back_distance.ensures ∙ c.in_ok-back_distance.was) in
    let counts = holds→ Counts (counts_in_range card) (sym c.counts.ensures ∙ c.in_ok-counts.was) in
    let found = sym c.lowest_faulty.ensures ∙ c.in_ok-lowest_faulty.was in
    let read = c.counts-2.ensures in
    rw c.nodes-nodes.ensures
    (faultless card (back→ card back) (has_few_lifelines card counts)
    (rw (read.lifelines, read.messages, c.nodes-nodes.ensures) at found))

pub lowest_misused-requires : goal.lowest_misused-requires
lowest_misused-requires c = nodes_faultless c

pub depth-depth-requires : goal.depth-depth-requires
depth-depth-requires c = nodes_faultless (goal.at.depth-depth-requires c).In_ok-lowest_faulty
