-- A card with the same counts can hold what is left of a sound card's chart: it is no larger and no deeper, and names
-- nothing that was not declared.
-- Assumes nothing.
use Prim.Native.Nat.{ℕ, ◌≤◌}
use mathlib.Core.List.{List}
use native.Mathlib.Omega.{arith}
use Rattle.chart_spec.specs.Chart.{size}
use Rattle.chart_spec.proofs.Tests.{both_true}
use Rattle.chart_spec.proofs.Shrinking.{pruned_no_larger, pruned_no_deeper}
use Rattle.card_spec.specs.Parts.{lifelines_of, messages_of, nodes_of}
use Rattle.card_spec.specs.Nodes.{card_chart}
use Rattle.card_spec.specs.Findings.{within}
use Rattle.card_spec.specs.Table.{Sound}
use Rattle.card_spec.proofs.Charted.{as_many_nodes, chart_declared}
use Rattle.card_spec.proofs.Relied.{within→}
use Rattle.card_spec.proofs.Telling.{is_counted, sound→faultless, sound→orderly, sound→once}
use Rattle.card_spec.proofs.Promises.{sound_is_at_most_sixteen_deep}
use Rattle.write_spec.specs.Cards.{Holds}
use Rattle.cut_spec.specs.Cutting.{left_over}
use Rattle.cut_spec.proofs.Declaring.{pruned_declared}

-- A sound card's chart has at most 255 nodes.
pub has_few_nodes : (card : List ℕ) → Sound card → size (card_chart card) ≤ 255
has_few_nodes card sound =
    let faultless = sound→faultless card sound in
    omega (arith, as_many_nodes (nodes_of card) faultless (sound→once card sound), faultless.few)

module _ (card : List ℕ) (sound : Sound card) (lifeline : ℕ) where
  -- A card can hold what is left.
  pub left_over_held : Holds (lifelines_of card) (messages_of card) (left_over card lifeline)
  left_over_held =
      let (l, m) = both_true (within 1 (lifelines_of card) 16) (within 1 (messages_of card) 64)
      (is_counted card sound.tree.ordered.trailed) in
      let lines = within→ 1 (lifelines_of card) 16 l in
      let messages = within→ 1 (messages_of card) 64 m in
      record {
        some_lifelines = lines.0;
        few_lifelines = lines.1;
        some_messages = messages.0;
        few_messages = messages.1;
        declared = pruned_declared (lifelines_of card) (messages_of card) (card_chart card) lifeline
            (chart_declared (lifelines_of card) (messages_of card) (nodes_of card) (sound→orderly card sound));
        few_nodes = omega (arith, pruned_no_larger (card_chart card) lifeline, has_few_nodes card sound);
        shallow = omega (arith, pruned_no_deeper (card_chart card) lifeline, sound_is_at_most_sixteen_deep card sound);
      }
