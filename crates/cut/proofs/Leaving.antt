-- When a sound card's chart was laid and pruned in a room of 510 places, what is left of it stands at the root that
-- pruning returned: the chart has at most 255 nodes, and pruning takes no more new places than that.
-- Assumes nothing.
use Prim.Native.Nat.{ℕ, ◌≤◌}
use mathlib.Core.Bool.{true}
use mathlib.Core.List.{List}
use mathlib.Core.Path.{◌≡◌, ap, sym, ◌∙◌}
use native.Mathlib.Omega.{arith}
use lib.ListN.{length}
use Rattle.std.specs.Prelude.{Option, Some, None}
use Rattle.chart_spec.specs.Chart.{size}
use Rattle.chart_spec.specs.Executing.{evades, prune, chart_of}
use Rattle.chart_spec.proofs.Shrinking.{pruned_costs_at_most_the_chart}
use Rattle.card_spec.specs.Parts.{lifelines_of, messages_of}
use Rattle.card_spec.specs.Nodes.{card_chart}
use Rattle.number_spec.specs.declared.Refusal.TheVariants.{NoLogLeft}
use Rattle.number_spec.specs.Refusals.{rule}
use Rattle.card_spec.specs.Table.{Sound}
use Rattle.card_spec.proofs.Telling.{sound→faultless}
use Rattle.room_spec.specs.declared.Root.{Root}
use Rattle.room_spec.specs.Room.{chart_in, Rooted, Stands}
use Rattle.room_spec.specs.Building.{Prunes}
use Rattle.room_spec.proofs.Apart.{table_rooted}
use Rattle.room_lay.specs.Rooms.{taken, laying, laid_in}
use Rattle.room_lay.proofs.Onward.{
  whole_keeps_the_length,
  whole_counts_the_chart,
  whole_is_a_table,
  whole_is_below,
  whole_is_rooted,
  whole_stands,
}
use Rattle.write_spec.specs.Cards.{card_bytes, Holds}
use Rattle.cut_spec.specs.Cutting.{left_over}
use Rattle.cut.specs.Found.{finding_of}
use Rattle.cut_spec.proofs.Holding.{has_few_nodes, left_over_held}

-- What is left of a card's chart stands at a place.
pub record Left (card : List ℕ) (lifeline : ℕ) (room : List ℕ) (place : ℕ) : Type 0 where
  pub evading : evades (card_chart card) lifeline ≡ true
  pub stands : chart_in room place ≡ left_over card lifeline
  pub rooted : Rooted room place

module _ (card : List ℕ) (sound : Sound card) where
  pub few_places : taken card ≤ 255
  few_places = (sound→faultless card sound).few

  module _ (lifeline : ℕ) where
    -- When the chart was laid into a room of 510 places,
    module _ (room : List ℕ) (long : length room ≡ 510) (root : Root) (laid : Some root ≡ laying card room)
        (full : List ℕ) (there : full ≡ laid_in card room) where
      usable : length room ≤ 16384
      usable = omega arith

      pub asks_pruning : Stands full root
      asks_pruning =
          rw there (
            whole_is_a_table card room sound usable root laid,
            whole_is_rooted card room sound usable root laid,
            whole_is_below card room sound usable root laid,
          )

      whole_chart : chart_in full root.place ≡ card_chart card
      whole_chart = ap (λ room. chart_in room root.place) there ∙ whole_stands card room sound usable root laid

      full_length : length full ≡ 510
      full_length = ap length there ∙ whole_keeps_the_length card room sound usable root laid ∙ long

      -- the result of pruning decides the cut's second test, 12,
      pub found_by_pruning :
          (after : List ℕ) (pruned : Option Root)
          → Prunes full root.used (chart_in full root.place) lifeline after pruned
          → rule NoLogLeft (evades (card_chart card) lifeline) ≡ finding_of pruned
      found_by_pruning after (Some part) (evading, built) =
          ap (rule NoLogLeft) (sym (ap (λ c. evades c lifeline) whole_chart) ∙ evading)
      found_by_pruning after None (lost, keeps) =
          ap (rule NoLogLeft) (sym (ap (λ c. evades c lifeline) whole_chart) ∙ lost)

      -- and what is left of the chart stands at the root that pruning returned.
      module _ (after : List ℕ) (part : Root)
          (pruned : Prunes full root.used (chart_in full root.place) lifeline after (Some part)) where
        inside : part.used ≤ length after
        inside =
            let few = has_few_nodes card sound in
            omega (
              arith,
              pruned.1.cost,
              pruned.1.kept.long,
              full_length,
              whole_counts_the_chart card room sound usable root laid,
              pruned_costs_at_most_the_chart (chart_in full root.place) lifeline,
              ap size whole_chart,
            )

        pub part_left : Left card lifeline after part.place
        part_left =
            let below = pruned.1.held.below inside in
            record {
              evading = sym (ap (λ c. evades c lifeline) whole_chart) ∙ pruned.0;
              stands = pruned.1.stands inside ∙ ap (λ c. chart_of (prune c lifeline)) whole_chart;
              rooted = table_rooted after part.used part.place pruned.1.held.table below
                  (omega (arith, inside));
            }

-- What is left can be counted, and written into an output that is long enough for its card.
module _ {card : List ℕ} {lifeline : ℕ} {room : List ℕ} {place : ℕ} (sound : Sound card)
    (left : Left card lifeline room place) where
  pub asks_counting : Rooted room place × size (chart_in room place) ≤ 255
  asks_counting = (left.rooted, rw left.stands (left_over_held card sound lifeline).few_nodes)

  pub asks_writing :
      (lifelines messages : ℕ) (out : List ℕ) → lifelines ≡ lifelines_of card → messages ≡ messages_of card
      → card_bytes (chart_in room place) ≤ length out
      → Rooted room place × Holds lifelines messages (chart_in room place)
      × card_bytes (chart_in room place) ≤ length out
  asks_writing lifelines messages out el em enough =
      (left.rooted, rw (el, em, left.stands) (left_over_held card sound lifeline), enough)
