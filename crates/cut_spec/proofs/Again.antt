-- A card that was cut stays as it is when it is cut again by the same lifeline: pruning a chart a second time changes
-- nothing, and the counts are the same.
-- Assumes nothing.
use Prim.Native.Nat.{ℕ}
use mathlib.Core.List.{List, ◌++◌}
use mathlib.Core.Path.{◌≡◌, ap, sym, subst, ◌∙◌}
use native.Mathlib.Omega.{arith}
use lib.Dec.{T}
use lib.ListN.{length, drop}
use Rattle.chart_spec.specs.Executing.{evades, prune, chart_of}
use Rattle.chart_spec.proofs.Pruning.{prune_is_idempotent}
use Rattle.chart_spec.proofs.Demands.{cut_keeps_exactly_the_logs_without_the_device}
use Rattle.card_spec.specs.Parts.{lifelines_of, messages_of}
use Rattle.card_spec.specs.Nodes.{card_row, card_chart}
use Rattle.card_spec.specs.Table.{Sound, lifelines}
use Rattle.card_spec.proofs.Deciding.{same_lifelines, at_least_six}
use Rattle.write_spec.specs.Cards.{card_of}
use Rattle.write_spec.specs.Rows.{written}
use Rattle.write_spec.proofs.Read.{
  nodes_as_written,
  declares_lifelines,
  declares_messages,
  has_its_chart,
  written_is_sound,
}
use Rattle.cut_spec.specs.Cutting.{left_over, cut_card, cutting, out_after}
use Rattle.cut_spec.specs.Table.{NotDeclared, Cuttable}
use Rattle.cut_spec.proofs.Holding.{left_over_held}
use Rattle.cut_spec.proofs.Telling.{evading, made_when}

module _ (card : List ℕ) (lifeline long : ℕ) (all : Cuttable card lifeline long) where
  abbrev cut_off : List ℕ
  cut_off = cut_card card lifeline

  pub evades_it : T (evades (card_chart card) lifeline)
  evades_it = subst T (sym (evading card lifeline all.avoided)) tt

  pub cut_is_sound : Sound cut_off
  cut_is_sound =
      written_is_sound (lifelines_of card) (messages_of card) (left_over card lifeline)
      (left_over_held card all.sound lifeline)

  pub cut_has_its_chart : card_chart cut_off ≡ left_over card lifeline
  cut_has_its_chart = has_its_chart (lifelines_of card) (messages_of card) (left_over card lifeline)

  pub cut_in_order : card_row cut_off ≡ written 0 (card_chart cut_off)
  cut_in_order =
      nodes_as_written (lifelines_of card) (messages_of card) (left_over card lifeline)
      ∙ ap (written 0) (sym cut_has_its_chart)

  pub as_many_lifelines : lifelines_of cut_off ≡ lifelines_of card
  as_many_lifelines = declares_lifelines (lifelines_of card) (messages_of card) (left_over card lifeline)

  pub as_many_messages : messages_of cut_off ≡ messages_of card
  as_many_messages = declares_messages (lifelines_of card) (messages_of card) (left_over card lifeline)

  pub same_bytes_again : cut_card cut_off lifeline ≡ cut_off
  same_bytes_again =
      ap (λ l. card_of l (messages_of cut_off) (left_over cut_off lifeline)) as_many_lifelines
      ∙ ap (λ m. card_of (lifelines_of card) m (left_over cut_off lifeline)) as_many_messages
      ∙ ap (λ c. card_of (lifelines_of card) (messages_of card) (chart_of (prune c lifeline))) cut_has_its_chart
      ∙ ap (card_of (lifelines_of card) (messages_of card)) (prune_is_idempotent (card_chart card) lifeline evades_it)

  pub cuttable_again : Cuttable cut_off lifeline long
  cuttable_again =
      let (t, log, avoids) = all.avoided in
      let kept =
      (cut_keeps_exactly_the_logs_without_the_device (card_chart card) lifeline evades_it t).1 (log, avoids) in
      record {
        sound = cut_is_sound;
        declared = λ h. all.declared (same_number h);
        avoided = (t, rw cut_has_its_chart kept, avoids);
        enough = λ short. all.enough (rw same_bytes_again at short);
      }
    where
      lines : (c : List ℕ) → Sound c → lifelines_of c ≡ lifelines c
      lines c sound = same_lifelines c (at_least_six c sound.tree.ordered.trailed.framed)

      same_number : NotDeclared cut_off lifeline → NotDeclared card lifeline
      same_number h = omega (arith, lines cut_off cut_is_sound, lines card all.sound, as_many_lifelines)

-- The same answer and the same output.
pub same_answer_again :
    (card : List ℕ) (lifeline : ℕ) (out : List ℕ) → Cuttable card lifeline (length out)
    → (cutting (cut_card card lifeline) lifeline (length out) ≡ cutting card lifeline (length out))
    × (out_after (cut_card card lifeline) lifeline out ≡ out_after card lifeline out)
same_answer_again card lifeline out all =
    let bytes = cut_card card lifeline in
    let (first, output) = made_when card lifeline out all in
    let (again, later) = made_when bytes lifeline out (cuttable_again card lifeline (length out) all) in
    let same = same_bytes_again card lifeline (length out) all in (
      sym again ∙ ap (λ b. record { number = 0; place = 0; length = length b }) same ∙ first,
      sym later ∙ ap (λ b. b ++ drop (length b) out) same ∙ output,
    )
