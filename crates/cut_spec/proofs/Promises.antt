-- The customer's demands (00) on a cut, for the bytes that are lent. Each theorem stands under the sentence that it
-- keeps, and only cites others.
--
-- `cut` returns `cutting` of card, lifeline and the output's length, and leaves `out_after` of card, lifeline and
-- output: that is its contract (cut/src/lib.rt), and `Cuts` its two equations. What holds here of the two definitions
-- (specs/Cutting.antt) therefore holds of the code. `Published` is a chart's trace set as document 000 composes it,
-- `card_chart` the chart that a card is. `CutTold` and `Cuttable` are 01's table as conditions (specs/Table.antt).
-- Assumes nothing.
use Prim.Native.Nat.{ℕ, ◌≤◌}
use mathlib.Core.List.{List, []}
use mathlib.Core.Logic.{◌≢◌, ◌↔◌, ◌⊎◌}
use mathlib.Core.Path.{◌≡◌, ap, sym, subst, ◌∙◌}
use lib.ListN.{length, take, drop}
use Rattle.chart_spec.specs.Action.{Log, Avoids}
use Rattle.chart_spec.specs.Published.{Published}
use Rattle.chart_spec.proofs.Demands as demands
use Rattle.card_spec.specs.Parts.{lifelines_of, messages_of}
use Rattle.card_spec.specs.Nodes.{card_row, card_chart}
use Rattle.card_spec.specs.Note.{note_of}
use Rattle.card_spec.specs.Table.{Sound}
use Rattle.write_spec.specs.Rows.{written}
use Rattle.cut_spec.specs.declared.CutAnswer.{CutAnswer}
use Rattle.cut_spec.specs.Cutting.{cut_card, cutting, out_after, Cuts}
use Rattle.cut_spec.specs.Table.{NotDeclared, NeverAvoided, Cuttable, CutTold}
use Rattle.cut_spec.proofs.Telling.{cut_told→answer, cut_answer→told}
use Rattle.cut_spec.proofs.Again.{
  evades_it,
  cut_is_sound,
  cut_has_its_chart,
  cut_in_order,
  as_many_lifelines,
  as_many_messages,
  same_answer_again,
}
use Rattle.cut_spec.proofs.Numbers.{
  number_of_any,
  refused_output,
  zero_iff,
  twelve_iff,
  made_answer,
  card_in_front,
  rest_as_found,
  same_length,
  cut_has_no_note,
  cut_is_no_longer,
  long_enough,
}

module _ (card : List ℕ) (lifeline : ℕ) (out : List ℕ) where
  -- the answer, the output afterwards, and the bytes that were written at its front
  abbrev given : CutAnswer
  given = cutting card lifeline (length out)

  abbrev after : List ℕ
  after = out_after card lifeline out

  abbrev result : List ℕ
  result = take given.length after

  -- ---- Demand 1: one answer, and the output afterwards

  -- "Every card .., sound or spoiled, gets exactly one numbered answer": 0 to 6, or 11 to 13;
  pub every_input_gets_a_number : (given.number ≤ 6) ⊎ ((11 ≤ given.number) × (given.number ≤ 13))
  every_input_gets_a_number = number_of_any card lifeline out

  -- no second answer, nor a second output, meets the contract.
  pub no_second_answer : {r s : CutAnswer} {one two : List ℕ} → Cuts card lifeline out r one
      → Cuts card lifeline out s two → (r ≡ s) × (one ≡ two)
  no_second_answer (r, one) (s, two) = (r ∙ sym s, one ∙ sym two)

  -- "and the tool does its own checking": each number and place exactly as 01's table tells, "1 to 6, 11, 12, 13",
  pub given_exactly_as_the_table_tells : (number place : ℕ)
      → ((given.number ≡ number) × (given.place ≡ place)) ↔ CutTold card lifeline (length out) number place
  given_exactly_as_the_table_tells number place =
      (λ (en, ep). rw (en, ep) at (cut_answer→told card lifeline out), cut_told→answer card lifeline out)

  -- and 0 exactly if nothing refuses the cut.
  pub made_exactly_if_nothing_refuses : (given.number ≡ 0) ↔ Cuttable card lifeline (length out)
  made_exactly_if_nothing_refuses = zero_iff card lifeline out

  -- "Refused input leaves lent room and output untouched": "a refused cut writes nothing and returns .. length 0".
  pub refused_writes_nothing : given.number ≢ 0 → (given.length ≡ 0) × (after ≡ out)
  refused_writes_nothing = refused_output card lifeline out

  -- An output that is as long as the card is not too short.
  pub as_long_as_the_card_is_enough : length card ≤ length out → given.number ≢ 13
  as_long_as_the_card_is_enough = long_enough card lifeline out

  pub the_output_keeps_its_length : length after ≡ length out
  the_output_keeps_its_length = same_length card lifeline out

  -- ---- Demand 2: what a cut keeps

  -- "and is refused for want of such a log exactly if there is none": for a sound card and a declared lifeline.
  pub refused_for_want_of_one_exactly_if_there_is_none :
      (given.number ≡ 12) ↔ (Sound card × (¬ NotDeclared card lifeline) × NeverAvoided card lifeline)
  refused_for_want_of_one_exactly_if_there_is_none = twelve_iff card lifeline out

  module _ (done : given.number ≡ 0) where
    all : Cuttable card lifeline (length out)
    all = (zero_iff card lifeline out).0 done

    same : result ≡ cut_card card lifeline
    same = card_in_front card lifeline out all

    -- "A cut .. returns number 0, place 0 and its length";
    pub made_gives_place_zero_and_the_length : (given.place ≡ 0) × (given.length ≡ length result)
    made_gives_place_zero_and_the_length =
        let answer = made_answer card lifeline out all in
        (ap (λ a. a.place) answer, ap (λ a. a.length) answer ∙ ap length (sym same))

    -- What is written is no longer than the card.
    pub what_is_written_is_no_longer_than_the_card : length result ≤ length card
    what_is_written_is_no_longer_than_the_card =
        subst (λ bytes. length bytes ≤ length card) (sym same) (cut_is_no_longer card lifeline all.sound)

    -- "output bytes beyond it stay."
    pub bytes_beyond_stay : drop given.length after ≡ drop given.length out
    bytes_beyond_stay = rest_as_found card lifeline out all

    -- "A cut writes a card": a sound one,
    pub what_is_written_is_sound : Sound result
    what_is_written_is_sound = subst Sound (sym same) (cut_is_sound card lifeline (length out) all)

    -- "without a note,
    pub what_is_written_has_no_note : note_of result ≡ []
    what_is_written_has_no_note =
        ap note_of same ∙ cut_has_no_note card lifeline (cut_is_sound card lifeline (length out) all)

    -- the same counts,
    pub what_is_written_has_the_same_counts :
        (lifelines_of result ≡ lifelines_of card) × (messages_of result ≡ messages_of card)
    what_is_written_has_the_same_counts = (
      ap lifelines_of same ∙ as_many_lifelines card lifeline (length out) all,
      ap messages_of same ∙ as_many_messages card lifeline (length out) all,
    )

    -- nodes with left part before right part before parent."
    pub what_is_written_has_its_nodes_in_order : card_row result ≡ written 0 (card_chart result)
    what_is_written_has_its_nodes_in_order =
        subst (λ bytes. card_row bytes ≡ written 0 (card_chart bytes)) (sym same)
        (cut_in_order card lifeline (length out) all)

    -- "Cutting a device out of a chart keeps exactly the logs in which it never acts."
    pub keeps_exactly_the_logs_without_the_device : (t : Log)
        → Published (card_chart result) t ↔ (Published (card_chart card) t × Avoids lifeline t)
    keeps_exactly_the_logs_without_the_device t =
        let chart = ap card_chart same ∙ cut_has_its_chart card lifeline (length out) all in
        rw chart
        (demands.cut_keeps_exactly_the_logs_without_the_device (card_chart card) lifeline
        (evades_it card lifeline (length out) all) t)

    -- A card that was cut and is cut again by the same device stays the same: the same answer, and the same output.
    pub cut_again_the_same :
        (cutting result lifeline (length out) ≡ given) × (out_after result lifeline out ≡ after)
    cut_again_the_same =
        subst (λ bytes. (cutting bytes lifeline (length out) ≡ given) × (out_after bytes lifeline out ≡ after))
        (sym same)
        (same_answer_again card lifeline out all)
