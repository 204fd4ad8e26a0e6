-- What is promised of cards, for whoever reads nothing else: each sentence of 01 on cards, as a theorem that only cites
-- others. `check` returns `checking` of the bytes; `note` returns the part that begins where the card begins and is
-- `note_of` of the bytes: that is their contract (card_check/src/lib.rt). What holds here of the two definitions
-- therefore holds of the code.
-- Assumes nothing.
use Prim.Native.Nat.{ℕ, ◌-◌, ◌≤◌}
use mathlib.Core.List.{List, []}
use mathlib.Core.Logic.{◌≢◌, ◌↔◌}
use mathlib.Core.Path.{◌≡◌, refl, sym, ◌∙◌, ap}
use native.Mathlib.Omega.{arith}
use lib.Dec.{ltb}
use lib.ListN.{length, take}
use borrow.Author.Tests.{eq-eqb, ne_eqb}
use Rattle.chart_spec.specs.Chart.{size, depth}
use Rattle.card_spec.specs.declared.Checked.{Checked}
use Rattle.std.specs.Prelude.{Result, Ok, Err}
use Rattle.number_spec.specs.declared.Refusal.{Refusal}
use Rattle.number_spec.specs.Refusals.{number_of, place_of}
use Rattle.card_spec.specs.Parts.{lifelines_of, messages_of, nodes_of}
use Rattle.card_spec.specs.Nodes.{card_chart}
use Rattle.card_spec.specs.Figures.{tally}
use Rattle.card_spec.specs.Checking.{checking, findings, first, answered, soundness}
use Rattle.card_spec.specs.Note.{note_of}
use Rattle.card_spec.specs.Table.{Told, Sound, back, lifelines, messages}
use Rattle.card_spec.specs.Table.Told.{one, two, three, four, five, six, sound}
use Rattle.card_spec.specs.Meaning.{Declared, deeds}
use Rattle.card_spec.proofs.Deciding.{at_least_six, same_back, same_lifelines, same_messages}
use Rattle.card_spec.proofs.Telling.{told→answer, answer→told, sound→answer, sound→nothing_found}
use Rattle.card_spec.proofs.Answers.{found_so_refused, passed→sound}
use Rattle.card_spec.proofs.Telling.{sound→faultless, sound→once, sound→orderly}
use Rattle.card_spec.proofs.Charted.{as_many_nodes, the_same_act, chart_declared}

told_zero : (card : List ℕ) {number place : ℕ} → Told card number place → number ≡ 0 → Sound card
told_zero card (one h) e = absurd (omega arith)
told_zero card (two f h) e = absurd (omega arith)
told_zero card (three f b h) e = absurd (omega arith)
told_zero card (four t l) e = absurd (omega arith)
told_zero card (five o l) e = absurd (omega arith)
told_zero card (six t h) e = absurd (omega arith)
told_zero card (sound s) e = s

no_figures :
    (sound : Checked) (f : Result Unit Refusal) → sound.number ≡ 0 → (answered f sound).number ≢ 0
    → ((answered f sound).nodes ≡ 0) × ((answered f sound).depth ≡ 0) × ((answered f sound).lifelines ≡ 0)
no_figures s (Ok u) e h = absurd (h e)
no_figures s (Err refusal) e h = (refl, refl, refl)

told_at_most_six : (card : List ℕ) {number place : ℕ} → Told card number place → number ≤ 6
told_at_most_six card (one h) = omega arith
told_at_most_six card (two f h) = omega arith
told_at_most_six card (three f b h) = omega arith
told_at_most_six card (four t l) = omega arith
told_at_most_six card (five o l) = omega arith
told_at_most_six card (six t h) = omega arith
told_at_most_six card (sound s) = omega arith

module _ (card : List ℕ) where
  -- "Every card .., sound or spoiled, gets exactly one numbered answer" (00): one of 0 to 6,
  pub every_card_gets_a_number : (checking card).number ≤ 6
  every_card_gets_a_number = told_at_most_six card (answer→told card)

  -- and no second answer meets the contract, nor a second note (its bytes, or the place in memory where it begins), nor
  -- a second length of the note.
  pub no_second_answer : {r s : Checked} → r ≡ checking card → s ≡ checking card → r ≡ s
  no_second_answer e f = e ∙ sym f

  pub no_second_note :
      {from r_from s_from : ℕ × ℕ} {r s : List ℕ} → (r_from ≡ from) × (r ≡ note_of card)
      → (s_from ≡ from) × (s ≡ note_of card) → (r_from ≡ s_from) × (r ≡ s)
  no_second_note (e_from, e) (f_from, f) = (e_from ∙ sym f_from, e ∙ sym f)

  pub no_second_length : {r s : ℕ} → r ≡ length (note_of card) → s ≡ length (note_of card) → r ≡ s
  no_second_length e f = e ∙ sym f

  -- "No. | Given when | Place", 1 to 6, and 0 for a sound card: exactly as 01's table tells.
  pub given_exactly_as_the_table_tells :
      (number place : ℕ) → (((checking card).number ≡ number) × ((checking card).place ≡ place))
      ↔ Told card number place
  given_exactly_as_the_table_tells number place = (λ (en, ep). rw (en, ep) at (answer→told card), told→answer card)

  -- 0 exactly for sound cards.
  pub zero_exactly_for_sound_cards : ((checking card).number ≡ 0) ↔ Sound card
  zero_exactly_for_sound_cards = (told_zero card (answer→told card), λ s. (told→answer card (sound s)).0)

  -- Nothing refuses exactly the sound cards; and what refuses any other has the number and place that the table tells.
  pub nothing_refuses_exactly_sound_cards : (first (findings card) ≡ Ok tt) ↔ Sound card
  nothing_refuses_exactly_sound_cards =
      (λ e. zero_exactly_for_sound_cards.0 (ap (λ a. a.number) (passed→sound card e)), sound→nothing_found card)

  pub refused_as_the_table_tells :
      (refusal : Refusal) → first (findings card) ≡ Err refusal → Told card (number_of refusal) (place_of refusal)
  refused_as_the_table_tells refusal e = rw (found_so_refused card refusal e) at (answer→told card)

  -- "A card check that refuses returns number, place and zero figures."
  pub a_refusal_has_no_figures :
      (checking card).number ≢ 0
      → ((checking card).nodes ≡ 0) × ((checking card).depth ≡ 0) × ((checking card).lifelines ≡ 0)
  unfolding checking
  a_refusal_has_no_figures h = no_figures (soundness (nodes_of card)) (first (findings card)) refl h

  -- "Checking a sound card gives number 0, place 0, its number of nodes, its depth, and the number of different
  -- lifelines that act in it": of the chart that the card is.
  module _ (s : Sound card) where
    pub sound_gives_place_zero : (checking card).place ≡ 0
    sound_gives_place_zero = (told→answer card (sound s)).1

    pub sound_gives_the_number_of_nodes : (checking card).nodes ≡ size (card_chart card)
    sound_gives_the_number_of_nodes =
        ap (λ a. a.nodes) (sound→answer card s)
        ∙ sym (as_many_nodes (nodes_of card) (sound→faultless card s) (sound→once card s))

    pub sound_gives_the_depth : (checking card).depth ≡ depth (card_chart card)
    sound_gives_the_depth = ap (λ a. a.depth) (sound→answer card s)

    pub sound_gives_the_lifelines_that_act :
        (checking card).lifelines ≡ tally (λ d. ltb 0 (deeds d (card_chart card))) 16
    sound_gives_the_lifelines_that_act =
        ap (λ a. a.lifelines) (sound→answer card s)
        ∙ the_same_act (nodes_of card) (sound→faultless card s) (sound→once card s)

    -- "Depth, counting the root as 1, is at most 16."
    pub sound_is_at_most_sixteen_deep : depth (card_chart card) ≤ 16
    sound_is_at_most_sixteen_deep = let shallow = s.shallow in omega arith

    -- "a is the lifeline, b the message", "1 to 16", "1 to 64": all declared.
    pub sound_is_declared : Declared (lifelines card) (messages card) (card_chart card)
    sound_is_declared =
        let long = at_least_six card s.tree.ordered.trailed.framed in
        rw (← same_lifelines card long, ← same_messages card long)
        (chart_declared (lifelines_of card) (messages_of card) (nodes_of card) (sound→orderly card s))

    -- "The note is handed back as that part of the caller's own bytes": those before the first node.
    pub sound_has_its_note : note_of card ≡ take (length card - 6 - back card) card
    sound_has_its_note =
        let long = at_least_six card s.tree.ordered.trailed.framed in
        rw (eq-eqb (checking card).number 0 (told→answer card (sound s)).0, ← same_back card long)

  -- "a refused card gives an empty part."
  pub a_refused_card_has_no_note : (checking card).number ≢ 0 → note_of card ≡ []
  a_refused_card_has_no_note h = rw (ne_eqb (checking card).number 0 h)
