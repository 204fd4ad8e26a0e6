-- The answer to a card, given the first rule that is broken. Each law follows the list of findings as far as that rule.
-- Assumes nothing.
use Prim.Native.Nat.{ℕ, ◌≤◌, ◌<◌}
use mathlib.Core.Bool.{true, false}
use mathlib.Core.List.{List, []}
use mathlib.Core.Logic.{◌≢◌}
use mathlib.Core.Path.{◌≡◌, refl}
use lib.ListN.{take}
use borrow.Author.Tests.{le-leb, lt-leb, ne_eqb}
use Rattle.std.specs.Prelude.{Result, Ok, Err}
use Rattle.number_spec.specs.declared.Refusal.{Refusal}
use Rattle.number_spec.specs.Refusals.{number_of}
use Rattle.number_spec.proofs.Real.{refusal_is_not_zero}
use Rattle.number_spec.specs.declared.Refusal.TheVariants.{CardFrame, BackDistance, Counts, TooDeep}
use Rattle.card_spec.specs.Parts.{first_at, lifelines_of, messages_of, nodes_of}
use Rattle.card_spec.specs.Figures.{depth_of}
use Rattle.card_spec.specs.Findings.{framed, back_in_rule, counts_in_range, faulty, misused}
use Rattle.card_spec.specs.Note.{note_of}
use Rattle.card_spec.specs.Checking.{checking, findings, first, answered, refused, soundness}

-- The rules of the whole card are passed.
pub record Passed (card : List ℕ) : Type 0 where
  pub one : framed card ≡ true
  pub two : back_in_rule card ≡ true
  pub three : counts_in_range card ≡ true

module _ (card : List ℕ) where
  abbrev pub faults : Result Unit Refusal
  faults = faulty (lifelines_of card) (messages_of card) (nodes_of card)

  pub answer_one : framed card ≡ false → checking card ≡ refused CardFrame
  unfolding checking
  answer_one h = rw h

  pub answer_two : framed card ≡ true → back_in_rule card ≡ false → checking card ≡ refused BackDistance
  unfolding checking
  answer_two h₁ h₂ = rw (h₁, h₂)

  pub answer_three :
      framed card ≡ true → back_in_rule card ≡ true → counts_in_range card ≡ false → checking card ≡ refused Counts
  unfolding checking
  answer_three h₁ h₂ h₃ = rw (h₁, h₂, h₃)

  -- What refuses a card gives its number and place,
  pub found_so_refused : (refusal : Refusal) → first (findings card) ≡ Err refusal → checking card ≡ refused refusal
  unfolding checking
  found_so_refused refusal h = rw h

  -- a card that nothing refuses gets its figures,
  pub passed→sound : first (findings card) ≡ Ok tt → checking card ≡ soundness (nodes_of card)
  unfolding checking
  passed→sound h = rw h

  -- and a card with any other number was refused.
  pub refused_so_found :
      (checking card).number ≢ 0
      → (refusal : Refusal) × (first (findings card) ≡ Err refusal) × (checking card ≡ refused refusal)
  unfolding checking
  refused_so_found h = by (first (findings card)) refl h
    where
      by : (f : Result Unit Refusal) → first (findings card) ≡ f
          → (answered f (soundness (nodes_of card))).number ≢ 0
          → (refusal : Refusal) × (first (findings card) ≡ Err refusal)
          × (answered (first (findings card)) (soundness (nodes_of card)) ≡ refused refusal)
      by (Ok u) e h = absurd (h refl)
      by (Err refusal) e h = (refusal, e, rw e)

  -- The note of a card that nothing refuses, and of any other.
  pub note_of_a_sound_card : first (findings card) ≡ Ok tt → note_of card ≡ take (first_at card) card
  note_of_a_sound_card h = rw (passed→sound h)

  pub note_of_a_refused_card : (refusal : Refusal) → first (findings card) ≡ Err refusal → note_of card ≡ []
  note_of_a_refused_card refusal h =
      rw (found_so_refused refusal h, ne_eqb (number_of refusal) 0 (refusal_is_not_zero refusal))

  module _ (p : Passed card) where
    pub answer_four : (refusal : Refusal) → faults ≡ Err refusal → checking card ≡ refused refusal
    unfolding checking
    answer_four refusal h₄ = rw (p.one, p.two, p.three, h₄)

    pub answer_five :
        (refusal : Refusal) → faults ≡ Ok tt → misused (nodes_of card) ≡ Err refusal
        → checking card ≡ refused refusal
    unfolding checking
    answer_five refusal h₄ h₅ = rw (p.one, p.two, p.three, h₄, h₅)

    pub answer_six :
        faults ≡ Ok tt → misused (nodes_of card) ≡ Ok tt → 16 < depth_of (nodes_of card)
        → checking card ≡ refused TooDeep
    unfolding checking
    answer_six h₄ h₅ h₆ = rw (p.one, p.two, p.three, h₄, h₅, lt-leb (depth_of (nodes_of card)) 16 h₆)

    pub nothing_found :
        faults ≡ Ok tt → misused (nodes_of card) ≡ Ok tt → depth_of (nodes_of card) ≤ 16 → first (findings card) ≡ Ok tt
    nothing_found h₄ h₅ h₆ = rw (p.one, p.two, p.three, h₄, h₅, le-leb (depth_of (nodes_of card)) 16 h₆)

    pub answer_sound :
        faults ≡ Ok tt → misused (nodes_of card) ≡ Ok tt → depth_of (nodes_of card) ≤ 16
        → checking card ≡ soundness (nodes_of card)
    unfolding checking
    answer_sound h₄ h₅ h₆ = rw (nothing_found h₄ h₅ h₆)
