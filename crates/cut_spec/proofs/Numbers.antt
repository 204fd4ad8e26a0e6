-- What the number of a cut says: which numbers there are, what is returned and left with each, and what holds with 0
-- and 12. All of it follows from the table.
-- Assumes nothing.
use Prim.Native.Nat.{ℕ, ◌≤◌}
use mathlib.Core.List.{List, [], ◌++◌}
use mathlib.Core.Logic.{◌≢◌, ◌↔◌, ◌⊎◌, inl, inr}
use mathlib.Core.Path.{◌≡◌, refl, ap, sym, ◌∙◌}
use native.Mathlib.Decide.{ℕ_discrete}
use native.Mathlib.Omega.{arith}
use lib.ListN.{length, take, drop, length-append, length-drop}
use lib.Seq.{take-append_seam, drop-append_seam}
use borrow.Author.Tests.{eq-eqb}
use Rattle.chart_spec.proofs.Shrinking.{pruned_no_larger}
use Rattle.std.specs.Prelude.{Result, Ok, Err}
use Rattle.number_spec.specs.declared.Refusal.{Refusal}
use Rattle.card_spec.specs.Parts.{lifelines_of, messages_of, first_at, nodes_of}
use Rattle.card_spec.specs.Note.{note_of}
use Rattle.card_spec.specs.Checking.{checking}
use Rattle.card_spec.specs.Table.{Sound, Told}
use Rattle.card_spec.proofs.Promises.{
  every_card_gets_a_number,
  given_exactly_as_the_table_tells,
  zero_exactly_for_sound_cards,
}
use Rattle.card_spec.specs.Nodes.{card_chart}
use Rattle.card_spec.proofs.Deciding.{at_least_six}
use Rattle.card_spec.proofs.Relied.{length_nodes}
use Rattle.card_spec.proofs.Telling.{rule, sound→faultless, sound→once}
use Rattle.card_spec.proofs.Charted.{as_many_nodes}
use Rattle.write_spec.proofs.Read.{no_note}
use Rattle.cut_spec.specs.declared.CutAnswer.{CutAnswer}
use Rattle.cut_spec.specs.Cutting.{left_over, cut_card, refusal, returned, cutting, leaves, out_after}
use Rattle.cut_spec.specs.Table.{NotDeclared, NeverAvoided, TooShort, Cuttable, CutTold}
use Rattle.cut_spec.specs.Table.CutTold.{spoiled, eleven, twelve, thirteen, made}
use Rattle.cut_spec.proofs.Refusing.{length_of_the_cut}
use Rattle.cut_spec.proofs.Telling.{made_when, cut_told→answer, cut_answer→told}

-- The numbers of a card are 0 to 6.
of_the_card : (card : List ℕ) {number place : ℕ} → Told card number place → number ≤ 6
of_the_card card {number} {place} t =
    let (e, _) = (given_exactly_as_the_table_tells card number place).1 t in
    omega (arith, every_card_gets_a_number card)

module _ (card : List ℕ) (lifeline long : ℕ) where
  some_number :
      {number place : ℕ} → CutTold card lifeline long number place
      → (number ≤ 6) ⊎ ((11 ≤ number) × (number ≤ 13))
  some_number (spoiled h t) = inl (of_the_card card t)
  some_number (eleven s d) = inr (omega arith, omega arith)
  some_number (twelve s d never) = inr (omega arith, omega arith)
  some_number (thirteen s d avoided short) = inr (omega arith, omega arith)
  some_number (made all) = inl (omega arith)

  zero_only_made : {number place : ℕ} → CutTold card lifeline long number place → number ≡ 0
      → Cuttable card lifeline long
  zero_only_made (spoiled h t) e = absurd (h e)
  zero_only_made (eleven s d) e = absurd (omega arith)
  zero_only_made (twelve s d never) e = absurd (omega arith)
  zero_only_made (thirteen s d avoided short) e = absurd (omega arith)
  zero_only_made (made all) e = all

  thirteen_only_short : {number place : ℕ} → CutTold card lifeline long number place → number ≡ 13
      → Sound card × TooShort card lifeline long
  thirteen_only_short (spoiled h t) e = absurd (omega (arith, of_the_card card t))
  thirteen_only_short (eleven s d) e = absurd (omega arith)
  thirteen_only_short (twelve s d never) e = absurd (omega arith)
  thirteen_only_short (thirteen s d avoided short) e = (s, short)
  thirteen_only_short (made all) e = absurd (omega arith)

  twelve_only_never : {number place : ℕ} → CutTold card lifeline long number place → number ≡ 12
      → Sound card × (¬ NotDeclared card lifeline) × NeverAvoided card lifeline
  twelve_only_never (spoiled h t) e = absurd (omega (arith, of_the_card card t))
  twelve_only_never (eleven s d) e = absurd (omega arith)
  twelve_only_never (twelve s d never) e = (s, d, never)
  twelve_only_never (thirteen s d avoided short) e = absurd (omega arith)
  twelve_only_never (made all) e = absurd (omega arith)

-- A card that was cut is no longer than it was before: it has no more nodes, and no note.
pub cut_is_no_longer : (card : List ℕ) (lifeline : ℕ) → Sound card → length (cut_card card lifeline) ≤ length card
cut_is_no_longer card lifeline s =
    let trailed = s.tree.ordered.trailed in
    let inside = rule card trailed in
    omega (
      arith,
      length_of_the_cut card lifeline,
      pruned_no_larger (card_chart card) lifeline,
      as_many_nodes (nodes_of card) (sound→faultless card s) (sound→once card s),
      length_nodes card inside,
      inside.inside,
      at_least_six card trailed.framed,
    )

-- What is returned and left, given what was found.
refused_leaves :
    (f : Result Unit Refusal) (bytes : ℕ) (card out : List ℕ) → (returned f bytes).number ≢ 0
    → ((returned f bytes).length ≡ 0) × (leaves f card out ≡ out)
refused_leaves (Ok u) bytes card out h = absurd (h refl)
refused_leaves (Err refused) bytes card out h = (refl, refl)

module _ (card : List ℕ) (lifeline : ℕ) (out : List ℕ) where
  abbrev given : CutAnswer
  given = cutting card lifeline (length out)

  pub number_of_any : (given.number ≤ 6) ⊎ ((11 ≤ given.number) × (given.number ≤ 13))
  number_of_any = some_number card lifeline (length out) (cut_answer→told card lifeline out)

  pub refused_output : given.number ≢ 0 → (given.length ≡ 0) × (out_after card lifeline out ≡ out)
  unfolding cutting out_after
  refused_output h =
      refused_leaves (refusal card lifeline (length out)) (length (cut_card card lifeline))
      (cut_card card lifeline) out h

  pub zero_iff : (given.number ≡ 0) ↔ Cuttable card lifeline (length out)
  zero_iff = (
    zero_only_made card lifeline (length out) (cut_answer→told card lifeline out),
    λ all. (cut_told→answer card lifeline out (made all)).0,
  )

  pub twelve_iff :
      (given.number ≡ 12) ↔ (Sound card × (¬ NotDeclared card lifeline) × NeverAvoided card lifeline)
  twelve_iff = (
    twelve_only_never card lifeline (length out) (cut_answer→told card lifeline out),
    λ (s, d, never). (cut_told→answer card lifeline out (twelve s d never)).0,
  )

  pub long_enough : length card ≤ length out → given.number ≢ 13
  long_enough h e =
      let (s, short) = thirteen_only_short card lifeline (length out) (cut_answer→told card lifeline out) e in
      omega (arith, cut_is_no_longer card lifeline s)

  -- Nothing refuses the cut: its card stands at the front of the output, and the bytes after it are as they were.
  module _ (all : Cuttable card lifeline (length out)) where
    abbrev bytes : List ℕ
    bytes = cut_card card lifeline

    pub made_answer : given ≡ record { number = 0; place = 0; length = length bytes }
    made_answer = sym (made_when card lifeline out all).0

    pub made_output : out_after card lifeline out ≡ bytes ++ drop (length bytes) out
    made_output = sym (made_when card lifeline out all).1

    its_length : given.length ≡ length bytes
    its_length = ap (λ a. a.length) made_answer

    pub card_in_front : take given.length (out_after card lifeline out) ≡ bytes
    card_in_front =
        ap (λ n. take n (out_after card lifeline out)) its_length ∙ ap (take (length bytes)) made_output
        ∙ take-append_seam bytes (drop (length bytes) out)

    pub rest_as_found : drop given.length (out_after card lifeline out) ≡ drop given.length out
    rest_as_found =
        ap (λ n. drop n (out_after card lifeline out)) its_length ∙ ap (drop (length bytes)) made_output
        ∙ drop-append_seam bytes (drop (length bytes) out) ∙ ap (λ n. drop n out) (sym its_length)

    as_long : length (out_after card lifeline out) ≡ length out
    as_long =
        let enough : ¬ TooShort card lifeline (length out) = all.enough in
        omega (
          arith,
          ap length made_output,
          length-append bytes (drop (length bytes) out),
          length-drop (length bytes) out,
        )

  pub same_length : length (out_after card lifeline out) ≡ length out
  same_length = by (ℕ_discrete given.number 0)
    where
      by : Dec (given.number ≡ 0) → length (out_after card lifeline out) ≡ length out
      by (yes e) = as_long (zero_iff.0 e)
      by (no h) = ap length (refused_output h).1

-- A card that was cut has no note.
pub cut_has_no_note :
    (card : List ℕ) (lifeline : ℕ) → Sound (cut_card card lifeline) → note_of (cut_card card lifeline) ≡ []
cut_has_no_note card lifeline s =
    let bytes = cut_card card lifeline in
    let first : first_at bytes ≡ 0 = no_note (lifelines_of card) (messages_of card) (left_over card lifeline) in
    rw (eq-eqb (checking bytes).number 0 ((zero_exactly_for_sound_cards bytes).1 s), first)
