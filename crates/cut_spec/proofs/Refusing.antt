-- What was found decides the answer and the output: the card was refused; or the cut was, with 11, 12 or 13; or
-- neither, and the card of what is left was written.
-- Assumes nothing.
use Prim.Native.Nat.{ℕ, ◌<◌, ◌≤◌}
use mathlib.Core.Bool.{true}
use mathlib.Core.List.{List, ◌++◌}
use mathlib.Core.Path.{◌≡◌, refl, ap, sym, ◌∙◌}
use native.Mathlib.Omega.{arith}
use lib.Dec.{ltb}
use lib.ListN.{length, drop}
use borrow.Author.Tests.{lt-ltb, le-ltb, lt-leb, le-leb}
use Rattle.chart_spec.specs.Executing.{evades}
use Rattle.std.specs.Prelude.{Result, Ok, Err}
use Rattle.number_spec.specs.declared.Refusal.{Refusal}
use Rattle.number_spec.specs.declared.Refusal.TheVariants.{UndeclaredLifeline, NoLogLeft}
use Rattle.number_spec.specs.Refusals.{number_of, place_of, rule}
use Rattle.card_spec.specs.Parts.{lifelines_of, messages_of}
use Rattle.card_spec.specs.Nodes.{card_chart}
use Rattle.card_spec.specs.Findings.{or_else}
use Rattle.card_spec.specs.Checking.{findings, first}
use Rattle.card_spec.specs.Table.{Sound}
use Rattle.card_spec.proofs.Telling.{sound→nothing_found}
use Rattle.write_spec.specs.Cards.{card_bytes}
use Rattle.write_spec.proofs.Read.{length_card}
use Rattle.cut_spec.specs.Cutting.{left_over, cut_card, asked, refusal, refused_at, returned, cutting, out_after, Cuts}

pub length_of_the_cut : (card : List ℕ) (lifeline : ℕ)
    → length (cut_card card lifeline) ≡ card_bytes (left_over card lifeline)
length_of_the_cut card lifeline = length_card (lifelines_of card) (messages_of card) (left_over card lifeline)

-- The first of three findings that refuses, when it is one of the first two.
of_the_first_two : (f g h : Result Unit Refusal) {refused : Refusal} → or_else f g ≡ Err refused
    → or_else f (or_else g h) ≡ Err refused
of_the_first_two (Ok u) g h e = rw e
of_the_first_two (Err refused) g h e = e

-- The card and the lifeline, whatever the output's length.
module _ (card : List ℕ) (lifeline : ℕ) where
  -- If they are refused, so is the cut: 1 to 6, or 11.
  asked_first : (long : ℕ) (refused : Refusal) → asked card lifeline ≡ Err refused
      → refusal card lifeline long ≡ Err refused
  asked_first long refused e =
      of_the_first_two (first (findings card)) (rule UndeclaredLifeline (ltb lifeline (lifelines_of card))) _ e

  pub asked_refused : (out : List ℕ) (refused : Refusal) → asked card lifeline ≡ Err refused
      → Cuts card lifeline out (refused_at (number_of refused) (place_of refused)) out
  unfolding cutting out_after
  asked_refused out refused e = rw (asked_first (length out) refused e) (refl, refl)

module _ (card : List ℕ) (lifeline : ℕ) (out : List ℕ) where
  -- The card was refused: 1 to 6.
  pub card_refused : (refused : Refusal) → first (findings card) ≡ Err refused
      → Cuts card lifeline out (refused_at (number_of refused) (place_of refused)) out
  unfolding cutting out_after
  card_refused refused e = rw e (refl, refl)

  module _ (sound : Sound card) where
    -- 11.
    pub not_declared : lifelines_of card ≤ lifeline → Cuts card lifeline out (refused_at 11 0) out
    unfolding cutting out_after
    not_declared h = rw (sound→nothing_found card sound, le-ltb lifeline (lifelines_of card) h) (refl, refl)

    module _ (declared : lifeline < lifelines_of card) where
      -- 12.
      pub never_avoided : {refused : Refusal} → rule NoLogLeft (evades (card_chart card) lifeline) ≡ Err refused
          → Cuts card lifeline out (refused_at (number_of refused) (place_of refused)) out
      unfolding cutting out_after
      never_avoided e =
          rw (sound→nothing_found card sound, lt-ltb lifeline (lifelines_of card) declared, e) (refl, refl)

      long : length (cut_card card lifeline) ≡ card_bytes (left_over card lifeline)
      long = length_of_the_cut card lifeline

      module _ (evading : evades (card_chart card) lifeline ≡ true) where
        -- 13.
        pub too_short : length out < card_bytes (left_over card lifeline) → Cuts card lifeline out (refused_at 13 0) out
        unfolding cutting out_after
        too_short h =
            let short : length out < length (cut_card card lifeline) = rw long h in
            rw (
              sound→nothing_found card sound,
              lt-ltb lifeline (lifelines_of card) declared,
              evading,
              lt-leb (length (cut_card card lifeline)) (length out) short,
            )
            (refl, refl)

        -- Written.
        pub card_made :
            (bytes : ℕ) (after : List ℕ) → bytes ≡ card_bytes (left_over card lifeline) → bytes ≤ length out
            → after ≡ cut_card card lifeline ++ drop (card_bytes (left_over card lifeline)) out
            → Cuts card lifeline out (record { number = 0; place = 0; length = bytes }) after
        unfolding cutting out_after
        card_made bytes after e h wrote =
            let fits : length (cut_card card lifeline) ≤ length out = omega (arith, long) in
            rw (
              sound→nothing_found card sound,
              lt-ltb lifeline (lifelines_of card) declared,
              evading,
              le-leb (length (cut_card card lifeline)) (length out) fits,
            ) (
              ap (λ n. returned (Ok tt) n) (e ∙ sym long),
              wrote ∙ ap (λ n. cut_card card lifeline ++ drop n out) (sym long),
            )
