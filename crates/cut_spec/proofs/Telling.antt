-- The answer to a cut is what 01's table tells: each number and place under its exact condition, and no other. The
-- proof takes the conditions in their order, both ways: from the condition that holds to the answer, and from the
-- answer to the condition.
-- Assumes nothing.
use Prim.Native.Nat.{ℕ, ◌<◌, ◌≤◌}
use mathlib.Core.Bool.{Bool, true, false}
use mathlib.Core.List.{List, ◌++◌}
use mathlib.Core.Logic.{◌≢◌}
use mathlib.Core.Path.{◌≡◌, refl, ap, sym, subst, ◌∙◌}
use native.Mathlib.Decide.{ℕ_discrete, dec_le}
use native.Mathlib.Omega.{arith}
use lib.Dec.{T, ltb}
use lib.ListN.{length, drop}
use borrow.Author.Tests.{ltb-true, ltb-false}
use Rattle.chart_spec.specs.Executing.{evades}
use Rattle.chart_spec.proofs.Agreement.{evades_iff_some_published_log_avoids}
use Rattle.card_spec.specs.Parts.{lifelines_of}
use Rattle.card_spec.specs.Nodes.{card_chart}
use Rattle.number_spec.specs.declared.Refusal.TheVariants.{NoLogLeft}
use Rattle.number_spec.specs.Refusals.{rule}
use Rattle.card_spec.specs.Checking.{checking}
use Rattle.card_spec.proofs.Answers.{refused_so_found}
use Rattle.card_spec.specs.Table.{Sound}
use Rattle.card_spec.proofs.Decided.{Decided, by_ltb, if_not, if_so}
use Rattle.card_spec.proofs.Deciding.{same_lifelines, at_least_six}
use Rattle.card_spec.proofs.Telling.{answer→told, told→answer}
use Rattle.card_spec.proofs.Promises.{zero_exactly_for_sound_cards}
use Rattle.cut_spec.specs.declared.CutAnswer.{CutAnswer}
use Rattle.cut_spec.specs.Cutting.{left_over, cut_card, refused_at, cutting, Cuts}
use Rattle.cut_spec.specs.Table.{NotDeclared, Avoided, NeverAvoided, TooShort, Cuttable, CutTold}
use Rattle.cut_spec.specs.Table.CutTold.{spoiled, eleven, twelve, thirteen, made}
use Rattle.write_spec.specs.Cards.{card_bytes}
use Rattle.cut_spec.proofs.Refusing.{
  card_refused,
  not_declared,
  never_avoided,
  too_short,
  card_made,
  length_of_the_cut,
}

module _ (card : List ℕ) (lifeline : ℕ) where
  -- Whether the chart evades the lifeline decides whether no log avoids it.
  avoided_decided : Decided (evades (card_chart card) lifeline) (NeverAvoided card lifeline)
  avoided_decided =
      let some = evades_iff_some_published_log_avoids (card_chart card) lifeline in
      record {
        passes = λ e never. never (some.0 (subst T (sym e) tt));
        fails = λ e avoided. subst T e (some.1 avoided);
      }

  -- Whether the lifeline is lower than the number declared decides whether it is not declared.
  declared_decided : Sound card → Decided (ltb lifeline (lifelines_of card)) (NotDeclared card lifeline)
  declared_decided sound =
      rw (← same_lifelines card (at_least_six card sound.tree.ordered.trailed.framed))
      (by_ltb lifeline (lifelines_of card))

  some_avoids : evades (card_chart card) lifeline ≡ true → Avoided card lifeline
  some_avoids e = (evades_iff_some_published_log_avoids (card_chart card) lifeline).0 (subst T (sym e) tt)

  pub evading : Avoided card lifeline → evades (card_chart card) lifeline ≡ true
  evading avoided = if_not avoided_decided (λ never. never avoided)

  module _ (out : List ℕ) where
    abbrev given : CutAnswer
    given = cutting card lifeline (length out)

    -- The number and place of an answer.
    abbrev Gives : ℕ → ℕ → Type 0
    Gives number place = (given.number ≡ number) × (given.place ≡ place)

    gives : {r : CutAnswer} {after : List ℕ} → Cuts card lifeline out r after → Gives r.number r.place
    gives (e, _) = (sym (ap (λ a. a.number) e), sym (ap (λ a. a.place) e))

    told : {r : CutAnswer} {after : List ℕ} → Cuts card lifeline out r after
        → CutTold card lifeline (length out) r.number r.place
        → CutTold card lifeline (length out) given.number given.place
    told (e, _) t = subst (λ a. CutTold card lifeline (length out) a.number a.place) e t

    module _ (sound : Sound card) where
      declared : ¬ NotDeclared card lifeline → lifeline < lifelines_of card
      declared h = ltb-true lifeline (lifelines_of card) (if_not (declared_decided sound) h)

      undeclared : NotDeclared card lifeline → lifelines_of card ≤ lifeline
      undeclared h = ltb-false lifeline (lifelines_of card) (if_so (declared_decided sound) h)

    long : length (cut_card card lifeline) ≡ card_bytes (left_over card lifeline)
    long = length_of_the_cut card lifeline

    -- Nothing refuses the cut: the card is written.
    pub made_when :
        Cuttable card lifeline (length out)
        → Cuts card lifeline out (record { number = 0; place = 0; length = length (cut_card card lifeline) })
        (cut_card card lifeline ++ drop (length (cut_card card lifeline)) out)
    made_when all =
        let enough : ¬ TooShort card lifeline (length out) = all.enough in
        card_made card lifeline out all.sound (declared all.sound all.declared) (evading all.avoided)
        (length (cut_card card lifeline)) (cut_card card lifeline ++ drop (length (cut_card card lifeline)) out) long
        (omega arith)
        (ap (λ n. cut_card card lifeline ++ drop n out) long)

    short_when :
        Sound card → ¬ NotDeclared card lifeline → Avoided card lifeline → TooShort card lifeline (length out)
        → Cuts card lifeline out (refused_at 13 0) out
    short_when sound d avoided short =
        too_short card lifeline out sound (declared sound d) (evading avoided) (omega (arith, long))

    never_when :
        Sound card → ¬ NotDeclared card lifeline → NeverAvoided card lifeline
        → Cuts card lifeline out (refused_at 12 0) out
    never_when sound d never =
        never_avoided card lifeline out sound (declared sound d) (ap (rule NoLogLeft) (if_so avoided_decided never))

    undeclared_when : Sound card → NotDeclared card lifeline → Cuts card lifeline out (refused_at 11 0) out
    undeclared_when sound d = not_declared card lifeline out sound (undeclared sound d)

    spoiled_when :
        (checking card).number ≢ 0
        → Cuts card lifeline out (refused_at (checking card).number (checking card).place) out
    spoiled_when h =
        let (refused, found, is) = refused_so_found card h in rw is (card_refused card lifeline out refused found)

    -- What the table tells is the answer.
    pub cut_told→answer : {number place : ℕ} → CutTold card lifeline (length out) number place → Gives number place
    cut_told→answer (spoiled h t) =
        let (number, place) = told→answer card t in
        let (n, p) = gives (spoiled_when (rw number h)) in
        (n ∙ number, p ∙ place)
    cut_told→answer (eleven s d) = gives (undeclared_when s d)
    cut_told→answer (twelve s d never) = gives (never_when s d never)
    cut_told→answer (thirteen s d avoided short) = gives (short_when s d avoided short)
    cut_told→answer (made all) = gives (made_when all)

    by_length :
        (s : Sound card) → ¬ NotDeclared card lifeline → Avoided card lifeline
        → Dec (length (cut_card card lifeline) ≤ length out)
        → CutTold card lifeline (length out) given.number given.place
    by_length s d avoided (yes h) =
        let all : Cuttable card lifeline (length out)
        = record { sound = s; declared = d; avoided = avoided; enough = λ short. omega arith } in
        told (made_when all) (made all)
    by_length s d avoided (no h) =
        let short : TooShort card lifeline (length out) = omega arith in
        told (short_when s d avoided short) (thirteen s d avoided short)

    by_logs :
        (s : Sound card) → ¬ NotDeclared card lifeline → (b : Bool) → evades (card_chart card) lifeline ≡ b
        → CutTold card lifeline (length out) given.number given.place
    by_logs s d true e = by_length s d (some_avoids e) (dec_le (length (cut_card card lifeline)) (length out))
    by_logs s d false e =
        let never = avoided_decided.fails e in
        told (never_when s d never) (twelve s d never)

    by_lifeline :
        (s : Sound card) → (b : Bool) → ltb lifeline (lifelines_of card) ≡ b
        → CutTold card lifeline (length out) given.number given.place
    by_lifeline s true e = by_logs s ((declared_decided s).passes e) (evades (card_chart card) lifeline) refl
    by_lifeline s false e =
        let d = (declared_decided s).fails e in
        told (undeclared_when s d) (eleven s d)

    by_card : Dec ((checking card).number ≡ 0) → CutTold card lifeline (length out) given.number given.place
    by_card (yes e) = by_lifeline ((zero_exactly_for_sound_cards card).0 e) (ltb lifeline (lifelines_of card)) refl
    by_card (no h) = told (spoiled_when h) (spoiled h (answer→told card))

    -- The answer is what the table tells.
    pub cut_answer→told : CutTold card lifeline (length out) given.number given.place
    cut_answer→told = by_card (ℕ_discrete (checking card).number 0)
