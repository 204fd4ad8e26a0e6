-- Numbers 11 to 13 of the table in 01, "Verdicts and numbers given", as conditions, in the table's words and order.
-- Assumes nothing.
use Rattle.std.specs.Prelude.{ℕ, ◌<◌, ◌≤◌, List, ◌≢◌, length}
use Rattle.chart_spec.specs.Action.{Log, Avoids}
use Rattle.chart_spec.specs.Published.{Published}
use Rattle.card_spec.specs.Nodes.{card_chart}
use Rattle.card_spec.specs.Table.{Sound, Told, lifelines}
use Rattle.cut_spec.specs.Cutting.{cut_card}

-- 11: lifeline not declared.
abbrev pub NotDeclared : List ℕ → ℕ → Type 0
NotDeclared card lifeline = lifelines card ≤ lifeline

-- Some log of the chart avoids the lifeline.
abbrev pub Avoided : List ℕ → ℕ → Type 0
Avoided card lifeline = (t : Log) × Published (card_chart card) t × Avoids lifeline t

-- 12: no log of the chart avoids the lifeline.
abbrev pub NeverAvoided : List ℕ → ℕ → Type 0
NeverAvoided card lifeline = ¬ Avoided card lifeline

-- 13: output shorter than the result.
abbrev pub TooShort : List ℕ → ℕ → ℕ → Type 0
TooShort card lifeline long = long < length (cut_card card lifeline)

-- Nothing refuses the cut.
pub record Cuttable (card : List ℕ) (lifeline long : ℕ) : Type 0 where
  pub sound : Sound card
  pub declared : ¬ NotDeclared card lifeline
  pub avoided : Avoided card lifeline
  pub enough : ¬ TooShort card lifeline long

-- The number and place that a cut gets, each under its exact condition: first those of the card, then those of the cut.
pub data CutTold (card : List ℕ) (lifeline long : ℕ) : ℕ → ℕ → Type 0 where
  spoiled : {number place : ℕ} → number ≢ 0 → Told card number place → CutTold card lifeline long number place
  eleven : Sound card → NotDeclared card lifeline → CutTold card lifeline long 11 0
  twelve : Sound card → ¬ NotDeclared card lifeline → NeverAvoided card lifeline → CutTold card lifeline long 12 0
  thirteen :
      Sound card → ¬ NotDeclared card lifeline → Avoided card lifeline → TooShort card lifeline long
      → CutTold card lifeline long 13 0
  made : Cuttable card lifeline long → CutTold card lifeline long 0 0
