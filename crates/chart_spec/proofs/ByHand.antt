-- Each of the thirteen rows of 01's table gets the answer that the table says: antt computes both sides of the whole
-- table. After it comes the sentence under the table that tells 9 from 10.
-- Assumes nothing.
use mathlib.Core.List.{[], ◌∷◌, map}
use mathlib.Core.Path.{◌≡◌, refl}
use Rattle.chart_spec.specs.Executing.{prune, follows}
use Rattle.chart_spec.specs.Lending.{Answer, attempts, walk, answer}
use Rattle.chart_spec.specs.ByHand.{emits, receives, S, Row, rows}

-- The answer to a row's chart and log under its lending.
abbrev pub answered : Row → Answer
answered r = answer r.chart r.log r.allowance r.room

pub rows_are_answered_as_expected : map answered rows ≡ map (λ r. r.expected) rows
unfolding rows answer walk attempts follows prune
rows_are_answered_as_expected = refl

-- "S with allowance 1 and room 5 gives 9."
pub nine_before_ten : (answer S (emits 0 0 ∷ receives 1 0 ∷ []) 1 5).number ≡ 9
unfolding answer walk attempts follows prune
nine_before_ten = refl
