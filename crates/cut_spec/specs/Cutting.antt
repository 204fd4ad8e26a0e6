-- The answer to a cut, and the output afterwards.
-- Assumes nothing.
use Rattle.std.specs.Prelude.{ℕ, List, [], ◌∷◌, ◌++◌, ◌≡◌, ltb, leb, length, drop, Result, Ok, Err}
use Rattle.chart_spec.specs.Chart.{Chart}
use Rattle.chart_spec.specs.Executing.{evades, prune, chart_of}
use Rattle.number_spec.specs.declared.Refusal.{Refusal}
use Rattle.number_spec.specs.declared.Refusal.TheVariants.{UndeclaredLifeline, NoLogLeft, OutputTooShort}
use Rattle.number_spec.specs.Refusals.{number_of, place_of, rule}
use Rattle.card_spec.specs.Parts.{lifelines_of, messages_of}
use Rattle.card_spec.specs.Nodes.{card_chart}
use Rattle.card_spec.specs.Findings.{or_else}
use Rattle.card_spec.specs.Checking.{findings, first}
use Rattle.write_spec.specs.Cards.{card_of}
use Rattle.cut_spec.specs.declared.CutAnswer.{CutAnswer}

-- The chart that is left: the card's chart, pruned by the lifeline (01, How a log is executed).
abbrev pub left_over : List ℕ → ℕ → Chart
left_over card lifeline = chart_of (prune (card_chart card) lifeline)

-- "A cut writes a card without a note, the same counts, nodes with left part before right part before parent"
-- (01, Verdicts and numbers given).
abbrev pub cut_card : List ℕ → ℕ → List ℕ
cut_card card lifeline = card_of (lifelines_of card) (messages_of card) (left_over card lifeline)

-- What refuses the cut of a sound card into an output of that length, in this order: 11, 12, 13
-- (01, Verdicts and numbers given).
abbrev pub of_the_cut : List ℕ → ℕ → ℕ → List (Result Unit Refusal)
of_the_cut card lifeline long =
    rule UndeclaredLifeline (ltb lifeline (lifelines_of card))
    ∷ rule NoLogLeft (evades (card_chart card) lifeline)
    ∷ rule OutputTooShort (leb (length (cut_card card lifeline)) long)
    ∷ []

-- What refuses a card or the lifeline to cut out of it: 1 to 6, then 11 (01, Verdicts and numbers given).
abbrev pub asked : List ℕ → ℕ → Result Unit Refusal
asked card lifeline =
    or_else (first (findings card)) (rule UndeclaredLifeline (ltb lifeline (lifelines_of card)))

-- What refuses a cut: "1 to 6, 11, 12, 13" (01, Verdicts and numbers given).
abbrev pub refusal : List ℕ → ℕ → ℕ → Result Unit Refusal
refusal card lifeline long = or_else (first (findings card)) (first (of_the_cut card lifeline long))

-- A refused cut "returns number and place by the table and length 0" (01, Verdicts and numbers given).
abbrev pub refused_at : ℕ → ℕ → CutAnswer
refused_at number place = record { number = number; place = place; length = 0 }

-- The answer, given what was found: for a card of so many bytes "number 0, place 0 and its length".
abbrev pub returned : Result Unit Refusal → ℕ → CutAnswer
returned (Ok u) bytes = record { number = 0; place = 0; length = bytes }
returned (Err refusal) bytes = refused_at (number_of refusal) (place_of refusal)

-- The answer to a card, a lifeline and an output of that length.
unfoldable pub cutting : List ℕ → ℕ → ℕ → CutAnswer
cutting card lifeline long = returned (refusal card lifeline long) (length (cut_card card lifeline))

-- The output, given what was found: "Output bytes beyond it stay. A refused cut writes nothing" (01, Verdicts and
-- numbers given).
abbrev pub leaves : Result Unit Refusal → List ℕ → List ℕ → List ℕ
leaves (Ok u) bytes out = bytes ++ drop (length bytes) out
leaves (Err refusal) bytes out = out

-- The output after a cut.
unfoldable pub out_after : List ℕ → ℕ → List ℕ → List ℕ
out_after card lifeline out = leaves (refusal card lifeline (length out)) (cut_card card lifeline) out

-- What a cut has to return and to leave: both equations of the contract.
abbrev pub Cuts : List ℕ → ℕ → List ℕ → CutAnswer → List ℕ → Type 0
Cuts card lifeline out r after =
    (r ≡ cutting card lifeline (length out)) × (after ≡ out_after card lifeline out)
