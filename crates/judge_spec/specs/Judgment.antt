-- The judgment of a card and a log under an allowance in a room, and the room afterwards.
-- Assumes nothing.
use Rattle.std.specs.Prelude.{ℕ, min, List, ◌++◌, ◌≡◌, length, drop, replicate, Result, Ok, Err}
use Rattle.chart_spec.specs.Lending.{Answer, answer}
use Rattle.number_spec.specs.declared.Refusal.{Refusal}
use Rattle.number_spec.specs.Refusals.{number_of, place_of}
use Rattle.card_spec.specs.Parts.{lifelines_of, messages_of}
use Rattle.card_spec.specs.Nodes.{card_chart}
use Rattle.card_spec.specs.Findings.{or_else}
use Rattle.card_spec.specs.Checking.{findings, first}
use Rattle.log_spec.specs.Bytes.{log_of}
use Rattle.log_spec.specs.Refusing.{refusing}
use Rattle.judge_spec.specs.declared.Judged.{Judged}

-- "Usable room is its length or 16,384, whichever is less" (01, How a log is executed).
abbrev pub usable : ℕ → ℕ
usable long = min long 16384

-- What refuses a card and a log: 1 to 8 as numbered (01, Verdicts and numbers given).
abbrev pub refusal : List ℕ → List ℕ → Result Unit Refusal
refusal card log = or_else (first (findings card)) (refusing (lifelines_of card) (messages_of card) log)

-- An answer, as it is returned.
abbrev pub judged_of : Answer → Judged
judged_of a = record { number = a.number; place = a.place; steps = a.steps; places = a.places }

-- "With 1 to 8, steps and places are 0" (01, Verdicts and numbers given).
abbrev pub refused_at : ℕ → ℕ → Judged
refused_at number place = record { number = number; place = place; steps = 0; places = 0 }

-- What is returned, given what was found.
abbrev pub returned : Result Unit Refusal → Answer → Judged
returned (Ok u) a = judged_of a
returned (Err refusal) a = refused_at (number_of refusal) (place_of refusal)

-- The judgment of a card and a log, with an allowance and a room of that length.
unfoldable pub judgment : List ℕ → List ℕ → ℕ → ℕ → Judged
judgment card log allowance long =
    returned (refusal card log) (answer (card_chart card) (log_of log) allowance (usable long))

-- The usable room zeroed; "beyond that nothing is touched" (01, How a log is executed).
abbrev pub cleared : List ℕ → List ℕ
cleared room = replicate (usable (length room)) 0 ++ drop (usable (length room)) room

-- "With 1 to 8 .. the room is as found. .. with these and all verdicts the usable room is zeroed" (01, Verdicts and
-- numbers given). What was found decides between the two.
abbrev pub leaves : Result Unit Refusal → List ℕ → List ℕ
leaves (Ok u) room = cleared room
leaves (Err refusal) room = room

-- The room after a judgment.
unfoldable pub room_after : List ℕ → List ℕ → List ℕ → List ℕ
room_after card log room = leaves (refusal card log) room

-- What a judgment has to return and to leave: both equations of the contract.
abbrev pub Judges : List ℕ → List ℕ → ℕ → List ℕ → Judged → List ℕ → Type 0
Judges card log allowance room r after =
    (r ≡ judgment card log allowance (length room)) × (after ≡ room_after card log room)
