-- What refuses a log: numbers 7 and 8 of the table in 01, "Verdicts and numbers given".
-- Assumes nothing.
use Rattle.std.specs.Prelude.{ℕ, ◌%◌, Bool, ◌&&◌, List, eqb, ltb, leb, length, Result}
use Rattle.chart_spec.specs.Action.{Action}
use Rattle.number_spec.specs.declared.Refusal.{Refusal}
use Rattle.number_spec.specs.declared.Refusal.TheVariants.{LogLength, UndeclaredAction}
use Rattle.number_spec.specs.Refusals.{rule}
use Rattle.card_spec.specs.Findings.{lowest, or_else}
use Rattle.log_spec.specs.Bytes.{actions_of, action_at}

-- 7: the length is even, and at most 256 bytes.
abbrev pub in_rule : List ℕ → Bool
in_rule log = eqb (length log % 2) 0 && leb (length log) 256

-- 8: the action's lifeline and message are declared.
abbrev pub declared : ℕ → ℕ → Action → Bool
declared lifelines messages a = ltb a.line lifelines && ltb a.message messages

-- Action i of the log is declared.
abbrev pub declared_at : ℕ → ℕ → List ℕ → ℕ → Bool
declared_at lifelines messages log i = declared lifelines messages (action_at log i)

-- 8, over all actions: the lowest that is not declared.
abbrev pub undeclared : ℕ → ℕ → List ℕ → Result Unit Refusal
undeclared lifelines messages log = lowest (declared_at lifelines messages log) UndeclaredAction (actions_of log)

-- What is found in a log, with so many lifelines and messages declared: 7, then 8 (01, Verdicts and numbers given).
abbrev pub refusing : ℕ → ℕ → List ℕ → Result Unit Refusal
refusing lifelines messages log = or_else (rule LogLength (in_rule log)) (undeclared lifelines messages log)
