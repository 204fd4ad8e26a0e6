-- The actions of a log, read out of its bytes.
-- Assumes nothing.
use Rattle.std.specs.Prelude.{ℕ, ◌+◌, ◌*◌, ◌/◌, ◌%◌, List, [], ◌∷◌, eqb, length, get_or}
use Rattle.chart_spec.specs.Action.{Action, Log}

-- "Two bytes an action: lifeline times 2, plus 0 for emission or 1 for reception; then the message" (01, The log).
abbrev pub acts : ℕ → ℕ → Action
acts first second = record { line = first / 2; receives = eqb (first % 2) 1; message = second }

-- The log that the bytes are. A single last byte is no action; a log that has one is refused.
abbrev pub log_of : List ℕ → Log
log_of [] = []
log_of (first ∷ []) = []
log_of (first ∷ second ∷ rest) = acts first second ∷ log_of rest

-- How many actions there are.
abbrev pub actions_of : List ℕ → ℕ
actions_of log = length log / 2

-- Action i, counted from 0.
abbrev pub action_at : List ℕ → ℕ → Action
action_at log i = acts (get_or log (i * 2) 0) (get_or log (i * 2 + 1) 0)
