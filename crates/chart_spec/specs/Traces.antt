-- Sets of logs, and how an operator on logs is extended to them. Both forms of a chart's meaning are built from these.
-- Assumes nothing.
use Rattle.chart_spec.specs.Action.{Log}

-- A set of logs, as the property of belonging to it (000, 3, sets of traces).
abbrev pub Traces : Type 1
Traces = Log → Type 0

-- An operator takes two logs to the set of logs that they may be composed into
-- (000, 3.1, the profile of the scheduling operators).
abbrev pub Operator : Type 1
Operator = Log → Log → Traces

-- The set with the one log s: { s }.
pub data Only (s : Log) : Log → Type 0 where
  only : Only s s

-- The extension of an operator to sets: all that it makes of a log of the first and a log of the second (000, 3.1).
pub data Joined (op : Operator) (L M : Traces) (t : Log) : Type 0 where
  joined : (s u : Log) → L s → M u → op s u t → Joined op L M t
