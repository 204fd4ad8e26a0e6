-- Openings of a log, and the longest with which some log of a set begins: these define "short" and "deviates".
-- Assumes nothing.
use Rattle.std.specs.Prelude.{ℕ, ◌≤◌, ◌∷◌, ◌++◌, length, take}
use Rattle.chart_spec.specs.Action.{Action, Log}
use Rattle.chart_spec.specs.Traces.{Traces}

-- Some log of the set begins with s. "A continuation may be of any length" (01, Which logs belong to a chart).
abbrev pub Begins : Traces → Log → Type 0
Begins M s = (u : Log) × M (s ++ u)

-- Some longer log of the set begins with s.
abbrev pub Longer : Traces → Log → Type 0
Longer M s = (a : Action) × (u : Log) × M (s ++ a ∷ u)

-- n is the length of the longest opening of t with which some log of the set begins
-- (01, Verdicts and numbers given, 22).
pub record Longest (M : Traces) (t : Log) (n : ℕ) : Type 0 where
  pub within : n ≤ length t
  pub opens : Begins M (take n t)
  pub longest : (m : ℕ) → m ≤ length t → Begins M (take m t) → m ≤ n
