-- The search of a log in a chart, with nothing to stop it: its outcome, and its run, which fixes the figures.
-- Assumes nothing.
use Rattle.std.specs.Prelude.{ℕ, suc, ◌+◌, max, cond, length, take, get_or}
use mathlib.Core.List.{List, [], ◌∷◌, ◌++◌, foldr}
use Rattle.chart_spec.specs.Action.{Log}
use Rattle.chart_spec.specs.Chart.{Chart, size}
use Rattle.chart_spec.specs.Executing.{Made, chart_of, cost_of, terminates, follows}

-- How a search ends. The run has, for each step in turn, the places in use after it. A refused search also has its
-- deepest opening: the most actions executed on one path.
pub data Outcome : Type 0 where
  accepted : (run : List ℕ) → Outcome
  refused : (deepest : ℕ) (run : List ℕ) → Outcome

-- A choice failed, at most `deepest` actions after its own; then the outcome of the choices after it.
abbrev pub or_else : ℕ → List ℕ → Outcome → Outcome
or_else deepest run (accepted rest) = accepted (run ++ rest)
or_else deepest run (refused deeper rest) = refused (max (suc deepest) deeper) (run ++ rest)

-- One step to n places in use, the outcome of that choice, and the outcome of the choices after it, if they are tried:
-- acceptance ends the search.
abbrev pub step : ℕ → Outcome → Outcome → Outcome
step n (accepted run) rest = accepted (n ∷ run)
step n (refused deepest run) rest = or_else deepest (n ∷ run) rest

-- The choices one after another, each from the same places in use: "when a choice has failed, its places are free
-- again" (01, How a log is executed).
unfoldable pub tries : (Chart → ℕ → Outcome) → ℕ → List Made → Outcome
tries go used [] = refused 0 []
tries go used (x ∷ xs) = let rest = tries go used xs in step (used + cost_of x) (go (chart_of x) (used + cost_of x)) rest

-- "At the log's end a terminating chart accepts at once; otherwise the search goes on with the next choice"
-- (01, How a log is executed).
abbrev pub at_end : Chart → Outcome
at_end c = cond (terminates c) (accepted []) (refused 0 [])

-- "Depth first, occurrences of the log's next action from left to right" (01, How a log is executed).
unfoldable pub explore : Log → Chart → ℕ → Outcome
explore [] c used = at_end c
explore (a ∷ t) c used = tries (λ x n. explore t x n) used (follows c a)

-- The search of a log in a chart begins with the chart's own places in use.
abbrev pub searched : Chart → Log → Outcome
searched c t = explore t c (size c)

-- The run of a search.
abbrev pub run_of : Outcome → List ℕ
run_of (accepted run) = run
run_of (refused deepest run) = run

-- The largest of n and the numbers of a run.
abbrev pub most : ℕ → List ℕ → ℕ
most n run = foldr max n run

-- The steps of a log on a chart: the follow-ups made (01, How a log is executed).
abbrev pub steps_of : Chart → Log → ℕ
steps_of c t = length (run_of (searched c t))

-- The places of a log on a chart: the most in use at one moment (01, How a log is executed).
abbrev pub places_of : Chart → Log → ℕ
places_of c t = most (size c) (run_of (searched c t))

-- The most places in use over the first k steps.
abbrev pub places_after : Chart → Log → ℕ → ℕ
places_after c t k = most (size c) (take k (run_of (searched c t)))

-- The places that the follow-up after the first k steps would have in use.
abbrev pub places_wanted : Chart → Log → ℕ → ℕ
places_wanted c t k = get_or (run_of (searched c t)) k 0
