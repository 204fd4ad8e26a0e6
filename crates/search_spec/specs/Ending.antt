-- Working definitions, which nobody has to believe: how the code's search ends, and what it means that it searched. The
-- code counts the allowance down, so the steps made are what is gone of it (01, The shape of each place).
-- Assumes nothing.
use Rattle.std.specs.Prelude.{ℕ, ◌+◌, ◌-◌, ◌≤◌, ◌<◌, List, ◌≡◌, leb, ltb, length}
use Rattle.chart_spec.specs.Action.{Log}
use Rattle.chart_spec.specs.Lending.{Ending, follow_up, walk}
use Rattle.chart_spec.specs.Lending.Ending.{found, failed, stopped}
use Rattle.room_spec.specs.declared.Root.{Root}
use Rattle.room_spec.specs.Room.{chart_in, Kept}
use Rattle.search_spec.specs.declared.Tally.{Tally}
use Rattle.search_spec.specs.declared.Outcome.{Outcome}
use Rattle.search_spec.specs.declared.Outcome.TheVariants.{Found, Failed, Stopped}
use Rattle.search_spec.specs.declared.Ended.{Ended}

-- The definition's ending, for a search that began with this allowance and ended with this tally.
abbrev pub ending_by : ℕ → Tally → Outcome → Ending
ending_by allowance tally Found = found (allowance - tally.left) tally.places
ending_by allowance tally (Failed deepest) = failed deepest (allowance - tally.left) tally.places
ending_by allowance tally (Stopped number) = stopped number (allowance - tally.left) tally.places

abbrev pub ending_of : ℕ → Ended → Ending
ending_of allowance r = ending_by allowance r.tally r.outcome

-- The log was searched in the chart at the root as `walk` searches it, with any number of steps made before. Nothing in
-- use was changed: the places of the choices are free again (01, How a log is executed).
pub record Searches (before : List ℕ) (log : Log) (root : Root) (tally : Tally) (after : List ℕ) (r : Ended) : Type 0
  where
    pub kept : Kept root.used before after
    pub left : r.tally.left ≤ tally.left
    pub ends : (steps : ℕ) → ending_of (steps + tally.left) r
        ≡ walk (steps + tally.left) (length before) log (chart_in before root.place) root.used steps tally.places

-- One choice was tried, whose follow-up has its root at x: first the test for 9, then the test for 10, and then the
-- rest of the log was searched from it (01, Verdicts and numbers given). A choice that failed took a step.
pub record Attempts (before : List ℕ) (rest : Log) (x : Root) (tally : Tally) (after : List ℕ) (r : Ended) : Type 0
  where
    pub kept : Kept x.used before after
    pub left : r.tally.left ≤ tally.left
    pub step : (deepest : ℕ) → r.outcome ≡ Failed deepest → r.tally.left < tally.left
    pub ends : (steps : ℕ) → ending_of (steps + tally.left) r
        ≡ follow_up (leb (steps + tally.left) steps) (ltb (length before) x.used) x.used
        (walk (steps + tally.left) (length before) rest (chart_in before x.place) x.used) steps tally.places
