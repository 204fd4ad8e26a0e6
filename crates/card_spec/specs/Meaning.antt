-- What can be said of the chart of a sound card.
-- Assumes nothing.
use Rattle.std.specs.Prelude.{ℕ, ◌+◌, ◌<◌, cond, eqb}
use Rattle.chart_spec.specs.Chart.{Chart}
use Rattle.chart_spec.specs.Chart.Chart.{empty, act, alt, pair, loop}

-- Every lifeline and message of the chart is declared (01, The chart card).
abbrev pub Declared : ℕ → ℕ → Chart → Type 0
Declared lifelines messages empty = Unit
Declared lifelines messages (act a) = (a.line < lifelines) × (a.message < messages)
Declared lifelines messages (alt l r) = Declared lifelines messages l × Declared lifelines messages r
Declared lifelines messages (pair o l r) = Declared lifelines messages l × Declared lifelines messages r
Declared lifelines messages (loop k b) = Declared lifelines messages b

-- How many actions lifeline d has in the chart.
abbrev pub deeds : ℕ → Chart → ℕ
deeds d empty = 0
deeds d (act a) = cond (eqb a.line d) 1 0
deeds d (alt l r) = deeds d l + deeds d r
deeds d (pair o l r) = deeds d l + deeds d r
deeds d (loop k b) = deeds d b
