-- What a lending reaches: the words in which the demands speak of allowance and room.
-- Assumes nothing.
use Rattle.std.specs.Prelude.{ℕ, ◌≤◌, ◌<◌, ◌⊎◌, ◌≡◌}
use Rattle.chart_spec.specs.Action.{Log}
use Rattle.chart_spec.specs.Chart.{Chart}
use Rattle.chart_spec.specs.Searching.{steps_of, places_of, places_after, places_wanted}

-- The allowance reaches the steps of the log on the chart, and the room the places.
abbrev pub Reaches : Chart → Log → ℕ → ℕ → Type 0
Reaches c t allowance room = (steps_of c t ≤ allowance) × (places_of c t ≤ room)

-- A number that is a verdict: accepted, short or deviates (01, Verdicts and numbers given).
abbrev pub Verdict : ℕ → Type 0
Verdict number = (number ≡ 20) ⊎ (number ≡ 21) ⊎ (number ≡ 22)

-- The chart and the first k follow-ups were within the room, and one more is wanted.
pub record Wants (c : Chart) (t : Log) (room k : ℕ) : Type 0 where
  pub within : places_after c t k ≤ room
  pub wanted : k < steps_of c t

-- After k steps the allowance is not spent, and the next whole follow-up exceeds the room.
pub record Exceeds (c : Chart) (t : Log) (allowance room k : ℕ) : Type 0 where
  pub wants : Wants c t room k
  pub unspent : k < allowance
  pub exceeded : room < places_wanted c t k
