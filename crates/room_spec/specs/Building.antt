-- Working definitions, which nobody has to believe: what it means that a part was built in a room, that a part was
-- pruned, and that an occurrence was executed.
-- Assumes nothing.
use Rattle.std.specs.Prelude.{ℕ, suc, ◌+◌, min, ◌≤◌, ◌<◌, true, false, List, Option, Some, None, Result, Ok, Err, ◌≡◌, length, get_or, set}
use Rattle.chart_spec.specs.Action as chart
use Rattle.chart_spec.specs.Chart.{Chart}
use Rattle.chart_spec.specs.Executing.{Made, chart_of, cost_of, evades, prune}
use Rattle.chart_spec.specs.Executing.Made.{new_empty}
use Rattle.node.specs.declared.Node.{Node}
use Rattle.node.specs.Place.{word_of}
use Rattle.room_spec.specs.declared.Action.{Action}
use Rattle.room_spec.specs.declared.Root.{Root}
use Rattle.room_spec.specs.declared.Missing.{Missing}
use Rattle.room_spec.specs.Room.{chart_in, Table, Kept}

-- The action of a chart that an action of the code stands for (01, The log).
abbrev pub action_of : Action → chart.Action
action_of a = record { line = a.lifeline; receives = a.receives; message = a.message }

-- Places in a room of that length are counted up to the first number that exceeds it.
abbrev pub counted : ℕ → ℕ → ℕ
counted long n = min n (suc long)

-- The room with one more node, in the first place that is not in use. Beyond the room's end nothing is written.
abbrev pub added : List ℕ → ℕ → Node → List ℕ
added room used n = set room used (word_of n)

-- The root of a part whose last node has just been added there.
abbrev pub root_at : List ℕ → ℕ → Root
root_at room used = record { place = used; used = counted (length room) (used + 1) }

-- The places in use with a part are a table, and its root is one of them unless the part exceeded the room.
pub record Held (room : List ℕ) (root : Root) : Type 0 where
  pub table : Table room root.used
  pub below : root.used ≤ length room → root.place < root.used

-- A part was built above the first `used` places of a room. Nothing in use was changed, and the places in use have
-- grown by exactly what the part costs; if it did not exceed the room, its chart stands at its root (01, How a log is
-- executed, Places).
pub record Builds (before : List ℕ) (used : ℕ) (part : Made) (after : List ℕ) (root : Root) : Type 0 where
  pub kept : Kept used before after
  pub cost : root.used ≡ counted (length before) (used + cost_of part)
  pub held : Held after root
  pub stands : root.used ≤ length after → chart_in after root.place ≡ chart_of part

-- A chart was pruned by lifeline d: "only of what evades d" (01, How a log is executed).
abbrev pub Prunes : List ℕ → ℕ → Chart → ℕ → List ℕ → Option Root → Type 0
Prunes before used c d after (Some root) = (evades c d ≡ true) × Builds before used (prune c d) after root
Prunes before used c d after None = (evades c d ≡ false) × Kept used before after

-- Of these follow-ups, with occurrences from left to right, number k was built, counted from 0; or there are too few,
-- and so many occurrences are still to be passed over (01, How a log is executed, Search).
abbrev pub Follows : List ℕ → ℕ → List Made → ℕ → List ℕ → Result Root Missing → Type 0
Follows before used xs k after (Ok root) = (k < length xs) × Builds before used (get_or xs k new_empty) after root
Follows before used xs k after (Err missing) = (k ≡ length xs + missing.more) × Kept used before after
