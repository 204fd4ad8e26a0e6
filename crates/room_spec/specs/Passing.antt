-- Working definitions, which nobody has to believe: what it means that the code makes something more of a part, or of
-- an answer, that is already there.
-- Assumes nothing.
use Rattle.std.specs.Prelude.{ℕ, ◌<◌, List, Result, Ok, Err}
use Rattle.chart_spec.specs.Executing.{Made}
use Rattle.room_spec.specs.declared.Root.{Root}
use Rattle.room_spec.specs.declared.Missing.{Missing}
use Rattle.room_spec.specs.Room.{Table}
use Rattle.room_spec.specs.Building.{Builds, Follows}

-- Whichever part m was built before, f m is built now.
abbrev pub Carries : List ℕ → Root → (Made → Made) → List ℕ → Root → Type 0
Carries room x f after y =
    (before : List ℕ) (used : ℕ) (m : Made) → Table before used → Builds before used m room x
    → Builds before used (f m) after y

-- Whichever follow-ups xs the answer `right` was for, the new answer is for f xs.
abbrev pub Turns : List ℕ → ℕ → Result Root Missing → (List Made → List Made) → List ℕ → Result Root Missing → Type 0
Turns room k right f after answer =
    (before : List ℕ) (used : ℕ) (xs : List Made) → Table before used → Follows before used xs k room right
    → Follows before used (f xs) k after answer

-- If there is a follow-up, the part at this place is among the places in use with it.
abbrev pub Beside : List ℕ → ℕ → Result Root Missing → Type 0
Beside room place (Ok x) = Table room x.used × place < x.used
Beside room place (Err missing) = Unit
