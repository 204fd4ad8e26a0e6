-- Working definitions, which nobody has to believe: a list of counts, one for each number.
-- Assumes nothing.
use Rattle.std.specs.Prelude.{ℕ, ◌+◌, List, [], ◌∷◌, get_or, set}

-- The count of k grows by one; and so for each k of a list.
abbrev pub one_more : List ℕ → ℕ → List ℕ
one_more counts k = set counts k (get_or counts k 0 + 1)

abbrev pub one_more_each : List ℕ → List ℕ → List ℕ
one_more_each counts [] = counts
one_more_each counts (k ∷ ks) = one_more_each (one_more counts k) ks
