-- What each kind of node is.
-- Assumes nothing.
use Rattle.std.specs.Prelude.{ℕ, Bool, true, false, List, [], ◌∷◌, get_or}
use Rattle.chart_spec.specs.Chart.{Chart, Order, Loop}
use Rattle.chart_spec.specs.Chart.Order.{strict, seq, par}
use Rattle.chart_spec.specs.Chart.Loop.{each, head}
use Rattle.chart_spec.specs.Chart.Chart.{alt, pair}

-- The four pairs: two parts in one of the three orders, or a choice between them (01, The chart card, kinds 3 to 6).
pub data Pair : Type 0 where
  composed : Order → Pair
  choice : Pair

-- The chart of a pair.
abbrev pub paired : Pair → Chart → Chart → Chart
paired (composed o) l r = pair o l r
paired choice l r = alt l r

-- The kinds: empty, an action (which receives or not), a pair, a loop; or no such kind (01, The chart card).
pub data Kind : Type 0 where
  nothing : Kind
  action : Bool → Kind
  pairs : Pair → Kind
  loops : Loop → Kind
  unknown : Kind

-- Kinds 0 to 10: empty; emission, reception; strict, seq, par, alt; strict, head, weak and parallel loop
-- (01, The chart card).
abbrev pub all_kinds : List Kind
all_kinds =
    nothing
    ∷ action false ∷ action true
    ∷ pairs (composed strict) ∷ pairs (composed seq) ∷ pairs (composed par) ∷ pairs choice
    ∷ loops (each strict) ∷ loops head ∷ loops (each seq) ∷ loops (each par)
    ∷ []

-- The kind with that number.
unfoldable pub kind_of : ℕ → Kind
kind_of k = get_or all_kinds k unknown

-- The number of a kind (01, The chart card); `unknown` gets a number that no kind has.
abbrev pub number_of : Kind → ℕ
number_of nothing = 0
number_of (action false) = 1
number_of (action true) = 2
number_of (pairs (composed strict)) = 3
number_of (pairs (composed seq)) = 4
number_of (pairs (composed par)) = 5
number_of (pairs choice) = 6
number_of (loops (each strict)) = 7
number_of (loops head) = 8
number_of (loops (each seq)) = 9
number_of (loops (each par)) = 10
number_of unknown = 11
