-- How a log is executed: terminating, evading, pruning, and the follow-ups of a chart by an action, with what each
-- costs in places. The rules say which parts are kept and which nodes are new; the chart and its cost both follow from
-- that.
-- Assumes nothing.
use Rattle.std.specs.Prelude.{ℕ, ◌+◌, Bool, true, false, cond, not, ◌&&◌, ◌||◌, List, [], ◌∷◌, ◌++◌, map, eqb}
use Rattle.chart_spec.specs.Action.{Action, same}
use Rattle.chart_spec.specs.Chart.{Order, strict, seq, par, Loop, each, head, Chart, empty, act, alt, pair, loop}

-- Terminates: "empty and loops do; an action does not; alt if either side does; the other pairs if both do"
-- (01, How a log is executed; 000, Definition 7).
abbrev pub terminates : Chart → Bool
terminates empty = true
terminates (act a) = false
terminates (alt l r) = terminates l || terminates r
terminates (pair o l r) = terminates l && terminates r
terminates (loop k b) = true

-- Evades lifeline d: "empty and loops do; an action if it is on another lifeline; alt if either does; the other pairs
-- if both do" (01, How a log is executed; 000, Definition 8).
abbrev pub evades : Chart → ℕ → Bool
evades empty d = true
evades (act a) d = not (eqb a.line d)
evades (alt l r) d = evades l d || evades r d
evades (pair o l r) d = evades l d && evades r d
evades (loop k b) d = true

-- What the rules make of a chart: parts kept as they stand, and new nodes. The two are told apart.
pub data Made : Type 0 where
  kept : Chart → Made
  new_empty : Made
  new_alt : Made → Made → Made
  new_pair : Order → Made → Made → Made
  new_loop : Loop → Made → Made

-- The chart that was made.
abbrev pub chart_of : Made → Chart
chart_of (kept c) = c
chart_of new_empty = empty
chart_of (new_alt m n) = alt (chart_of m) (chart_of n)
chart_of (new_pair o m n) = pair o (chart_of m) (chart_of n)
chart_of (new_loop k m) = loop k (chart_of m)

-- The places that it takes. "Every node named by the execution rules takes a new one. .. Parts kept as they stand take
-- none. A part that stands in two places is rebuilt once for each." (01, How a log is executed)
abbrev pub cost_of : Made → ℕ
cost_of (kept c) = 0
cost_of new_empty = 1
cost_of (new_alt m n) = 1 + (cost_of m + cost_of n)
cost_of (new_pair o m n) = 1 + (cost_of m + cost_of n)
cost_of (new_loop k m) = 1 + cost_of m

-- "Alt with one evading side becomes that side pruned; with two, an alt of both pruned."
-- (whether the left and the right evade d; the left and the right pruned)
abbrev pub pruned_alt : Bool → Bool → Made → Made → Made
pruned_alt true true m n = new_alt m n
pruned_alt true false m n = m
pruned_alt false r m n = n

-- "A loop whose body evades d becomes the loop of the pruned body; any other loop becomes empty."
abbrev pub pruned_loop : Bool → Loop → Made → Made
pruned_loop true k m = new_loop k m
pruned_loop false k m = new_empty

-- Pruning by d. Only a chart that evades d is pruned (01, How a log is executed; 000, Definition 10).
unfoldable pub prune : Chart → ℕ → Made
prune empty d = kept empty
prune (act a) d = kept (act a)
prune (alt l r) d = pruned_alt (evades l d) (evades r d) (prune l d) (prune r d)
prune (pair o l r) d = new_pair o (prune l d) (prune r d)
prune (loop k b) d = pruned_loop (evades b d) k (prune b d)

-- Whether the left of a seq lets an action on d pass: if it evades d (01, How a log is executed).
abbrev pub lets_pass : Chart → ℕ → Bool
lets_pass c d = evades c d

-- What the left of a seq becomes when an action on d has passed: it is pruned by d (01, How a log is executed).
abbrev pub passed : Chart → ℕ → Made
passed c d = prune c d

-- The order in which the rounds of a loop follow each other.
abbrev pub between : Loop → Order
between (each o) = o
between head = seq

-- What becomes of the right side's follow-ups xs by an action on d, in a pair with left side l. Strict: "only if the
-- left terminates, and the right's follow-up alone remains"; seq: "only if the left evades d, and the left is pruned by
-- d"; par: the side is replaced.
abbrev pub on_right : Order → Chart → ℕ → List Made → List Made
on_right strict l d xs = cond (terminates l) xs []
on_right seq l d xs = cond (lets_pass l d) (map (new_pair seq (passed l d)) xs) []
on_right par l d xs = map (new_pair par (kept l)) xs

-- The rest of the round that was begun, and the loop itself after it.
abbrev pub begun : Loop → Chart → Made → Made
begun k b x = new_pair (between k) x (kept (loop k b))

-- "A loop whose body executes to x: strict loop gives strict(x, loop); head loop seq(x, loop);
-- parallel loop par(x, loop); weak loop seq(loop pruned by d, seq(x, loop))."
abbrev pub after_round : Loop → Chart → ℕ → Made → Made
after_round (each strict) b d x = begun (each strict) b x
after_round (each seq) b d x = new_pair seq (passed (loop (each seq) b) d) (begun (each seq) b x)
after_round (each par) b d x = begun (each par) b x
after_round head b d x = begun head b x

-- The follow-ups of a chart by an action, occurrences from left to right
-- (01, How a log is executed; 000, Definition 11).
unfoldable pub follows : Chart → Action → List Made
follows empty a = []
follows (act b) a = cond (same a b) (new_empty ∷ []) []
follows (alt l r) a = follows l a ++ follows r a
follows (pair o l r) a = map (λ x. new_pair o x (kept r)) (follows l a) ++ on_right o l a.line (follows r a)
follows (loop k b) a = map (after_round k b a.line) (follows b a)
