-- How deep a chart grows while a log is executed. Count a loop as two levels and any other node as one: pruning makes
-- no chart deeper in this count, and a follow-up is at most two levels deeper than its chart. A chart has fewer levels
-- than twice its depth, and no fewer than its depth; so each action adds at most two to twice the depth.
-- Assumes nothing.
use Prim.Native.Nat.{ℕ, ◌+◌, ◌*◌, max, ◌<◌, ◌≤◌}
use native.Mathlib.Omega.{arith}
use mathlib.Core.List.{List, [], ◌∷◌, map}
use mathlib.Core.Path.{◌≡◌, subst, sym}
use lib.ListN.{length, get_or}
use Rattle.chart_spec.specs.Action.{Action, Log, Every, same}
use Rattle.chart_spec.specs.Chart.{
  Order,
  strict,
  seq,
  par,
  Loop,
  each,
  head,
  Chart,
  empty,
  act,
  alt,
  pair,
  loop,
  depth,
}
use Rattle.chart_spec.specs.Executing.{Made, kept, new_empty, new_pair, chart_of}
use Rattle.chart_spec.specs.Executing.{terminates, evades, prune, on_right, after_round, follows}
use Rattle.chart_spec.proofs.Shrinking.{Grows, pruned_no_greater}
use Rattle.chart_spec.proofs.Each.{every_map, every_implies, every_append, every_if, every_at}

-- The depth, with a loop counted as two levels.
abbrev pub levels : Chart → ℕ
levels empty = 1
levels (act a) = 1
levels (alt l r) = 1 + max (levels l) (levels r)
levels (pair o l r) = 1 + max (levels l) (levels r)
levels (loop k b) = 2 + levels b

pub no_deeper_than_its_levels : (c : Chart) → depth c ≤ levels c
no_deeper_than_its_levels empty = omega arith
no_deeper_than_its_levels (act a) = omega arith
no_deeper_than_its_levels (alt l r) = omega (arith, no_deeper_than_its_levels l, no_deeper_than_its_levels r)
no_deeper_than_its_levels (pair o l r) = omega (arith, no_deeper_than_its_levels l, no_deeper_than_its_levels r)
no_deeper_than_its_levels (loop k b) = omega (arith, no_deeper_than_its_levels b)

pub fewer_levels_than_twice_the_depth : (c : Chart) → levels c < 2 * depth c
fewer_levels_than_twice_the_depth empty = omega arith
fewer_levels_than_twice_the_depth (act a) = omega arith
fewer_levels_than_twice_the_depth (alt l r) =
    omega (arith, fewer_levels_than_twice_the_depth l, fewer_levels_than_twice_the_depth r)
fewer_levels_than_twice_the_depth (pair o l r) =
    omega (arith, fewer_levels_than_twice_the_depth l, fewer_levels_than_twice_the_depth r)
fewer_levels_than_twice_the_depth (loop k b) = omega (arith, fewer_levels_than_twice_the_depth b)

-- The levels of what was made.
abbrev made : Made → ℕ
made m = levels (chart_of m)

levels_grow : Grows levels
levels_grow =
    record {
      left = λ l r. omega arith;
      right = λ l r. omega arith;
      none = λ k b. omega arith;
      alts = λ l r m n hl hr. omega arith;
      pairs = λ o l r m n hl hr. omega arith;
      loops = λ k b m h. omega arith;
    }

-- Pruning adds no level.
pub pruning_adds_no_level : (c : Chart) (d : ℕ) → levels (chart_of (prune c d)) ≤ levels c
pruning_adds_no_level = pruned_no_greater levels levels_grow

-- At most n levels; and so for each of the follow-ups.
abbrev AtMost : ℕ → Made → Type 0
AtMost n x = made x ≤ n

abbrev Within : ℕ → List Made → Type 0
Within n xs = Every (AtMost n) xs

within_more : (m n : ℕ) → m ≤ n → (xs : List Made) → Within m xs → Within n xs
within_more m n more xs h = every_implies (AtMost m) (AtMost n) (λ x hx. omega arith) xs h

-- The follow-ups on the right of a pair.
on_right_within :
    (o : Order) (l : Chart) (d n : ℕ) (xs : List Made) → levels l ≤ n → Within n xs → Within (1 + n) (on_right o l d xs)
on_right_within strict l d n xs h hs =
    every_if (AtMost (1 + n)) (terminates l) xs (within_more n (1 + n) (omega arith) xs hs)
on_right_within seq l d n xs h hs =
    every_if (AtMost (1 + n)) (evades l d) (map (new_pair seq (prune l d)) xs)
    (every_map (AtMost n) (AtMost (1 + n)) (new_pair seq (prune l d))
    (λ x hx. omega (arith, pruning_adds_no_level l d)) xs hs)
on_right_within par l d n xs h hs =
    every_map (AtMost n) (AtMost (1 + n)) (new_pair par (kept l)) (λ x hx. omega arith) xs hs

-- The follow-ups of a loop.
after_round_within :
    (k : Loop) (b : Chart) (d : ℕ) (x : Made) → made x ≤ 2 + levels b
    → made (after_round k b d x) ≤ 2 + levels (loop k b)
after_round_within (each strict) b d x h = omega arith
after_round_within (each seq) b d x h = omega (arith, pruning_adds_no_level (loop (each seq) b) d)
after_round_within (each par) b d x h = omega arith
after_round_within head b d x h = omega arith

-- A follow-up is at most two levels deeper than its chart.
pub two_levels_deeper : (c : Chart) (a : Action) → Within (2 + levels c) (follows c a)
unfolding follows
two_levels_deeper empty a = tt
two_levels_deeper (act b) a = every_if (AtMost 3) (same a b) (new_empty ∷ []) (omega arith, tt)
two_levels_deeper (alt l r) a =
    let n = 2 + levels (alt l r) in
    every_append (AtMost n) (follows l a) (follows r a)
    (within_more (2 + levels l) n (omega arith) (follows l a) (two_levels_deeper l a))
    (within_more (2 + levels r) n (omega arith) (follows r a) (two_levels_deeper r a))
two_levels_deeper (pair o l r) a =
    let m = 2 + max (levels l) (levels r) in
    let n = 2 + levels (pair o l r) in
    let lefts = map (λ x. new_pair o x (kept r)) (follows l a) in
    let rights = on_right o l a.line (follows r a) in
    every_append (AtMost n) lefts rights
    (every_map (AtMost (2 + levels l)) (AtMost n) (λ x. new_pair o x (kept r)) (λ x h. omega arith) (follows l a)
    (two_levels_deeper l a))
    (within_more (1 + m) n (omega arith) rights
    (on_right_within o l a.line m (follows r a) (omega arith)
    (within_more (2 + levels r) m (omega arith) (follows r a) (two_levels_deeper r a))))
two_levels_deeper (loop k b) a =
    every_map (AtMost (2 + levels b)) (AtMost (2 + levels (loop k b))) (after_round k b a.line)
    (after_round_within k b a.line)
    (follows b a) (two_levels_deeper b a)

-- x is a chart that is left of c when the log has been executed on c, by some occurrence of each action.
abbrev pub LeftBy : Chart → Log → Chart → Type 0
LeftBy c [] x = x ≡ c
LeftBy c (a ∷ t) x =
    (k : ℕ) × (k < length (follows c a)) × LeftBy (chart_of (get_or (follows c a) k new_empty)) t x

left_within : (t : Log) (c x : Chart) → LeftBy c t x → levels x ≤ levels c + 2 * length t
left_within [] c x e = subst (λ y. levels y ≤ levels c + 2 * 0) (sym e) (omega arith)
left_within (a ∷ t) c x (k, inside, rest) =
    let y = chart_of (get_or (follows c a) k new_empty) in
    omega (
      arith,
      left_within t y x rest,
      every_at (AtMost (2 + levels c)) (follows c a) k new_empty (two_levels_deeper c a) inside,
    )

-- Each action adds at most two to twice the depth: after 128 of them a chart 16 deep is at most 287 deep.
pub how_deep_a_chart_grows : (c : Chart) (t : Log) (x : Chart) → LeftBy c t x → depth x < 2 * depth c + 2 * length t
how_deep_a_chart_grows c t x left =
    omega (arith, no_deeper_than_its_levels x, fewer_levels_than_twice_the_depth c, left_within t c x left)

pub at_most_287_deep :
    (c : Chart) (t : Log) (x : Chart) → depth c ≤ 16 → length t ≤ 128 → LeftBy c t x → depth x ≤ 287
at_most_287_deep c t x shallow short left = omega (arith, how_deep_a_chart_grows c t x left)
