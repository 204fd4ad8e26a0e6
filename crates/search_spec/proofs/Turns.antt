-- The choices of a search one after another, from some number on: none is left, or one and those after it.
-- Assumes nothing.
use Prim.Native.Nat.{ℕ, suc, ◌+◌, max, ◌<◌, ◌≤◌}
use mathlib.Core.List.{List}
use mathlib.Core.Path.{◌≡◌, refl, sym, ap}
use native.Mathlib.Omega.{arith}
use lib.Dec.{leb, ltb}
use lib.ListN.{length, get_or, drop, drop_of_length-le}
use lib.Seq.{drop-cons}
use Rattle.chart_spec.specs.Chart.{Chart}
use Rattle.chart_spec.specs.Executing.{Made, chart_of, cost_of}
use Rattle.chart_spec.specs.Executing.Made.{new_empty}
use Rattle.chart_spec.specs.Lending.{Ending, follow_up, deepened, or_next, attempts}
use Rattle.chart_spec.specs.Lending.Ending.{found, failed, stopped}
use Rattle.chart_spec.proofs.Walking.{follow_up_then}

module _ (allowance room : ℕ) (go : Chart → ℕ → ℕ → ℕ → Ending) (used : ℕ) (xs : List Made) where
  -- The choices from number k on.
  abbrev pub from : ℕ → ℕ → ℕ → Ending
  from k s p = attempts allowance room go used (drop k xs) s p

  -- Choice k, tried.
  abbrev pub tried : ℕ → ℕ → ℕ → Ending
  tried k s p =
      let x = get_or xs k new_empty in
      let n = used + cost_of x in
      follow_up (leb allowance s) (ltb room n) n (go (chart_of x) n) s p

  pub none_left : (k : ℕ) → length xs ≤ k → (s p : ℕ) → from k s p ≡ failed 0 s p
  unfolding attempts
  none_left k h s p = rw (drop_of_length-le xs h)

  pub one_left : (k : ℕ) → k < length xs → (s p : ℕ) → from k s p ≡ or_next (tried k s p) (from (suc k))
  unfolding attempts
  one_left k h s p =
      let x = get_or xs k new_empty in
      let n = used + cost_of x in
      rw (drop-cons xs k new_empty h)
      (sym
      (follow_up_then (λ w. or_next w (from (suc k))) (λ number s p. refl) (leb allowance s) (ltb room n) n
      (go (chart_of x) n) s p))

-- An opening of no actions deepens nothing.
pub deepened_not : (e : Ending) → deepened 0 e ≡ e
deepened_not (found s p) = refl
deepened_not (failed d s p) = ap (λ n. failed n s p) (omega arith)
deepened_not (stopped number s p) = refl

-- Two openings deepen as the longer one does.
pub deepened_twice : (d e : ℕ) (w : Ending) → deepened d (deepened e w) ≡ deepened (max d e) w
deepened_twice d e (found s p) = refl
deepened_twice d e (failed deepest s p) = ap (λ n. failed n s p) (omega arith)
deepened_twice d e (stopped number s p) = refl
