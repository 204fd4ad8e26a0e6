-- A search under a lending gets no deeper into a log than the log is long.
-- By induction on the log and on the choices.
-- Assumes nothing.
use Prim.Native.Nat.{ℕ, suc, ◌+◌, ◌≤◌}
use mathlib.Core.Bool.{Bool, true, false, cond}
use mathlib.Core.List.{List, [], ◌∷◌}
use native.Mathlib.Omega.{arith}
use lib.Dec.{leb, ltb}
use lib.ListN.{length}
use Rattle.chart_spec.specs.Action.{Log}
use Rattle.chart_spec.specs.Chart.{Chart}
use Rattle.chart_spec.specs.Executing.{Made, chart_of, cost_of, terminates, follows}
use Rattle.chart_spec.specs.Lending.{Ending, follow_up, deepened, or_next, attempts, walk}
use Rattle.chart_spec.specs.Lending.Ending.{found, failed, stopped}

-- If every choice failed, at most n actions were executed on one path.
abbrev pub Within : ℕ → Ending → Type 0
Within n (found steps places) = Unit
Within n (failed deepest steps places) = deepest ≤ n
Within n (stopped number steps places) = Unit

pub follow_up_within : (m : ℕ) (b e : Bool) (n : ℕ) (on : ℕ → ℕ → Ending) (s p : ℕ) → ((s p : ℕ) → Within m (on s p))
    → Within m (follow_up b e n on s p)
follow_up_within m true e n on s p h = tt
follow_up_within m false true n on s p h = tt
follow_up_within m false false n on s p h = h (suc s) _

deepened_within : (m d : ℕ) (e : Ending) → d ≤ m → Within m e → Within m (deepened d e)
deepened_within m d (found s p) h w = tt
deepened_within m d (failed deepest s p) h w = omega arith
deepened_within m d (stopped number s p) h w = tt

or_next_within : (m : ℕ) (e : Ending) (next : ℕ → ℕ → Ending) → Within m e
    → ((s p : ℕ) → Within (suc m) (next s p)) → Within (suc m) (or_next e next)
or_next_within m (found s p) next w h = tt
or_next_within m (failed deepest s p) next w h = deepened_within (suc m) (suc deepest) (next s p) (omega arith) (h s p)
or_next_within m (stopped number s p) next w h = tt

at_end_within : (b : Bool) (s p : ℕ) → Within 0 (cond b (found s p) (failed 0 s p))
at_end_within true s p = tt
at_end_within false s p = omega arith

module _ (allowance room : ℕ) where
  attempts_within : (m : ℕ) (go : Chart → ℕ → ℕ → ℕ → Ending)
      → ((x : Chart) (n s p : ℕ) → Within m (go x n s p)) → (used : ℕ) (xs : List Made) (s p : ℕ)
      → Within (suc m) (attempts allowance room go used xs s p)
  unfolding attempts
  attempts_within m go h used [] s p = omega arith
  attempts_within m go h used (x ∷ xs) s p =
      let n = used + cost_of x in
      follow_up_within (suc m) (leb allowance s) (ltb room n) n
      (λ s p. or_next (go (chart_of x) n s p) (λ s p. attempts allowance room go used xs s p)) s p
      (λ s p.
      or_next_within m (go (chart_of x) n s p) (λ s p. attempts allowance room go used xs s p) (h (chart_of x) n s p)
      (attempts_within m go h used xs))

  pub walk_within : (t : Log) (c : Chart) (used s p : ℕ) → Within (length t) (walk allowance room t c used s p)
  unfolding walk
  walk_within [] c used s p = at_end_within (terminates c) s p
  walk_within (a ∷ t) c used s p =
      attempts_within (length t) (λ x n s p. walk allowance room t x n s p) (walk_within t) used (follows c a) s p
