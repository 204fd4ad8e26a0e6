-- Once a log deviates, a longer log changes nothing: the search never comes to the part that was added.
--
-- By induction on the log. If the deepest opening over all choices ends before the log does, then so does that of each
-- choice, and the search looks at nothing beyond it.
-- Assumes nothing.
use Prim.Native.Nat.{ℕ, suc, ◌+◌, ◌≤◌, ◌<◌, max, suc-le-suc}
use native.Mathlib.Nat.{not-suc-le-zero, le_of_suc-le-suc, le_trans, le-max_left, le-max_right, le-add_right}
use mathlib.Core.Bool.{Bool, true, false, cond}
use mathlib.Core.List.{List, [], ◌∷◌, ◌++◌}
use mathlib.Core.Path.{◌≡◌, refl, sym, ap, ap₂, ◌∙◌, subst}
use lib.Dec.{leb, ltb, lt→ltb}
use lib.ListN.{length, length-append}
use Rattle.chart_spec.specs.Action.{Log}
use Rattle.chart_spec.specs.Chart.{Chart, size}
use Rattle.chart_spec.specs.Executing.{Made, chart_of, cost_of, terminates, follows}
use Rattle.chart_spec.specs.Searching.{Outcome, accepted, refused, step, tries, explore, searched}
use Rattle.chart_spec.specs.Lending.{Answer, Ending, failed, follow_up, unaccepted, halted, told, answer}
use Rattle.chart_spec.proofs.Tests.{passes}
use Rattle.chart_spec.proofs.Walking.{spend, spent, answer_is_spent}

-- The search refused before it got through n actions.
abbrev pub Deviates : ℕ → Outcome → Type 0
Deviates n (accepted run) = ⊥
Deviates n (refused deepest run) = deepest < n

step_deviates : (n m : ℕ) (first rest : Outcome) → Deviates (suc n) (step m first rest)
    → Deviates n first × Deviates (suc n) rest
step_deviates n m (refused d run) (refused e more) h = (
  le_of_suc-le-suc (le_trans (suc-le-suc (le-max_left (suc d) e)) h),
  le_trans (suc-le-suc (le-max_right (suc d) e)) h,
)
step_deviates n m (accepted run) rest h = absurd h
step_deviates n m (refused d run) (accepted more) h = absurd h

tries_extend : (go on : Chart → ℕ → Outcome) (n used : ℕ) (xs : List Made)
    → ((x : Chart) (m : ℕ) → Deviates n (go x m) → on x m ≡ go x m) → Deviates (suc n) (tries go used xs)
    → tries on used xs ≡ tries go used xs
unfolding tries
tries_extend go on n used [] f h = refl
tries_extend go on n used (x ∷ xs) f h =
    let m = used + cost_of x in
    let (p, q) = step_deviates n m (go (chart_of x) m) (tries go used xs) h in
    ap₂ (step m) (f (chart_of x) m p) (tries_extend go on n used xs f q)

pub explore_extends : (t u : Log) (c : Chart) (used : ℕ) → Deviates (length t) (explore t c used)
    → explore (t ++ u) c used ≡ explore t c used
unfolding explore
explore_extends [] u c used h = absurd (at_end_deviates_never (terminates c) h)
  where
    at_end_deviates_never : (p : Bool) → Deviates 0 (cond p (accepted []) (refused 0 [])) → ⊥
    at_end_deviates_never true h = h
    at_end_deviates_never false h = not-suc-le-zero h
explore_extends (a ∷ t) u c used h =
    tries_extend (λ x n. explore t x n) (λ x n. explore (t ++ u) x n) (length t) used (follows c a)
    (explore_extends t u) h

-- ---- the answer

-- the number for a log that deviates does not depend on how long the log is
unaccepted_extends : (d long more : ℕ) → d < long → long ≤ more → unaccepted (ltb d more) ≡ unaccepted (ltb d long)
unaccepted_extends d long more h g =
    ap unaccepted (passes (ltb d more) (lt→ltb d more (le_trans h g)) ∙ sym (passes (ltb d long) (lt→ltb d long h)))

told_extends : (d long more : ℕ) → d < long → long ≤ more → (s p : ℕ) → told more (failed d s p)
    ≡ told long (failed d s p)
told_extends d long more h g s p =
    ap (λ (n : ℕ). record { number = n; place = d; steps = s; places = p }) (unaccepted_extends d long more h g)

module _ (allowance room long more : ℕ) where
  -- an ending that gives the same answer for both lengths
  abbrev ToldAlike : Ending → Type 0
  ToldAlike w = told more w ≡ told long w

  next_extends : (b e : Bool) (n : ℕ) (on : ℕ → ℕ → Ending) → ((s p : ℕ) → ToldAlike (on s p)) → (s p : ℕ)
      → ToldAlike (follow_up b e n on s p)
  next_extends true e n on h s p = refl
  next_extends false true n on h s p = refl
  next_extends false false n on h s p = h (suc s) (max p n)

  spend_extends : (run : List ℕ) (on : ℕ → ℕ → Ending) → ((s p : ℕ) → ToldAlike (on s p)) → (s p : ℕ)
      → ToldAlike (spend allowance room run on s p)
  unfolding spend
  spend_extends [] on h s p = h s p
  spend_extends (n ∷ run) on h s p =
      next_extends (leb allowance s) (ltb room n) n (spend allowance room run on) (spend_extends run on h) s p

  spent_extends : (o : Outcome) → Deviates long o → long ≤ more → (s p : ℕ) → ToldAlike (spent allowance room o s p)
  spent_extends (refused d run) h g = spend_extends run (failed d) (told_extends d long more h g)
  spent_extends (accepted run) h g = absurd h

-- A log that deviates and every longer log that begins with it get the same answer, from every lending.
pub answer_extends : (c : Chart) (t u : Log) (allowance room : ℕ) → Deviates (length t) (searched c t)
    → answer c (t ++ u) allowance room ≡ answer c t allowance room
answer_extends c t u allowance room h =
    let longer = subst (λ (n : ℕ). length t ≤ n) (sym (length-append t u)) (le-add_right (length t) (length u)) in
    let fits : Answer → Answer = cond (ltb room (size c)) (halted 10 0 0) in
    answer_is_spent c (t ++ u) allowance room
    ∙ ap (λ (o : Outcome). fits (told (length (t ++ u)) (spent allowance room o 0 (size c))))
    (explore_extends t u c (size c) h)
    ∙ ap fits (spent_extends allowance room (length t) (length (t ++ u)) (searched c t) h longer 0 (size c))
    ∙ sym (answer_is_spent c t allowance room)
