-- The lowest node that does not pass a test is the first that a search from node 0 on finds.
-- All by induction on how many nodes were looked at.
-- Assumes nothing.
use Prim.Native.Nat.{ℕ, zero, suc, ◌<◌, ◌≤◌}
use mathlib.Core.Bool.{Bool, true, false}
use mathlib.Core.Path.{◌≡◌, refl}
use native.Mathlib.Decide.{ℕ_discrete}
use native.Mathlib.Omega.{arith}
use Rattle.std.specs.Prelude.{Result, Ok, Err, Option, Some, None, MatchOption, option_map, unwrap_or}
use Rattle.number_spec.specs.declared.Refusal.{Refusal}
use Rattle.number_spec.specs.Refusals.{rule}
use Rattle.card_spec.specs.Findings.{or_else, lowest}

-- A rule does not refuse only if it holds.
pub holds→ : (refusal : Refusal) (holds : Bool) → rule refusal holds ≡ Ok tt → holds ≡ true
holds→ refusal true h = refl
holds→ refusal false h = cc

-- The first refusal of two findings is none only if neither refuses.
pub or_fine→ : (f g : Result Unit Refusal) → or_else f g ≡ Ok tt → (f ≡ Ok tt) × (g ≡ Ok tt)
or_fine→ (Ok u) g h = (refl, h)
or_fine→ (Err refusal) g h = (h, cc)

-- What a search finds among the first n: the first that does not pass, or that there is none.
abbrev pub First : (ℕ → Bool) → ℕ → Option ℕ → Type 0
First passes n first =
    MatchOption first ((k : ℕ) → 0 ≤ k → k < n → passes k ≡ true)
    (λ i. (0 ≤ i) × (i < n) × (passes i ≡ false) × ((k : ℕ) → 0 ≤ k → k < i → passes k ≡ true))

module _ (passes : ℕ → Bool) (refusal : ℕ → Refusal) where
  -- All nodes so far pass, and this one does not.
  pub found_here :
      (i n : ℕ) → i < n → lowest passes refusal i ≡ Ok tt → passes i ≡ false
      → lowest passes refusal n ≡ Err (refusal i)
  found_here i zero l h e = absurd (omega arith)
  found_here i (suc n) l h e = last (ℕ_discrete i n) (λ k. found_here i n k h e)
    where
      last :
          Dec (i ≡ n) → (i < n → lowest passes refusal n ≡ Err (refusal i))
          → or_else (lowest passes refusal n) (rule (refusal n) (passes n)) ≡ Err (refusal i)
      last (yes same) before = rw (← same, h, e)
      last (no other) before = rw (before (omega arith))

  -- If every node passes, nothing is found,
  pub none→fine : (n : ℕ) → ((i : ℕ) → i < n → passes i ≡ true) → lowest passes refusal n ≡ Ok tt
  none→fine zero none = refl
  none→fine (suc n) none = rw (none→fine n (λ i h. none i (omega arith)), none n (omega arith))

  -- and nothing is found only then.
  pub fine→none : (n : ℕ) → lowest passes refusal n ≡ Ok tt → (i : ℕ) → i < n → passes i ≡ true
  fine→none zero h i l = absurd (omega arith)
  fine→none (suc n) h i l =
      let (before, here) = or_fine→ (lowest passes refusal n) (rule (refusal n) (passes n)) h in
      last (ℕ_discrete i n) here (λ k. fine→none n before i k)
    where
      last : Dec (i ≡ n) → rule (refusal n) (passes n) ≡ Ok tt → (i < n → passes i ≡ true) → passes i ≡ true
      last (yes same) here before = rw same (holds→ (refusal n) (passes n) here)
      last (no other) here before = before (omega arith)

  -- So what a search finds is the lowest.
  pub first_is_lowest :
      (n : ℕ) (first : Option ℕ) → First passes n first
      → lowest passes refusal n ≡ unwrap_or (option_map (λ i. Err (refusal i)) first) (Ok tt)
  first_is_lowest n None all = none→fine n (λ i h. all i (omega arith) h)
  first_is_lowest n (Some i) (low, inside, fails, before) =
      found_here i n inside (none→fine i (λ k h. before k (omega arith) h)) fails
