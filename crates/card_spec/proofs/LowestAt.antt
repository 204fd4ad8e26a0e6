-- The lowest node that does not pass a test, where the test decides each node's condition.
-- By induction on how many nodes were looked at.
-- Assumes nothing.
use Prim.Native.Nat.{ℕ, zero, suc, ◌<◌}
use mathlib.Core.Bool.{Bool, true, false}
use mathlib.Core.Path.{◌≡◌, refl}
use native.Mathlib.Decide.{ℕ_discrete}
use native.Mathlib.Omega.{arith}
use Rattle.std.specs.Prelude.{Ok, Err}
use Rattle.number_spec.specs.declared.Refusal.{Refusal}
use Rattle.card_spec.specs.Findings.{lowest}
use Rattle.card_spec.specs.Table.{Lowest}
use Rattle.card_spec.proofs.Decided.{Decided, if_not, if_so}
use Rattle.card_spec.proofs.Lowest.{found_here, none→fine}

module _ (refusal : ℕ → Refusal) (ok : ℕ → Bool) (At : ℕ → Type 0) where
  -- If no node meets its condition, nothing is found.
  pub no_fault→fine : (n : ℕ) → ((i : ℕ) → i < n → Decided (ok i) (At i)) → ((i : ℕ) → i < n → ¬ At i)
      → lowest ok refusal n ≡ Ok tt
  no_fault→fine n d none = none→fine ok refusal n (λ i h. if_not (d i h) (none i h))

  -- The lowest node that meets its condition is found.
  pub lowest→refused :
      (n p : ℕ) → ((i : ℕ) → i < n → Decided (ok i) (At i)) → Lowest At n p
      → lowest ok refusal n ≡ Err (refusal p)
  lowest→refused n p d l =
      let below : (i : ℕ) → i < p → i < n = λ i h. omega (arith, l.inside) in
      found_here ok refusal p n l.inside (no_fault→fine p (λ i h. d i (below i h)) l.none_lower)
      (if_so (d p l.inside) l.here)

  -- One of the two holds.
  pub data Looked (n : ℕ) : Type 0 where
    nowhere : lowest ok refusal n ≡ Ok tt → ((i : ℕ) → i < n → ¬ At i) → Looked n
    somewhere : (p : ℕ) → lowest ok refusal n ≡ Err (refusal p) → Lowest At n p → Looked n

  pub look : (n : ℕ) → ((i : ℕ) → i < n → Decided (ok i) (At i)) → Looked n
  look zero d = nowhere refl (λ i h. absurd (omega arith))
  look (suc n) d = more (look n (λ i h. d i (omega arith))) (ok n) refl
    where
      more : Looked n → (b : Bool) → ok n ≡ b → Looked (suc n)
      more (somewhere p e l) b eb =
          somewhere p (rw e) (record { inside = omega (arith, l.inside); here = l.here; none_lower = l.none_lower })
      more (nowhere e none) true eb =
          nowhere (rw (e, eb)) (λ i h. last i h (ℕ_discrete i n))
        where
          last : (i : ℕ) → i < suc n → Dec (i ≡ n) → ¬ At i
          last i h (yes same) = rw same ((d n (omega arith)).passes eb)
          last i h (no other) = none i (omega arith)
      more (nowhere e none) false eb =
          somewhere n (rw (e, eb))
          (record { inside = omega arith; here = (d n (omega arith)).fails eb; none_lower = none })
