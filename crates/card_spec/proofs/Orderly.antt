-- The test of one node decides the table's condition for it. The proof goes by the ranges of the kind number: in each
-- of them the test looks at the two fields a and b, and the condition comes down to those.
-- Assumes nothing.
use Prim.Native.Nat.{ℕ, ◌<◌, ◌≤◌}
use mathlib.Core.Bool.{Bool, true≢false}
use mathlib.Core.Logic.{◌≢◌, ◌⊎◌, inl, inr}
use mathlib.Core.Path.{◌≡◌, sym}
use native.Mathlib.Decide.{dec_le}
use native.Mathlib.Omega.{arith}
use Rattle.node.specs.declared.Node.{Node}
use Rattle.chart_spec.specs.Chart.{Loop}
use Rattle.node_spec.specs.Kind.{Kind, kind_of, Pair}
use Rattle.node_spec.specs.Kind.Kind.{nothing, action, pairs, loops, unknown}
use Rattle.node_spec.proofs.Ranges.{zero_is_nothing, one_and_two_are_actions, three_to_six_are_pairs}
use Rattle.node_spec.proofs.Ranges.{seven_to_ten_are_loops, above_ten_is_unknown}
use Rattle.card_spec.specs.Findings.{in_order, in_order_as}
use Rattle.card_spec.specs.Table.{Fault}
use Rattle.card_spec.proofs.Decided.{Decided, by_eqb, by_ltb, by_both, in_words}

module _ (lifelines messages i : ℕ) (n : Node) (c : ℕ) where
  abbrev AtFault : Type 0
  AtFault = Fault lifelines messages i n.kind n.a n.b c

  -- What is wrong with a node apart from its byte c.
  abbrev Fields : Kind → Type 0
  Fields nothing = n.a ≢ 0 ⊎ n.b ≢ 0
  Fields (action r) = lifelines ≤ n.a ⊎ messages ≤ n.b
  Fields (pairs p) = i ≤ n.a ⊎ i ≤ n.b
  Fields (loops k) = n.b ≢ 0 ⊎ i ≤ n.a
  Fields unknown = Unit

  fields_decided : (k : Kind) → Decided (in_order_as k lifelines messages i n) (Fields k)
  fields_decided nothing = by_both (by_eqb n.a 0) (λ _. by_eqb n.b 0)
  fields_decided (action r) = by_both (by_ltb n.a lifelines) (λ _. by_ltb n.b messages)
  fields_decided (pairs p) = by_both (by_ltb n.a i) (λ _. by_ltb n.b i)
  fields_decided (loops k) = by_both (by_eqb n.b 0) (λ _. by_ltb n.a i)
  fields_decided unknown = record { passes = λ e _. true≢false (sym e); fails = λ e. tt }

  -- With the kind known, the test decides c and the two fields.
  with_kind : (k : Kind) → kind_of n.kind ≡ k → Decided (in_order lifelines messages i n c) (c ≢ 0 ⊎ Fields k)
  with_kind k e = rw e (by_both (by_eqb c 0) (λ _. fields_decided k))

  -- The nine ways to be at fault.
  by_fault :
      {A : Type 0} → (10 < n.kind → A) → (c ≢ 0 → A) → (n.kind ≡ 0 → n.a ≢ 0 → A) → (n.kind ≡ 0 → n.b ≢ 0 → A)
      → (7 ≤ n.kind → n.kind ≤ 10 → n.b ≢ 0 → A) → (1 ≤ n.kind → n.kind ≤ 2 → lifelines ≤ n.a → A)
      → (1 ≤ n.kind → n.kind ≤ 2 → messages ≤ n.b → A) → (3 ≤ n.kind → n.kind ≤ 10 → i ≤ n.a → A)
      → (3 ≤ n.kind → n.kind ≤ 6 → i ≤ n.b → A) → AtFault → A
  by_fault f₁ f₂ f₃ f₄ f₅ f₆ f₇ f₈ f₉ (inl u) = f₁ u
  by_fault f₁ f₂ f₃ f₄ f₅ f₆ f₇ f₈ f₉ (inr (inl (inl h))) = f₂ h
  by_fault f₁ f₂ f₃ f₄ f₅ f₆ f₇ f₈ f₉ (inr (inl (inr (inl (z, inl h))))) = f₃ z h
  by_fault f₁ f₂ f₃ f₄ f₅ f₆ f₇ f₈ f₉ (inr (inl (inr (inl (z, inr h))))) = f₄ z h
  by_fault f₁ f₂ f₃ f₄ f₅ f₆ f₇ f₈ f₉ (inr (inl (inr (inr (l, u, h))))) = f₅ l u h
  by_fault f₁ f₂ f₃ f₄ f₅ f₆ f₇ f₈ f₉ (inr (inr (inl (l, u, inl h)))) = f₆ l u h
  by_fault f₁ f₂ f₃ f₄ f₅ f₆ f₇ f₈ f₉ (inr (inr (inl (l, u, inr h)))) = f₇ l u h
  by_fault f₁ f₂ f₃ f₄ f₅ f₆ f₇ f₈ f₉ (inr (inr (inr (inl (l, u, h))))) = f₈ l u h
  by_fault f₁ f₂ f₃ f₄ f₅ f₆ f₇ f₈ f₉ (inr (inr (inr (inr (l, u, h))))) = f₉ l u h

  -- In each range of kinds the condition comes down to c and the two fields.
  abbrev Same : Kind → Type 0
  Same k = (c ≢ 0 ⊎ Fields k → AtFault) × (AtFault → c ≢ 0 ⊎ Fields k)

  of_nothing : n.kind ≡ 0 → Same nothing
  of_nothing z = (
    there,
    by_fault (λ u. absurd (omega arith)) inl (λ _ h. inr (inl h)) (λ _ h. inr (inr h))
        (λ l u _. absurd (omega arith)) (λ l u _. absurd (omega arith)) (λ l u _. absurd (omega arith))
        (λ l u _. absurd (omega arith)) (λ l u _. absurd (omega arith)),
  )
    where
      there : c ≢ 0 ⊎ Fields nothing → AtFault
      there (inl h) = inr (inl (inl h))
      there (inr f) = inr (inl (inr (inl (z, f))))

  of_an_action : (r : Bool) → 1 ≤ n.kind → n.kind ≤ 2 → Same (action r)
  of_an_action r low high = (
    there,
    by_fault (λ u. absurd (omega arith)) inl (λ z _. absurd (omega arith)) (λ z _. absurd (omega arith))
        (λ l u _. absurd (omega arith)) (λ _ _ h. inr (inl h)) (λ _ _ h. inr (inr h))
        (λ l u _. absurd (omega arith)) (λ l u _. absurd (omega arith)),
  )
    where
      there : c ≢ 0 ⊎ Fields (action r) → AtFault
      there (inl h) = inr (inl (inl h))
      there (inr f) = inr (inr (inl (low, high, f)))

  of_a_pair : (p : Pair) → 3 ≤ n.kind → n.kind ≤ 6 → Same (pairs p)
  of_a_pair p low high = (
    there,
    by_fault (λ u. absurd (omega arith)) inl (λ z _. absurd (omega arith)) (λ z _. absurd (omega arith))
        (λ l u _. absurd (omega arith)) (λ l u _. absurd (omega arith)) (λ l u _. absurd (omega arith))
        (λ _ _ h. inr (inl h)) (λ _ _ h. inr (inr h)),
  )
    where
      there : c ≢ 0 ⊎ Fields (pairs p) → AtFault
      there (inl h) = inr (inl (inl h))
      there (inr (inl h)) = inr (inr (inr (inl (low, omega arith, h))))
      there (inr (inr h)) = inr (inr (inr (inr (low, high, h))))

  of_a_loop : (k : Loop) → 7 ≤ n.kind → n.kind ≤ 10 → Same (loops k)
  of_a_loop k low high = (
    there,
    by_fault (λ u. absurd (omega arith)) inl (λ z _. absurd (omega arith)) (λ z _. absurd (omega arith))
        (λ _ _ h. inr (inl h)) (λ l u _. absurd (omega arith)) (λ l u _. absurd (omega arith))
        (λ _ _ h. inr (inr h)) (λ l u _. absurd (omega arith)),
  )
    where
      there : c ≢ 0 ⊎ Fields (loops k) → AtFault
      there (inl h) = inr (inl (inl h))
      there (inr (inl h)) = inr (inl (inr (inr (low, high, h))))
      there (inr (inr h)) = inr (inr (inr (inl (omega arith, high, h))))

  of_the_unknown : 10 < n.kind → Same unknown
  of_the_unknown low = (λ _. inl low, λ _. inr tt)

  told_of : (k : Kind) → kind_of n.kind ≡ k → Same k → Decided (in_order lifelines messages i n c) AtFault
  told_of k e (there, back) = in_words there back (with_kind k e)

  -- The test decides the condition.
  pub order_decided : Decided (in_order lifelines messages i n c) AtFault
  order_decided = by (dec_le 1 n.kind) (dec_le n.kind 2) (dec_le n.kind 6) (dec_le n.kind 10)
    where
      by :
          Dec (1 ≤ n.kind) → Dec (n.kind ≤ 2) → Dec (n.kind ≤ 6) → Dec (n.kind ≤ 10)
          → Decided (in_order lifelines messages i n c) AtFault
      by (no h) x y z = told_of nothing (zero_is_nothing n.kind (omega arith)) (of_nothing (omega arith))
      by (yes h) (yes x) y z =
          let (r, e) = one_and_two_are_actions n.kind h x in told_of (action r) e (of_an_action r h x)
      by (yes h) (no x) (yes y) z =
          let (p, e) = three_to_six_are_pairs n.kind (omega arith) y in told_of (pairs p) e
          (of_a_pair p (omega arith) y)
      by (yes h) (no x) (no y) (yes z) =
          let (k, e) = seven_to_ten_are_loops n.kind (omega arith) z in told_of (loops k) e
          (of_a_loop k (omega arith) z)
      by (yes h) (no x) (no y) (no z) =
          told_of unknown (above_ten_is_unknown n.kind (omega arith)) (of_the_unknown (omega arith))
