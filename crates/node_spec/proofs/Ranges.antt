-- Which kind a number is, by the ranges that the code tests: 0; 1 and 2; 3 to 6, the pairs; 7 to 10, the loops; above
-- 10. Each range is a part of the table of kinds.
-- Assumes nothing.
use Prim.Native.Nat.{ℕ, zero, suc, ◌+◌, ◌-◌, ◌≤◌, ◌<◌}
use mathlib.Core.Bool.{Bool, true, false}
use mathlib.Core.List.{List, [], ◌∷◌, map}
use mathlib.Core.Path.{◌≡◌, refl, ap, sym, ◌∙◌}
use native.Mathlib.Decide.{dec_le}
use native.Mathlib.Omega.{arith}
use lib.ListN.{length, get_or, take, drop, get_or-eq_default}
use lib.Seq.{get_or-take, get_or-drop}
use Rattle.chart_spec.specs.Chart.{Order, Loop}
use Rattle.chart_spec.specs.Chart.Order.{strict, seq, par}
use Rattle.chart_spec.specs.Chart.Loop.{each, head}
use Rattle.node.specs.declared.Node.{Node}
use Rattle.node_spec.specs.Row.{children, Below}
use Rattle.node_spec.specs.Kind.{Kind, kind_of, all_kinds, Pair}
use Rattle.node_spec.specs.Kind.Pair.{composed, choice}
use Rattle.node_spec.specs.Kind.Kind.{nothing, action, pairs, loops, unknown}

member : {A : Type 0} (C : A → Kind) (xs : List A) (j : ℕ) → j < length xs
    → (x : A) × (get_or (map C xs) j unknown ≡ C x)
member C [] j h = absurd (omega arith)
member C (x ∷ xs) zero h = (x, refl)
member C (x ∷ xs) (suc j) h = member C xs j (omega arith)

-- The kinds from number `low` on are those listed.
listed :
    {A : Type 0} (C : A → Kind) (xs : List A) (low : ℕ) → take (length xs) (drop low all_kinds) ≡ map C xs
    → (k : ℕ) → low ≤ k → k < low + length xs → (x : A) × (kind_of k ≡ C x)
unfolding kind_of
listed C xs low part k from to =
    let j = k - low in
    let same : k ≡ low + j = omega arith in
    let (x, e) = member C xs j (omega arith) in (
      x,
      ap (λ n. get_or all_kinds n unknown) same ∙ sym (get_or-drop low all_kinds j unknown)
          ∙ sym (get_or-take (length xs) (drop low all_kinds) j unknown (omega arith))
          ∙ ap (λ l. get_or l j unknown) part
          ∙ e,
    )

pub zero_is_nothing : (k : ℕ) → k ≡ 0 → kind_of k ≡ nothing
unfolding kind_of
zero_is_nothing k e = rw e

pub one_and_two_are_actions : (k : ℕ) → 1 ≤ k → k ≤ 2 → (r : Bool) × (kind_of k ≡ action r)
one_and_two_are_actions k low high = listed action (false ∷ true ∷ []) 1 refl k low (omega arith)

pub three_to_six_are_pairs : (k : ℕ) → 3 ≤ k → k ≤ 6 → (p : Pair) × (kind_of k ≡ pairs p)
three_to_six_are_pairs k low high =
    listed pairs (composed strict ∷ composed seq ∷ composed par ∷ choice ∷ []) 3 refl k low (omega arith)

pub three_to_five_are_orders : (k : ℕ) → 3 ≤ k → k ≤ 5 → (o : Order) × (kind_of k ≡ pairs (composed o))
three_to_five_are_orders k low high =
    listed (λ o. pairs (composed o)) (strict ∷ seq ∷ par ∷ []) 3 refl k low (omega arith)

pub strict_is_three : kind_of 3 ≡ pairs (composed strict)
unfolding kind_of
strict_is_three = refl

pub seq_is_four : kind_of 4 ≡ pairs (composed seq)
unfolding kind_of
seq_is_four = refl

pub par_is_five : kind_of 5 ≡ pairs (composed par)
unfolding kind_of
par_is_five = refl

pub six_is_the_choice : (k : ℕ) → k ≡ 6 → kind_of k ≡ pairs choice
unfolding kind_of
six_is_the_choice k e = rw e

pub seven_to_ten_are_loops : (k : ℕ) → 7 ≤ k → k ≤ 10 → (l : Loop) × (kind_of k ≡ loops l)
seven_to_ten_are_loops k low high =
    listed loops (each strict ∷ head ∷ each seq ∷ each par ∷ []) 7 refl k low (omega arith)

pub weak_is_nine : kind_of 9 ≡ loops (each seq)
unfolding kind_of
weak_is_nine = refl

pub above_ten_is_unknown : (k : ℕ) → 11 ≤ k → kind_of k ≡ unknown
unfolding kind_of
above_ten_is_unknown k h = get_or-eq_default all_kinds unknown h

-- The children of a node, by the ranges.
module _ (n : Node) where
  pub children_of_a_leaf : n.kind ≤ 2 → children n ≡ []
  children_of_a_leaf high = by (dec_le 1 n.kind)
    where
      by : Dec (1 ≤ n.kind) → children n ≡ []
      by (yes low) = let (r, e) = one_and_two_are_actions n.kind low high in rw e
      by (no none) = rw (zero_is_nothing n.kind (omega arith))

  pub children_of_a_pair : 3 ≤ n.kind → n.kind ≤ 6 → children n ≡ n.a ∷ n.b ∷ []
  children_of_a_pair low high = let (p, e) = three_to_six_are_pairs n.kind low high in rw e

  pub children_of_a_loop : 7 ≤ n.kind → n.kind ≤ 10 → children n ≡ n.a ∷ []
  children_of_a_loop low high = let (l, e) = seven_to_ten_are_loops n.kind low high in rw e

  pub children_of_the_unknown : 11 ≤ n.kind → children n ≡ []
  children_of_the_unknown low = rw (above_ten_is_unknown n.kind low)

  -- What children that are all below m say, by the ranges.
  pub below_of_a_pair : {m : ℕ} → 3 ≤ n.kind → n.kind ≤ 6 → Below m (children n) → (n.a < m) × (n.b < m)
  below_of_a_pair low high below = let (a, (b, rest)) = rw (children_of_a_pair low high) at below in (a, b)

  pub below_of_a_loop : {m : ℕ} → 7 ≤ n.kind → n.kind ≤ 10 → Below m (children n) → n.a < m
  below_of_a_loop low high below = let (a, rest) = rw (children_of_a_loop low high) at below in a
