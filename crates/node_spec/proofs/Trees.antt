-- A row in which each node but the last is a child exactly once, and each child is lower than its parent, is one tree:
-- the weights of its nodes add up to the weight of the whole chart. With weight 1 that is the number of nodes. The
-- argument: a chart weighs what its node weighs plus what its children weigh. Summed over the row, each chart but the
-- last is counted once on the right, as a child, so that only the last is left over.
-- Assumes nothing.
use Prim.Native.Nat.{ℕ, zero, suc, ◌+◌, ◌-◌, ◌*◌, ◌<◌, ◌≤◌}
use mathlib.Core.Bool.{cond}
use mathlib.Core.List.{List, [], ◌∷◌, ◌++◌}
use mathlib.Core.Path.{◌≡◌, refl, ap, sym, ◌∙◌}
use native.Mathlib.Decide.{ℕ_discrete}
use native.Mathlib.Nat.{add-mul, zero-mul, one-mul}
use native.Mathlib.Omega.{arith}
use lib.Dec.{eqb}
use borrow.Author.Tests.{eq-eqb, ne_eqb}
use lib.ListN.{length, get_or, length-append}
use lib.Seq.{get_or_at}
use Rattle.chart_spec.specs.Action.{Every}
use Rattle.chart_spec.specs.Chart.{Chart, size}
use Rattle.chart_spec.specs.Chart.Chart.{empty}
use Rattle.node.specs.declared.Node.{Node}
use Rattle.node_spec.specs.Kind.{Kind, kind_of}
use Rattle.node_spec.specs.Kind.Pair.{composed, choice}
use Rattle.node_spec.specs.Kind.Kind.{nothing, action, pairs, loops, unknown}
use Rattle.node_spec.specs.Row.{stands, stands_as, charts_after, charts, chart, children, children_as, times, uses, Below}
use Rattle.node_spec.proofs.Rows.{charts_after_keeps}

-- The children of the node at i, and those of each later one, are lower than their parent.
abbrev pub LowerFrom : ℕ → List Node → Type 0
LowerFrom i [] = Unit
LowerFrom i (n ∷ row) = Below i (children n) × LowerFrom (suc i) row

-- A sum over the numbers below n, and over a list of numbers.
abbrev sum_to : (ℕ → ℕ) → ℕ → ℕ
sum_to f zero = 0
sum_to f (suc n) = sum_to f n + f n

abbrev pub sum_of : (ℕ → ℕ) → List ℕ → ℕ
sum_of f [] = 0
sum_of f (k ∷ ks) = f k + sum_of f ks

-- A sum over the nodes of a row.
abbrev pub total : (Node → ℕ) → List Node → ℕ
total w [] = 0
total w (n ∷ row) = w n + total w row

sum_to_add : (f g : ℕ → ℕ) (n : ℕ) → sum_to (λ j. f j + g j) n ≡ sum_to f n + sum_to g n
sum_to_add f g zero = refl
sum_to_add f g (suc n) = omega (arith, sum_to_add f g n)

sum_to_eq : (f g : ℕ → ℕ) (n : ℕ) → ((j : ℕ) → j < n → f j ≡ g j) → sum_to f n ≡ sum_to g n
sum_to_eq f g zero h = refl
sum_to_eq f g (suc n) h = omega (arith, sum_to_eq f g n (λ j l. h j (omega arith)), h n (omega arith))

sum_to_none : (f : ℕ → ℕ) (n : ℕ) → ((j : ℕ) → j < n → f j ≡ 0) → sum_to f n ≡ 0
sum_to_none f zero h = refl
sum_to_none f (suc n) h = omega (arith, sum_to_none f n (λ j l. h j (omega arith)), h n (omega arith))

module _ (m : ℕ → ℕ) where
  -- m j if k is j, else 0.
  abbrev only : ℕ → ℕ → ℕ
  only k j = cond (eqb k j) 1 0 * m j

  only_there : (k j : ℕ) → k ≡ j → only k j ≡ m k
  only_there k j e = rw (eq-eqb k j e, one-mul (m j), e)

  only_elsewhere : (k j : ℕ) → (k ≡ j → ⊥) → only k j ≡ 0
  only_elsewhere k j h = rw (ne_eqb k j h, zero-mul (m j))

  -- In a sum of these only m k is left.
  sum_to_only : (k n : ℕ) → k < n → sum_to (only k) n ≡ m k
  sum_to_only k zero h = absurd (omega arith)
  sum_to_only k (suc n) h = last (ℕ_discrete k n) (λ l. sum_to_only k n l)
    where
      last : Dec (k ≡ n) → (k < n → sum_to (only k) n ≡ m k) → sum_to (only k) n + only k n ≡ m k
      last (yes e) ih =
          omega
          (arith, sum_to_none (only k) n (λ j l. only_elsewhere k j (λ here. omega arith)), only_there k n e)
      last (no d) ih =
          omega (arith, ih (omega arith), only_elsewhere k n d)

  sum_of_by_times : (n : ℕ) (ks : List ℕ) → Below n ks → sum_of m ks ≡ sum_to (λ j. times j ks * m j) n
  sum_of_by_times n [] h = sym (sum_to_none (λ j. 0 * m j) n (λ j l. zero-mul (m j)))
  sum_of_by_times n (k ∷ ks) (h, hs) =
      let split : (j : ℕ) → times j (k ∷ ks) * m j ≡ only k j + times j ks * m j
      = λ j. add-mul (cond (eqb k j) 1 0) (times j ks) (m j) in
      omega (
        arith,
        sum_to_only k n h,
        sum_of_by_times n ks hs,
        sum_to_add (only k) (λ j. times j ks * m j) n,
        sum_to_eq (λ j. times j (k ∷ ks) * m j) (λ j. only k j + times j ks * m j) n (λ j l. split j),
      )

  -- The weights of all children of a row, added up.
  abbrev sum_of_children : List Node → ℕ
  sum_of_children [] = 0
  sum_of_children (n ∷ row) = sum_of m (children n) + sum_of_children row

  -- The same sum, by how often each number is a child.
  sum_of_children_by_uses :
      (n : ℕ) (row : List Node) → Every (λ x. Below n (children x)) row
      → sum_of_children row ≡ sum_to (λ j. uses row j * m j) n
  sum_of_children_by_uses n [] h = sym (sum_to_none (λ j. 0 * m j) n (λ j l. zero-mul (m j)))
  sum_of_children_by_uses n (x ∷ row) (h, hs) =
      omega (
        arith,
        sum_of_by_times n (children x) h,
        sum_of_children_by_uses n row hs,
        sum_to_add (λ j. times j (children x) * m j) (λ j. uses row j * m j) n,
        sum_to_eq (λ j. uses (x ∷ row) j * m j) (λ j. times j (children x) * m j + uses row j * m j) n
            (λ j l. add-mul (times j (children x)) (uses row j) (m j)),
      )

pub below_more : (i n : ℕ) (ks : List ℕ) → i ≤ n → Below i ks → Below n ks
below_more i n [] h b = tt
below_more i n (k ∷ ks) h (b, bs) = (omega arith, below_more i n ks h bs)

-- No child of a row is its last node.
lower_than_the_last :
    (i last : ℕ) (row : List Node) → i + length row ≤ suc last → LowerFrom i row
    → Every (λ x. Below last (children x)) row
lower_than_the_last i last [] h l = tt
lower_than_the_last i last (x ∷ row) h (b, l) =
    (below_more i last (children x) (omega arith) b, lower_than_the_last (suc i) last row (omega arith) l)

-- A chart weighs what its node weighs plus what its children weigh.
abbrev pub Weighs : (Chart → ℕ) → (Node → ℕ) → Type 0
Weighs weight own =
    (before : List Chart) (n : Node)
    → weight (stands before n) ≡ own n + sum_of (λ j. weight (get_or before j empty)) (children n)

sum_of_eq : (f g : ℕ → ℕ) (n : ℕ) (ks : List ℕ) → Below n ks → ((j : ℕ) → j < n → f j ≡ g j) → sum_of f ks ≡ sum_of g ks
sum_of_eq f g n [] h e = refl
sum_of_eq f g n (k ∷ ks) (h, hs) e = omega (arith, e k h, sum_of_eq f g n ks hs e)

module _ (weight : Chart → ℕ) (own : Node → ℕ) (weighs : Weighs weight own) where
  -- The weight of chart j.
  abbrev at : List Chart → ℕ → ℕ
  at all j = weight (get_or all j empty)

  -- The charts of a row weigh what its nodes weigh plus what their children weigh.
  charts_weigh :
      (before : List Chart) (row : List Node) (i n : ℕ) → i ≡ length before → n ≡ i + length row → LowerFrom i row
      → sum_to (at (charts_after before row)) n
      ≡ sum_to (at (charts_after before row)) i + (total own row + sum_of_children (at (charts_after before row)) row)
  charts_weigh before [] i n ei en lower =
      let same : n ≡ i = omega arith in
      rw same (omega arith)
  charts_weigh before (x ∷ row) i n ei en (low, lower) =
      let more = before ++ (stands before x ∷ []) in
      let all = charts_after more row in
      let long : length more ≡ suc (length before) = omega (arith, length-append before (stands before x ∷ [])) in
      let there : get_or all i empty ≡ stands before x
      = charts_after_keeps more row i (omega arith) ∙ get_or_at before (stands before x) [] empty i (sym ei) in
      let here : at all i ≡ own x + sum_of (at before) (children x) = ap weight there ∙ weighs before x in
      let kept : (j : ℕ) → j < i → at before j ≡ at all j
      = λ j l. ap weight (sym (charts_after_keeps before (x ∷ row) j (omega arith))) in
      let below : sum_of (at before) (children x) ≡ sum_of (at all) (children x)
      = sum_of_eq (at before) (at all) i (children x) low kept in
      omega (arith, charts_weigh more row (suc i) n (omega arith) (omega arith) lower)

  -- A tree weighs what its nodes weigh.
  pub tree_weighs_its_nodes :
      (row : List Node) (last : ℕ) → length row ≡ suc last → LowerFrom 0 row → ((j : ℕ) → j < last → uses row j ≡ 1)
      → weight (chart row) ≡ total own row
  unfolding charts
  tree_weighs_its_nodes row last size lower once =
      let m = at (charts row) in
      let end : length row - 1 ≡ last = omega arith in
      let root : weight (chart row) ≡ m last = rw end in
      omega (
        arith,
        charts_weigh [] row 0 (suc last) refl (omega arith) lower,
        sum_of_children_by_uses m last row (lower_than_the_last 0 last row (omega arith) lower),
        sum_to_eq (λ j. uses row j * m j) m last (λ j l. rw (once j l, one-mul (m j))),
      )

-- A node weighs 1 and a chart the number of its nodes.
size_as : (k : Kind) (before : List Chart) (n : Node)
    → size (stands_as k before n) ≡ 1 + sum_of (λ j. size (get_or before j empty)) (children_as k n)
size_as nothing before n = refl
size_as (action r) before n = refl
size_as (pairs (composed o)) before n = omega arith
size_as (pairs choice) before n = omega arith
size_as (loops k) before n = omega arith
size_as unknown before n = refl

total_one : (row : List Node) → total (λ n. 1) row ≡ length row
total_one [] = refl
total_one (n ∷ row) = omega (arith, total_one row)

-- A tree's chart has as many nodes as its row.
pub tree_has_its_nodes :
    (row : List Node) (last : ℕ) → length row ≡ suc last → LowerFrom 0 row → ((j : ℕ) → j < last → uses row j ≡ 1)
    → size (chart row) ≡ length row
tree_has_its_nodes row last long lower once =
    tree_weighs_its_nodes size (λ n. 1) (λ before n. size_as (kind_of n.kind) before n) row last long lower once
    ∙ total_one row
