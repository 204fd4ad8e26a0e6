-- The chart of a sound card: it has as many nodes as the card, every lifeline and message in it is declared, and the
-- lifelines that act in it are those of the card's nodes. The first and the last follow from the law of trees for two
-- weights; the second is by induction on the row.
-- Assumes nothing.
use Prim.Native.Nat.{ℕ, zero, suc, ◌+◌, ◌-◌, ◌<◌}
use mathlib.Core.Bool.{Bool, true, false, cond, ◌||◌}
use mathlib.Core.List.{List, [], ◌∷◌, ◌++◌}
use mathlib.Core.Path.{◌≡◌, refl, sym, ◌∙◌, ap}
use native.Mathlib.Nat.{zero-add}
use native.Mathlib.Omega.{arith}
use lib.Dec.{ltb}
use lib.ListN.{length, get_or, get_or-eq_default}
use borrow.Author.Tests.{ltb-true, lt-ltb}
use Rattle.chart_spec.specs.Chart.{Chart, size}
use Rattle.chart_spec.specs.Chart.Chart.{empty}
use Rattle.node.specs.declared.Node.{Node}
use Rattle.node_spec.specs.Kind.{Kind, kind_of}
use Rattle.node_spec.specs.Kind.Pair.{composed, choice}
use Rattle.node_spec.specs.Kind.Kind.{nothing, action, pairs, loops, unknown}
use Rattle.node_spec.specs.Row.{stands, stands_as, charts, chart, children, children_as, uses, Below}
use Rattle.node_spec.proofs.Rows.{charts_more, length_charts}
use Rattle.node_spec.proofs.Trees.{LowerFrom, total, sum_of, below_more, tree_weighs_its_nodes, tree_has_its_nodes}
use Rattle.card_spec.specs.Nodes.{count_of, node_at, row_to, row_of}
use Rattle.card_spec.specs.Figures.{acts_as, acts, tally}
use Rattle.card_spec.specs.Findings.{in_order_as}
use Rattle.card_spec.specs.Faultless.{Faultless}
use Rattle.card_spec.specs.Meaning.{Declared, deeds}
use Rattle.chart_spec.proofs.Tests.{both_true}
use Rattle.card_spec.proofs.Rows.{length_row}

-- Children are lower than their parents all along the row.
lower_more :
    (i : ℕ) (row : List Node) (n : Node) → LowerFrom i row → Below (i + length row) (children n)
    → LowerFrom i (row ++ (n ∷ []))
lower_more i [] n l b = (below_more (i + 0) i (children n) (omega arith) b, tt)
lower_more i (m ∷ row) n (b, l) low = (
  b,
  lower_more (suc i) row n l (below_more (i + suc (length row)) (suc i + length row) (children n)
      (omega arith) low),
)

lower_row :
    (nodes : List ℕ) (n : ℕ) → ((i : ℕ) → i < n → Below i (children (node_at nodes i))) → LowerFrom 0 (row_to nodes n)
lower_row nodes zero low = tt
lower_row nodes (suc n) low =
    lower_more 0 (row_to nodes n) (node_at nodes n) (lower_row nodes n (λ i h. low i (omega arith)))
    (below_more n (0 + length (row_to nodes n)) (children (node_at nodes n)) (omega (arith, length_row nodes n))
    (low n (omega arith)))

one_more_has :
    (P : Chart → Type 0) (cs : List Chart) (c : Chart) → P empty → ((j : ℕ) → P (get_or cs j empty)) → P c
    → (j : ℕ) → P (get_or (cs ++ (c ∷ [])) j empty)
one_more_has P [] c none all here zero = here
one_more_has P [] c none all here (suc j) = none
one_more_has P (x ∷ cs) c none all here zero = all zero
one_more_has P (x ∷ cs) c none all here (suc j) = one_more_has P cs c none (λ k. all (suc k)) here j

-- If a property holds of a node's chart whenever it holds of the charts before it, it holds of every chart of the row.
every_chart :
    (P : Chart → Type 0) (nodes : List ℕ) (n : ℕ) → P empty
    → ((i : ℕ) → i < n → (before : List Chart) → ((j : ℕ) → P (get_or before j empty))
    → P (stands before (node_at nodes i)))
    → (j : ℕ) → P (get_or (charts (row_to nodes n)) j empty)
every_chart P nodes zero none step j =
    rw (get_or-eq_default (charts []) empty {n = j} (omega (arith, length_charts []))) none
every_chart P nodes (suc n) none step j =
    let before = charts (row_to nodes n) in
    let all = every_chart P nodes n none (λ i h. step i (omega arith)) in
    rw (charts_more (row_to nodes n) (node_at nodes n))
    (one_more_has P before (stands before (node_at nodes n)) none all (step n (omega arith) before all) j)

-- A node that is in order stands for a chart with all lifelines and messages declared, if its children do.
module _ (lifelines messages : ℕ) where
  declared_as :
      (k : Kind) (i : ℕ) (n : Node) (before : List Chart) → in_order_as k lifelines messages i n ≡ true
      → ((j : ℕ) → Declared lifelines messages (get_or before j empty))
      → Declared lifelines messages (stands_as k before n)
  declared_as nothing i n before h all = tt
  declared_as (action r) i n before h all =
      let (l, m) = both_true (ltb n.a lifelines) (ltb n.b messages) h in
      (ltb-true n.a lifelines l, ltb-true n.b messages m)
  declared_as (pairs (composed o)) i n before h all = (all n.a, all n.b)
  declared_as (pairs choice) i n before h all = (all n.a, all n.b)
  declared_as (loops k) i n before h all = all n.a
  declared_as unknown i n before h all = tt

  pub chart_declared :
      (nodes : List ℕ)
      → ((i : ℕ) → i < count_of nodes
      → in_order_as (kind_of (node_at nodes i).kind) lifelines messages i (node_at nodes i)
      ≡ true)
      → Declared lifelines messages (chart (row_of nodes))
  chart_declared nodes order =
      every_chart (Declared lifelines messages) nodes (count_of nodes) tt
      (λ i h before all. declared_as (kind_of (node_at nodes i).kind) i (node_at nodes i) before (order i h) all)
      (length (row_of nodes) - 1)

-- The deeds of a node alone, and of a chart: those of its root and of its children.
module _ (d : ℕ) where
  abbrev own : Node → ℕ
  own n = cond (acts_as (kind_of n.kind) n d) 1 0

  deeds_as :
      (k : Kind) (before : List Chart) (n : Node)
      → deeds d (stands_as k before n) ≡ cond (acts_as k n d) 1 0 + sum_of (λ j. deeds d (get_or before j empty))
      (children_as k n)
  deeds_as nothing before n = refl
  deeds_as (action r) before n = omega arith
  deeds_as (pairs (composed o)) before n = omega arith
  deeds_as (pairs choice) before n = omega arith
  deeds_as (loops k) before n = omega arith
  deeds_as unknown before n = refl

  -- Lifeline d acts in the row exactly if some node of the row has a deed of d.
  acts_by_deeds : (row : List Node) → acts row d ≡ ltb 0 (total own row)
  acts_by_deeds [] = refl
  acts_by_deeds (n ∷ row) = by (acts_as (kind_of n.kind) n d) (acts_by_deeds row)
    where
      by : (b : Bool) → acts row d ≡ ltb 0 (total own row) → (b || acts row d) ≡ ltb 0 (cond b 1 0 + total own row)
      by true e = sym (lt-ltb 0 (1 + total own row) (omega arith))
      by false e = rw (zero-add (total own row)) e

tally_same : (p q : ℕ → Bool) → ((d : ℕ) → p d ≡ q d) → (n : ℕ) → tally p n ≡ tally q n
unfolding tally
tally_same p q h zero = refl
tally_same p q h (suc n) = rw (h n, tally_same p q h n)

-- The nodes of a card, if they are one tree.
module _ (nodes : List ℕ) (faultless : Faultless nodes)
    (once : (j : ℕ) → j < count_of nodes - 1 → uses (row_of nodes) j ≡ 1) where
  abbrev row : List Node
  row = row_of nodes

  long : length row ≡ suc (count_of nodes - 1)
  long = omega (arith, length_row nodes (count_of nodes), faultless.some)

  lower : LowerFrom 0 row
  lower = lower_row nodes (count_of nodes) faultless.lower

  pub as_many_nodes : size (chart row) ≡ count_of nodes
  as_many_nodes = tree_has_its_nodes row (count_of nodes - 1) long lower once ∙ length_row nodes (count_of nodes)

  pub the_same_act : tally (acts row) 16 ≡ tally (λ d. ltb 0 (deeds d (chart row))) 16
  the_same_act =
      tally_same (acts row) (λ d. ltb 0 (deeds d (chart row)))
      (λ d.
      acts_by_deeds d row
      ∙ ap (ltb 0)
      (sym
      (tree_weighs_its_nodes (deeds d) (own d) (λ before n. deeds_as d (kind_of n.kind) before n) row
      (count_of nodes - 1) long lower once)))
      16
