-- Charts of a row of nodes: one more node adds one chart and changes none before it; there are as many charts as nodes.
-- All by induction on the row, with any charts before it. At the end: how often a node is a child in a row of two
-- parts.
-- Assumes nothing.
use Prim.Native.Nat.{ℕ, suc, ◌+◌, ◌<◌}
use mathlib.Core.List.{List, [], ◌∷◌, ◌++◌}
use mathlib.Core.Path.{◌≡◌, refl, ap, sym, ◌∙◌}
use native.Mathlib.Omega.{arith}
use lib.ListN.{length, get_or, take, drop, length-append, get_or-append}
use lib.Seq.{split_at, append_snoc, length-take-le, get_or_at}
use Rattle.chart_spec.specs.Chart.{Chart, depth}
use Rattle.chart_spec.specs.Chart.Chart.{empty}
use Rattle.node.specs.declared.Node.{Node}
use Rattle.node_spec.specs.Kind.{Kind, kind_of}
use Rattle.node_spec.specs.Kind.Pair.{composed, choice}
use Rattle.node_spec.specs.Kind.Kind.{nothing, action, pairs, loops, unknown}
use Rattle.node_spec.specs.Row.{stands, stands_as, charts_after, charts, children, children_as, highest, uses, Below}

pub charts_after_append :
    (before : List Chart) (row more : List Node)
    → charts_after before (row ++ more) ≡ charts_after (charts_after before row) more
charts_after_append before [] more = refl
charts_after_append before (n ∷ row) more = charts_after_append (before ++ (stands before n ∷ [])) row more

-- One more node adds its chart.
pub charts_more : (row : List Node) (n : Node) → charts (row ++ (n ∷ [])) ≡ charts row ++ (stands (charts row) n ∷ [])
unfolding charts
charts_more row n = charts_after_append [] row (n ∷ [])

length_charts_after : (before : List Chart) (row : List Node)
    → length (charts_after before row) ≡ length before + length row
length_charts_after before [] = omega arith
length_charts_after before (n ∷ row) =
    omega (
      arith,
      length_charts_after (before ++ (stands before n ∷ [])) row,
      length-append before (stands before n ∷ []),
    )

-- There are as many charts as nodes.
pub length_charts : (row : List Node) → length (charts row) ≡ length row
unfolding charts
length_charts row = omega (arith, length_charts_after [] row)

-- What stands before a row is kept.
pub charts_after_keeps :
    (before : List Chart) (row : List Node) (j : ℕ) → j < length before
    → get_or (charts_after before row) j empty ≡ get_or before j empty
charts_after_keeps before [] j h = refl
charts_after_keeps before (n ∷ row) j h =
    charts_after_keeps (before ++ (stands before n ∷ [])) row j
    (omega (arith, length-append before (stands before n ∷ [])))
    ∙ get_or-append before (stands before n ∷ []) empty j h

-- More nodes change no chart of those before them.
pub charts_keep :
    (row more : List Node) (j : ℕ) → j < length row
    → get_or (charts (row ++ more)) j empty ≡ get_or (charts row) j empty
unfolding charts
charts_keep row more j h =
    rw (charts_after_append [] row more)
    (charts_after_keeps (charts_after [] row) more j (omega (arith, length_charts_after [] row)))

-- A node stands for the same chart among charts that agree where its children are.
stands_as_before :
    (k : Kind) (before all : List Chart) (n : Node) (p : ℕ) → Below p (children_as k n)
    → ((j : ℕ) → j < p → get_or all j empty ≡ get_or before j empty) → stands_as k all n ≡ stands_as k before n
stands_as_before nothing before all n p low agree = refl
stands_as_before (action r) before all n p low agree = refl
stands_as_before (pairs q) before all n p (a, (b, none)) agree = rw (agree n.a a, agree n.b b)
stands_as_before (loops l) before all n p (a, none) agree = rw (agree n.a a)
stands_as_before unknown before all n p low agree = refl

pub stands_alike :
    (before all : List Chart) (n : Node) (p : ℕ) → Below p (children n)
    → ((j : ℕ) → j < p → get_or all j empty ≡ get_or before j empty) → stands all n ≡ stands before n
stands_alike before all n p low agree = stands_as_before (kind_of n.kind) before all n p low agree

-- If the children of node p are lower than p, the chart at p is that of node p among all charts of the row.
pub charts_at :
    (row : List Node) (p : ℕ) (d : Node) → p < length row → Below p (children (get_or row p d))
    → get_or (charts row) p empty ≡ stands (charts row) (get_or row p d)
charts_at row p d h low =
    let n = get_or row p d in
    let before = take p row in
    let after = drop (suc p) row in
    let long : length before ≡ p = length-take-le p row (omega arith) in
    let split : row ≡ before ++ (n ∷ after) = split_at row p d h in
    let snoc : before ++ (n ∷ []) ++ after ≡ before ++ n ∷ after = append_snoc before n after in
    let keep : (j : ℕ) → j < p → get_or (charts row) j empty ≡ get_or (charts before) j empty
    = λ j l. ap (λ r. get_or (charts r) j empty) split ∙ charts_keep before (n ∷ after) j (omega arith) in
    let more = charts_keep (before ++ (n ∷ [])) after p (omega (arith, length-append before (n ∷ []))) in
    let last = get_or_at (charts before) (stands (charts before) n) [] empty p (length_charts before ∙ long) in
    ap (λ r. get_or (charts r) p empty) (split ∙ sym snoc) ∙ more
    ∙ ap (λ r. get_or r p empty) (charts_more before n) ∙ last
    ∙ sym (stands_alike (charts before) (charts row) n p low keep)

depth_as : (k : Kind) (before : List Chart) (n : Node)
    → depth (stands_as k before n) ≡ 1 + highest (λ j. depth (get_or before j empty)) (children_as k n)
depth_as nothing before n = refl
depth_as (action r) before n = refl
depth_as (pairs (composed o)) before n = omega arith
depth_as (pairs choice) before n = omega arith
depth_as (loops k) before n = omega arith
depth_as unknown before n = refl

-- A node's depth is one more than that of its deepest child.
pub depth_stands :
    (before : List Chart) (n : Node)
    → depth (stands before n) ≡ 1 + highest (λ j. depth (get_or before j empty)) (children n)
depth_stands before n = depth_as (kind_of n.kind) before n

pub uses_append : (row more : List Node) (j : ℕ) → uses (row ++ more) j ≡ uses row j + uses more j
uses_append [] more j = omega arith
uses_append (n ∷ row) more j = omega (arith, uses_append row more j)
