-- The depths of the nodes, found in one pass: each from the depths of its children.
-- Assumes nothing.
use Prim.Native.Nat.{ℕ, zero, suc, ◌+◌, ◌-◌, ◌<◌, ◌≤◌}
use mathlib.Core.List.{List, [], ◌∷◌}
use mathlib.Core.Path.{◌≡◌, refl, sym, ◌∙◌, ap}
use native.Mathlib.Decide.{ℕ_discrete}
use native.Mathlib.Numerals.{add-one}
use native.Mathlib.Omega.{arith}
use lib.ListN.{length, get_or, set, replicate, length-set, get_or-append}
use lib.Seq.{get_or-set_same, get_or-set_other, get_or_at}
use Rattle.chart_spec.specs.Chart.{depth}
use Rattle.chart_spec.specs.Chart.Chart.{empty}
use Rattle.node_spec.specs.Row.{stands, charts, children, highest, Below}
use Rattle.node_spec.proofs.Rows.{charts_more, length_charts, depth_stands}
use Rattle.card_spec.specs.Nodes.{node_at, row_to, row_of, count_of}
use Rattle.card_spec.specs.Figures.{depth_of}
use Rattle.card_spec.proofs.Rows.{length_row}

highest_at_most : (f : ℕ → ℕ) (m : ℕ) (ks : List ℕ) → ((j : ℕ) → f j ≤ m) → highest f ks ≤ m
highest_at_most f m [] h = omega arith
highest_at_most f m (k ∷ ks) h = omega (arith, h k, highest_at_most f m ks h)

highest_same :
    (f g : ℕ → ℕ) (n : ℕ) (ks : List ℕ) → Below n ks → ((j : ℕ) → j < n → f j ≡ g j) → highest f ks ≡ highest g ks
highest_same f g n [] h e = refl
highest_same f g n (k ∷ ks) (h, hs) e = omega (arith, e k h, highest_same f g n ks hs e)

-- The depth of the chart that node j stands for, in the row of the first i nodes.
abbrev depth_at : List ℕ → ℕ → ℕ → ℕ
depth_at nodes i j = depth (get_or (charts (row_to nodes i)) j empty)

-- The depths of the first i nodes are known. No depth is more than the number of nodes seen.
pub record Known (nodes : List ℕ) (i : ℕ) (depths : List ℕ) : Type 0 where
  pub long : length depths ≡ 255
  pub small : (j : ℕ) → get_or depths j 0 ≤ i
  pub at : (j : ℕ) → j < i → get_or depths j 0 ≡ depth_at nodes i j

zeros_are_small : (n j : ℕ) → get_or (replicate n 0) j 0 ≤ 0
zeros_are_small zero j = omega arith
zeros_are_small (suc n) zero = omega arith
zeros_are_small (suc n) (suc j) = zeros_are_small n j

pub none_known : (nodes : List ℕ) → Known nodes 0 (replicate 255 0)
none_known nodes = record { long = refl; small = zeros_are_small 255; at = λ j h. absurd (omega arith) }

module _ (nodes : List ℕ) (i : ℕ) where
  new_depth : depth_at nodes (suc i) i ≡ 1 + highest (depth_at nodes i) (children (node_at nodes i))
  new_depth =
      let n = node_at nodes i in
      let more = stands (charts (row_to nodes i)) n in
      let there : get_or (charts (row_to nodes (suc i))) i empty ≡ more
      = ap (λ cs. get_or cs i empty) (charts_more (row_to nodes i) n)
      ∙ get_or_at (charts (row_to nodes i)) more [] empty i (length_charts (row_to nodes i) ∙ length_row nodes i) in
      ap depth there ∙ depth_stands (charts (row_to nodes i)) n

  old_depth : (j : ℕ) → j < i → depth_at nodes (suc i) j ≡ depth_at nodes i j
  old_depth j h =
      let all = row_to nodes i in
      let long : j < length (charts all) = omega (arith, length_charts all, length_row nodes i) in
      ap depth
      (ap (λ cs. get_or cs j empty) (charts_more all (node_at nodes i))
      ∙ get_or-append (charts all) (stands (charts all) (node_at nodes i) ∷ []) empty j long)

-- One more node's depth is known.
module _ (nodes : List ℕ) (i : ℕ) (depths : List ℕ) (deep : ℕ)
    (new : deep ≡ 1 + highest (λ j. get_or depths j 0) (children (node_at nodes i)))
    (low : Below i (children (node_at nodes i))) (few : i < 255) (known : Known nodes i depths) where
  inside : i < length depths
  inside = omega (arith, known.long)

  still_small : (j : ℕ) → Dec (i ≡ j) → get_or (set depths i deep) j 0 ≤ i + 1
  still_small j (yes e) =
      rw (← e, get_or-set_same depths i deep 0 inside)
      (omega (arith, highest_at_most (λ k. get_or depths k 0) i (children (node_at nodes i)) known.small))
  still_small j (no d) =
      rw (get_or-set_other depths i j deep 0 (λ e. d (sym e))) (omega (arith, known.small j))

  now_at : (j : ℕ) → j < suc i → Dec (i ≡ j) → get_or (set depths i deep) j 0 ≡ depth_at nodes (suc i) j
  now_at j h (yes e) =
      rw (← e)
      (get_or-set_same depths i deep 0 inside ∙ new
      ∙ ap (λ m. 1 + m) (highest_same (λ k. get_or depths k 0) (depth_at nodes i) i (children (node_at nodes i)) low
      known.at)
      ∙ sym (new_depth nodes i))
  now_at j h (no d) =
      get_or-set_other depths i j deep 0 (λ e. d (sym e)) ∙ known.at j (omega arith)
      ∙ sym (old_depth nodes i j (omega arith))

  pub one_more_known : Known nodes (i + 1) (set depths i deep)
  one_more_known =
      record {
        long = length-set depths i deep ∙ known.long;
        small = λ j. still_small j (ℕ_discrete i j);
        at = rw (add-one i) (λ j h. now_at j h (ℕ_discrete i j));
      }

-- The depth of the root, once all nodes are known.
pub root_known :
    (nodes depths : List ℕ) (root : ℕ) → 1 ≤ count_of nodes → root ≡ count_of nodes - 1
    → Known nodes (count_of nodes) depths
    → get_or depths root 0 ≡ depth_of nodes
root_known nodes depths root some e known =
    let last : length (row_of nodes) - 1 ≡ root = omega (arith, length_row nodes (count_of nodes)) in
    rw last (known.at root (omega arith))
