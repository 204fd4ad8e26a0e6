-- A chart written down as a row of nodes is read back as that chart. The row has one node for each part; each node but
-- the root is a child exactly once, and each is in order if the chart is declared. All by induction on the chart,
-- whatever number its first node has.
-- Assumes nothing.
use Prim.Native.Nat.{ℕ, zero, suc, ◌+◌, ◌-◌, ◌<◌, ◌≤◌}
use mathlib.Core.Bool.{true, false, cond}
use mathlib.Core.List.{List, [], ◌∷◌, ◌++◌, append_assoc}
use mathlib.Core.Path.{◌≡◌, refl, ap, sym, subst, ◌∙◌}
use native.Mathlib.Decide.{ℕ_discrete, dec_lt}
use native.Mathlib.Omega.{arith}
use lib.Dec.{eqb, ltb}
use lib.ListN.{length, get_or, length-append, get_or-append}
use lib.Seq.{get_or_at}
use borrow.Author.Tests.{eq-eqb, ne_eqb, lt-ltb, le-ltb}
use Rattle.chart_spec.specs.Chart.{Chart, size}
use Rattle.chart_spec.specs.Chart.Chart.{empty, act, alt, pair, loop}
use Rattle.node.specs.declared.Node.{Node}
use Rattle.node_spec.specs.Kind.{kind_of, Pair, paired}
use Rattle.node_spec.specs.Kind.Pair.{composed, choice}
use Rattle.node_spec.specs.Kind.Kind.{nothing, action, pairs, loops}
use Rattle.node_spec.specs.Row.{stands, charts_after, charts, chart, children, times, uses}
use Rattle.node_spec.proofs.Rows.{charts_after_append, uses_append}
use Rattle.node_spec.proofs.Numbering.{number_of_its_kind}
use Rattle.card_spec.specs.Findings.{in_order_as}
use Rattle.card_spec.specs.Meaning.{Declared}
use Rattle.write_spec.specs.Rows.{node_as, root_from, parent_of, written}

-- The parts of a chart in the order in which they are written.
abbrev parts : Chart → List Chart
parts empty = empty ∷ []
parts (act a) = act a ∷ []
parts (alt l r) = (parts l ++ parts r) ++ (alt l r ∷ [])
parts (pair o l r) = (parts l ++ parts r) ++ (pair o l r ∷ [])
parts (loop k b) = parts b ++ (loop k b ∷ [])

pub at_least_one : (c : Chart) → 1 ≤ size c
at_least_one empty = omega arith
at_least_one (act a) = omega arith
at_least_one (alt l r) = omega arith
at_least_one (pair o l r) = omega arith
at_least_one (loop k b) = omega arith

-- ---- one node for each part

length_joined : (wl wr : List Node) (n : Node) → length ((wl ++ wr) ++ (n ∷ [])) ≡ 1 + (length wl + length wr)
length_joined wl wr n = omega (arith, length-append (wl ++ wr) (n ∷ []), length-append wl wr)

pub length_written : (first : ℕ) (c : Chart) → length (written first c) ≡ size c
unfolding written
length_written first empty = refl
length_written first (act a) = refl
length_written first (alt l r) =
    omega (
      arith,
      length_joined (written first l) (written (first + size l) r) (parent_of (pairs choice) first l r),
      length_written first l,
      length_written (first + size l) r,
    )
length_written first (pair o l r) =
    omega (
      arith,
      length_joined (written first l) (written (first + size l) r) (parent_of (pairs (composed o)) first l r),
      length_written first l,
      length_written (first + size l) r,
    )
length_written first (loop k b) =
    omega (
      arith,
      length-append (written first b) (node_as (loops k) (root_from first b) 0 ∷ []),
      length_written first b,
    )

-- ---- read back

length_parts : (c : Chart) → length (parts c) ≡ size c
length_parts empty = refl
length_parts (act a) = refl
length_parts (alt l r) =
    omega (
      arith,
      length-append (parts l ++ parts r) (alt l r ∷ []),
      length-append (parts l) (parts r),
      length_parts l,
      length_parts r,
    )
length_parts (pair o l r) =
    omega (
      arith,
      length-append (parts l ++ parts r) (pair o l r ∷ []),
      length-append (parts l) (parts r),
      length_parts l,
      length_parts r,
    )
length_parts (loop k b) = omega (arith, length-append (parts b) (loop k b ∷ []), length_parts b)

-- A chart is the last of its parts.
its_own_last_part : (c : Chart) → (xs : List Chart) × (parts c ≡ xs ++ (c ∷ []))
its_own_last_part empty = ([], refl)
its_own_last_part (act a) = ([], refl)
its_own_last_part (alt l r) = (parts l ++ parts r, refl)
its_own_last_part (pair o l r) = (parts l ++ parts r, refl)
its_own_last_part (loop k b) = (parts b, refl)

-- Written after other charts, a chart stands at its root.
at_its_root :
    (before : List Chart) (first : ℕ) (c : Chart) → length before ≡ first
    → get_or (before ++ parts c) (root_from first c) empty ≡ c
at_its_root before first c begun =
    let (xs, e) = its_own_last_part c in
    let split : before ++ parts c ≡ (before ++ xs) ++ (c ∷ [])
    = ap (λ cs. before ++ cs) e ∙ sym (append_assoc before xs (c ∷ [])) in
    let long : length (before ++ xs) ≡ root_from first c
    = omega (arith, length-append before xs, length-append xs (c ∷ []), ap length e, length_parts c) in
    ap (λ cs. get_or cs (root_from first c) empty) split ∙ get_or_at (before ++ xs) c [] empty (root_from first c) long

-- Two parts, and their parent.
pair_read_back :
    (p : Pair) (l r : Chart) (before : List Chart) (first : ℕ) (wl wr : List Node) → length before ≡ first
    → charts_after before wl ≡ before ++ parts l
    → charts_after (before ++ parts l) wr ≡ before ++ parts l ++ parts r
    → charts_after before ((wl ++ wr) ++ (parent_of (pairs p) first l r ∷ []))
    ≡ before ++ ((parts l ++ parts r) ++ (paired p l r ∷ []))
pair_read_back p l r before first wl wr begun on_left at_right =
    let n = parent_of (pairs p) first l r in
    let left = before ++ parts l in
    let all = left ++ parts r in
    let long : length left ≡ first + size l = omega (arith, length-append before (parts l), length_parts l) in
    let so_far : charts_after before (wl ++ wr) ≡ all
    = charts_after_append before wl wr ∙ ap (λ cs. charts_after cs wr) on_left ∙ at_right in
    let a : get_or all (root_from first l) empty ≡ l
    = get_or-append left (parts r) empty (root_from first l) (omega (arith, at_least_one l))
    ∙ at_its_root before first l begun in
    let b : get_or all (root_from (first + size l) r) empty ≡ r = at_its_root left (first + size l) r long in
    let here : stands all n ≡ paired p l r
    = rw (number_of_its_kind (pairs p) tt)
    (ap (λ c. paired p c (get_or all (root_from (first + size l) r) empty)) a ∙ ap (paired p l) b) in
    charts_after_append before (wl ++ wr) (n ∷ [])
    ∙ ap (λ cs. cs ++ (stands cs n ∷ [])) so_far
    ∙ ap (λ c. all ++ (c ∷ [])) here
    ∙ ap (λ cs. cs ++ (paired p l r ∷ [])) (append_assoc before (parts l) (parts r))
    ∙ append_assoc before (parts l ++ parts r) (paired p l r ∷ [])

read_back :
    (before : List Chart) (first : ℕ) (c : Chart) → length before ≡ first
    → charts_after before (written first c) ≡ before ++ parts c
unfolding written
read_back before first empty begun = rw (number_of_its_kind nothing tt)
read_back before first (act a) begun = rw (number_of_its_kind (action a.receives) tt)
read_back before first (alt l r) begun =
    pair_read_back choice l r before first (written first l) (written (first + size l) r) begun
    (read_back before first l begun)
    (read_back (before ++ parts l) (first + size l) r (omega (arith, length-append before (parts l), length_parts l)))
read_back before first (pair o l r) begun =
    pair_read_back (composed o) l r before first (written first l) (written (first + size l) r) begun
    (read_back before first l begun)
    (read_back (before ++ parts l) (first + size l) r (omega (arith, length-append before (parts l), length_parts l)))
read_back before first (loop k b) begun =
    let n = node_as (loops k) (root_from first b) 0 in
    let all = before ++ parts b in
    let here : stands all n ≡ loop k b
    = rw (number_of_its_kind (loops k) tt) (ap (loop k) (at_its_root before first b begun)) in
    charts_after_append before (written first b) (n ∷ [])
    ∙ ap (λ cs. cs ++ (stands cs n ∷ [])) (read_back before first b begun)
    ∙ ap (λ c. all ++ (c ∷ [])) here
    ∙ append_assoc before (parts b) (loop k b ∷ [])

-- A chart that was written is the chart of its row.
pub written_is_its_chart : (c : Chart) → chart (written 0 c) ≡ c
unfolding charts
written_is_its_chart c =
    let root : length (written 0 c) - 1 ≡ root_from 0 c = omega (arith, length_written 0 c) in
    ap (λ j. get_or (charts_after [] (written 0 c)) j empty) root
    ∙ ap (λ cs. get_or cs (root_from 0 c) empty) (read_back [] 0 c refl)
    ∙ at_its_root [] 0 c refl

-- ---- each node but the root is a child once

-- 1 for the numbers below n, 0 for the others.
abbrev below : ℕ → ℕ → ℕ
below n j = cond (ltb j n) 1 0

below_more : (n root end j : ℕ) → root ≡ n → end ≡ suc n → cond (eqb root j) 1 0 + below n j ≡ below end j
below_more n root end j e f = by (ℕ_discrete root j) (dec_lt j n)
  where
    by : Dec (root ≡ j) → Dec (j < n) → cond (eqb root j) 1 0 + below n j ≡ below end j
    by (yes here) lower = rw (eq-eqb root j here, le-ltb j n (omega arith), lt-ltb j end (omega arith))
    by (no other) (yes lower) = rw (ne_eqb root j other, lt-ltb j n lower, lt-ltb j end (omega arith))
    by (no other) (no higher) =
        let beyond : end ≤ j = omega arith in
        rw (ne_eqb root j other, le-ltb j n (omega arith), le-ltb j end beyond)

-- Two parts, and their parent.
pair_uses :
    (p : Pair) (l r : Chart) (first j : ℕ) (wl wr : List Node)
    → uses wl j + (cond (eqb (root_from first l) j) 1 0 + below first j) ≡ below (first + size l) j
    → uses wr j + (cond (eqb (root_from (first + size l) r) j) 1 0 + below (first + size l) j)
    ≡ below (first + size l + size r) j
    → uses ((wl ++ wr) ++ (parent_of (pairs p) first l r ∷ [])) j
    + (cond (eqb (first + (1 + (size l + size r)) - 1) j) 1 0 + below first j)
    ≡ below (first + (1 + (size l + size r))) j
pair_uses p l r first j wl wr on_left at_right =
    let n = parent_of (pairs p) first l r in
    let its : children n ≡ root_from first l ∷ root_from (first + size l) r ∷ []
    = rw (number_of_its_kind (pairs p) tt) in
    omega (
      arith,
      uses_append (wl ++ wr) (n ∷ []) j,
      uses_append wl wr j,
      ap (times j) its,
      below_more (first + size l + size r) (first + (1 + (size l + size r)) - 1) (first + (1 + (size l + size r))) j
          (omega arith) (omega arith),
    )

-- The numbers from the first to the root are used once each, if the root counts as used by what is above it.
written_uses :
    (first j : ℕ) (c : Chart)
    → uses (written first c) j + (cond (eqb (root_from first c) j) 1 0 + below first j) ≡ below (first + size c) j
unfolding written
written_uses first j empty =
    let its : children (node_as nothing 0 0) ≡ [] = rw (number_of_its_kind nothing tt) in
    omega (arith, ap (times j) its, below_more first (first + 1 - 1) (first + 1) j (omega arith) (omega arith))
written_uses first j (act a) =
    let its : children (node_as (action a.receives) a.line a.message) ≡ []
    = rw (number_of_its_kind (action a.receives) tt) in
    omega (arith, ap (times j) its, below_more first (first + 1 - 1) (first + 1) j (omega arith) (omega arith))
written_uses first j (alt l r) =
    pair_uses choice l r first j (written first l) (written (first + size l) r) (written_uses first j l)
    (written_uses (first + size l) j r)
written_uses first j (pair o l r) =
    pair_uses (composed o) l r first j (written first l) (written (first + size l) r) (written_uses first j l)
    (written_uses (first + size l) j r)
written_uses first j (loop k b) =
    let n = node_as (loops k) (root_from first b) 0 in
    let its : children n ≡ root_from first b ∷ [] = rw (number_of_its_kind (loops k) tt) in
    omega (
      arith,
      uses_append (written first b) (n ∷ []) j,
      ap (times j) its,
      written_uses first j b,
      below_more (first + size b) (first + (1 + size b) - 1) (first + (1 + size b)) j (omega arith) (omega arith),
    )

pub written_uses_each_once : (c : Chart) (j : ℕ) → j < size c - 1 → uses (written 0 c) j ≡ 1
written_uses_each_once c j h =
    let other : eqb (root_from 0 c) j ≡ false = ne_eqb (root_from 0 c) j (λ e. omega arith) in
    let inside : ltb j (0 + size c) ≡ true = lt-ltb j (0 + size c) (omega arith) in
    let none : ltb j 0 ≡ false = le-ltb j 0 (omega arith) in
    omega (arith, rw (other, inside, none) at (written_uses 0 j c))

-- ---- each node is in order

module _ (lifelines messages : ℕ) where
  -- Each node of a row is in order, if the first of them has that number.
  abbrev Orderly : ℕ → List Node → Type 0
  Orderly i [] = Unit
  Orderly i (n ∷ row) =
      (in_order_as (kind_of n.kind) lifelines messages i n ≡ true) × Orderly (suc i) row

  orderly_append :
      (i next : ℕ) (row more : List Node) → next ≡ i + length row → Orderly i row → Orderly next more
      → Orderly i (row ++ more)
  orderly_append i next [] more e first then = subst (λ k. Orderly k more) (omega arith) then
  orderly_append i next (n ∷ row) more e (here, first) then =
      (here, orderly_append (suc i) next row more (omega arith) first then)

  pair_orderly :
      (p : Pair) (l r : Chart) (first : ℕ) (wl wr : List Node) → length wl ≡ size l → length wr ≡ size r
      → Orderly first wl → Orderly (first + size l) wr
      → Orderly first ((wl ++ wr) ++ (parent_of (pairs p) first l r ∷ []))
  pair_orderly p l r first wl wr long_left long_right on_left at_right =
      let root = first + size l + size r in
      let a : ltb (root_from first l) root ≡ true
      = lt-ltb (root_from first l) root (omega (arith, at_least_one l, at_least_one r)) in
      let b : ltb (root_from (first + size l) r) root ≡ true
      = lt-ltb (root_from (first + size l) r) root (omega (arith, at_least_one r)) in
      orderly_append first root (wl ++ wr) (parent_of (pairs p) first l r ∷ []) (omega (arith, length-append wl wr))
      (orderly_append first (first + size l) wl wr (omega arith) on_left at_right)
      (rw (number_of_its_kind (pairs p) tt) (rw (a, b), tt))

  pub written_orderly : (first : ℕ) (c : Chart) → Declared lifelines messages c → Orderly first (written first c)
  unfolding written
  written_orderly first empty d = (rw (number_of_its_kind nothing tt), tt)
  written_orderly first (act a) (line, message) = (
    rw (number_of_its_kind (action a.receives) tt)
        (rw (lt-ltb a.line lifelines line, lt-ltb a.message messages message)),
    tt,
  )
  written_orderly first (alt l r) (dl, dr) =
      pair_orderly choice l r first (written first l) (written (first + size l) r) (length_written first l)
      (length_written (first + size l) r) (written_orderly first l dl) (written_orderly (first + size l) r dr)
  written_orderly first (pair o l r) (dl, dr) =
      pair_orderly (composed o) l r first (written first l) (written (first + size l) r) (length_written first l)
      (length_written (first + size l) r) (written_orderly first l dl) (written_orderly (first + size l) r dr)
  written_orderly first (loop k b) d =
      let root = first + size b in
      let a : ltb (root_from first b) root ≡ true = lt-ltb (root_from first b) root (omega (arith, at_least_one b)) in
      orderly_append first root (written first b) (node_as (loops k) (root_from first b) 0 ∷ [])
      (omega (arith, length_written first b)) (written_orderly first b d)
      (rw (number_of_its_kind (loops k) tt) (rw a, tt))

  pub orderly_at :
      (i : ℕ) (row : List Node) (j : ℕ) (d : Node) → Orderly i row → j < length row
      → in_order_as (kind_of (get_or row j d).kind) lifelines messages (i + j) (get_or row j d) ≡ true
  orderly_at i [] j d all h = absurd (omega arith)
  orderly_at i (n ∷ row) zero d (here, all) h =
      let same : i + 0 ≡ i = omega arith in
      rw same here
  orderly_at i (n ∷ row) (suc j) d (here, all) h =
      let same : i + suc j ≡ suc i + j = omega arith in
      rw same (orderly_at (suc i) row j d all (omega arith))
