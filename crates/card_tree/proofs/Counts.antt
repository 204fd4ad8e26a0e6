-- Counting children in a list of counts: what each count is afterwards, that it stays small, and which nodes are found
-- by it not to be a child once.
-- Assumes nothing.
use Prim.Native.Nat.{ℕ, ◌+◌, ◌*◌, ◌<◌, ◌≤◌}
use mathlib.Core.Bool.{Bool, true, false, cond}
use mathlib.Core.List.{List, [], ◌∷◌}
use mathlib.Core.Logic.{◌≢◌}
use mathlib.Core.Path.{◌≡◌, refl, sym, ◌∙◌}
use native.Mathlib.Decide.{ℕ_discrete, dec_lt}
use native.Mathlib.Numerals.{add-one}
use native.Mathlib.Omega.{arith}
use lib.Dec.{eqb}
use lib.ListN.{length, get_or, take, replicate, length-set, length-take, get_or-replicate, get_or-eq_default}
use lib.Seq.{get_or-take, get_or-set_same, get_or-set_other, set_out}
use borrow.Author.Tests.{eq-eqb, ne_eqb}
use Rattle.std.specs.Prelude.{Ok, Err}
use Rattle.number_spec.specs.declared.Refusal.TheVariants.{MisusedNode}
use Rattle.node.specs.declared.Node.{Node}
use Rattle.node_spec.specs.Kind.{Kind, kind_of}
use Rattle.node_spec.specs.Kind.Kind.{nothing, action, pairs, loops, unknown}
use Rattle.node_spec.specs.Row.{children, children_as, times, uses, Below}
use Rattle.node_spec.proofs.Rows.{uses_append}
use Rattle.card_spec.proofs.Rows.{length_row}
use Rattle.card_spec.specs.Nodes.{node_at, row_to}
use Rattle.card_spec.specs.Findings.{used_once, lowest}
use Rattle.card_spec.proofs.Lowest.{found_here, none→fine}
use Rattle.card_tree.specs.Counting.{one_more, one_more_each}

-- The count of k grows by one, and no other count grows.
pub one_more_at :
    (counts : List ℕ) (k j : ℕ) → k < length counts
    → get_or (one_more counts k) j 0 ≡ get_or counts j 0 + cond (eqb k j) 1 0
one_more_at counts k j h = by (ℕ_discrete k j)
  where
    by : Dec (k ≡ j) → get_or (one_more counts k) j 0 ≡ get_or counts j 0 + cond (eqb k j) 1 0
    by (yes e) = rw (eq-eqb k j e, ← e) (get_or-set_same counts k (get_or counts k 0 + 1) 0 h)
    by (no d) = rw (ne_eqb k j d) (get_or-set_other counts k j (get_or counts k 0 + 1) 0 (λ e. d (sym e)) ∙ omega arith)

one_or_none : (b : Bool) → cond b 1 0 ≤ 1
one_or_none true = omega arith
one_or_none false = omega arith

-- No count grows by more than one.
pub one_more_grows_by_one : (counts : List ℕ) (k j : ℕ) → get_or (one_more counts k) j 0 ≤ get_or counts j 0 + 1
one_more_grows_by_one counts k j = by (dec_lt k (length counts))
  where
    by : Dec (k < length counts) → get_or (one_more counts k) j 0 ≤ get_or counts j 0 + 1
    by (yes h) = omega (arith, one_more_at counts k j h, one_or_none (eqb k j))
    by (no h) = rw (set_out counts k (get_or counts k 0 + 1) (omega arith)) (omega arith)

-- Each count grows by how often its number is in the list.
pub one_more_each_at :
    (counts ks : List ℕ) (j : ℕ) → Below (length counts) ks
    → get_or (one_more_each counts ks) j 0 ≡ get_or counts j 0 + times j ks
one_more_each_at counts [] j h = omega arith
one_more_each_at counts (k ∷ ks) j (h, hs) =
    let same : length (one_more counts k) ≡ length counts = length-set counts k (get_or counts k 0 + 1) in
    omega (arith, one_more_each_at (one_more counts k) ks j (rw same hs), one_more_at counts k j h)

times_few : (j : ℕ) (ks : List ℕ) → times j ks ≤ length ks
times_few j [] = omega arith
times_few j (k ∷ ks) = omega (arith, times_few j ks, one_or_none (eqb k j))

two_children : (k : Kind) (n : Node) → length (children_as k n) ≤ 2
two_children nothing n = omega arith
two_children (action r) n = omega arith
two_children (pairs p) n = omega arith
two_children (loops k) n = omega arith
two_children unknown n = omega arith

-- Each node has j as a child at most twice.
pub uses_few : (row : List Node) (j : ℕ) → uses row j ≤ 2 * length row
uses_few [] j = omega arith
uses_few (n ∷ row) j =
    omega (arith, uses_few row j, times_few j (children n), two_children (kind_of n.kind) n)

length_one_more_each : (counts ks : List ℕ) → length (one_more_each counts ks) ≡ length counts
length_one_more_each counts [] = refl
length_one_more_each counts (k ∷ ks) =
    length_one_more_each (one_more counts k) ks ∙ length-set counts k (get_or counts k 0 + 1)

-- The children of the first i nodes are counted.
abbrev pub Counted : List ℕ → ℕ → List ℕ → Type 0
Counted nodes i counts = (length counts ≡ 255) × ((j : ℕ) → j < 255 → get_or counts j 0 ≡ uses (row_to nodes i) j)

pub none_counted : (nodes : List ℕ) → Counted nodes 0 (replicate 255 0)
none_counted nodes = (refl, λ j h. get_or-replicate 255 j 0 0 h)

pub counts_are_small :
    (nodes : List ℕ) (i : ℕ) (counts : List ℕ) → i ≤ 255 → Counted nodes i counts → (j : ℕ) → get_or counts j 0 < 65534
counts_are_small nodes i counts few (long, at) j = by (dec_lt j 255)
  where
    by : Dec (j < 255) → get_or counts j 0 < 65534
    by (yes h) = omega (arith, at j h, uses_few (row_to nodes i) j, length_row nodes i)
    by (no h) = omega (arith, get_or-eq_default counts 0 {n = j} (omega arith))

-- One more node is counted.
pub one_more_counted :
    (nodes : List ℕ) (i : ℕ) (counts next : List ℕ) (n : Node)
    → n ≡ node_at nodes i → next ≡ one_more_each counts (children n) → Below 255 (children n)
    → Counted nodes i counts → Counted nodes (i + 1) next
one_more_counted nodes i counts next n en enext low (long, at) =
    let room : Below (length counts) (children n) = rw long low in (
      rw enext (length_one_more_each counts (children n) ∙ long),
      λ j h.
          rw (add-one i, enext, ← en)
          (omega (arith, one_more_each_at counts (children n) j room, at j h, uses_append (row_to nodes i) (n ∷ []) j)),
    )

-- The counts of the nodes before the root tell which node is refused.
module _ (row : List Node) (counts : List ℕ) (root : ℕ) (long : root ≤ length counts)
    (counted : (j : ℕ) → j < root → get_or counts j 0 ≡ uses row j) where
  abbrev before : List ℕ
  before = take root counts

  as_counted : (j : ℕ) → j < root → get_or before j 0 ≡ uses row j
  as_counted j h = get_or-take root counts j 0 h ∙ counted j h

  once : (j : ℕ) → j < root → get_or before j 0 ≡ 1 → used_once row j ≡ true
  once j h e = eq-eqb (uses row j) 1 (sym (as_counted j h) ∙ e)

  -- The lowest count that is not 1 refuses its node,
  pub some_misused :
      (i : ℕ) → i < length before → get_or before i 0 ≢ 1 → ((j : ℕ) → j < i → get_or before j 0 ≡ 1)
      → lowest (used_once row) MisusedNode root ≡ Err (MisusedNode i)
  some_misused i inside other ones =
      let h : i < root = omega (arith, length-take root counts) in
      found_here (used_once row) MisusedNode i root h
      (none→fine (used_once row) MisusedNode i (λ j k. once j (omega arith) (ones j k)))
      (ne_eqb (uses row i) 1 (λ e. other (as_counted i h ∙ e)))

  -- and if every count is 1, no node is refused.
  pub none_misused :
      ((j : ℕ) → j < length before → get_or before j 0 ≡ 1) → lowest (used_once row) MisusedNode root ≡ Ok tt
  none_misused ones =
      none→fine (used_once row) MisusedNode root
      (λ j h. once j h (ones j (omega (arith, length-take root counts, long))))
