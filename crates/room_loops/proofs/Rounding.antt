-- Executing in a loop: the round that was begun, and the loop itself after it; for a weak loop, the pruned loop before
-- both.
-- Assumes nothing.
use Prim.Native.Nat.{ℕ, ◌<◌, ◌≤◌}
use mathlib.Core.List.{List}
use mathlib.Core.Logic.{◌≢◌}
use mathlib.Core.Path.{◌≡◌, refl, ap, sym, subst, ◌∙◌}
use native.Mathlib.Omega.{arith}
use borrow.Author.Tests.{eq-eqb, ne_eqb}
use lib.ListN.{length}
use Rattle.std.specs.Prelude.{Option}
use Rattle.chart_spec.specs.Chart.{Chart, Loop}
use Rattle.chart_spec.specs.Chart.Order.{strict, seq, par}
use Rattle.chart_spec.specs.Chart.Loop.{each, head}
use Rattle.chart_spec.specs.Chart.Chart.{loop}
use Rattle.chart_spec.specs.Executing.{Made, prune, between, begun, after_round}
use Rattle.chart_spec.specs.Executing.Made.{kept, new_pair}
use Rattle.node.specs.declared.Node.{Node}
use Rattle.node_spec.specs.Kind.{kind_of, number_of}
use Rattle.node_spec.specs.Kind.Pair.{composed}
use Rattle.node_spec.specs.Kind.Kind.{pairs, loops}
use Rattle.node_spec.proofs.Ranges.{strict_is_three, seq_is_four, par_is_five, weak_is_nine}
use Rattle.node_spec.proofs.Numbering.{kind_has_its_number, one_loop}
use Rattle.room_spec.specs.declared.Root.{Root}
use Rattle.room_spec.specs.Room.{chart_in, Table, Rooted, Stands}
use Rattle.room_spec.specs.Building.{added, root_at, Held, Builds, Prunes}
use Rattle.room_spec.proofs.Standing.{kept_chart}
use Rattle.room_spec.proofs.Apart.{Reading, table_rooted, loop_of_that_kind, body_lower}
use Rattle.room_spec.proofs.Adding.{builds_more, kept_builds, pair_builds, pair_builds_backward}
use Rattle.room_prune.specs.Sides.{above, loop_of, loop_in}
use Rattle.room_prune.proofs.Left.{prunes_table, loop_pruned}
use Rattle.room_spec.specs.Passing.{Carries}
use Rattle.room_loops.specs.Orders.{order_between}

-- The kind of the pair between the rounds of a loop.
pub order_between_lem : (kind : ℕ) (l : Loop) → kind_of kind ≡ loops l
    → kind_of (order_between kind) ≡ pairs (composed (between l))
order_between_lem kind l e = by l (kind_has_its_number kind (loops l) e tt)
  where
    by : (l : Loop) → kind ≡ number_of (loops l) → kind_of (order_between kind) ≡ pairs (composed (between l))
    by (each strict) same = rw (eq-eqb kind 7 same) strict_is_three
    by (each seq) same = rw (ne_eqb kind 7 (λ h. omega arith), ne_eqb kind 10 (λ h. omega arith)) seq_is_four
    by (each par) same = rw (ne_eqb kind 7 (λ h. omega arith), eq-eqb kind 10 same) par_is_five
    by head same = rw (ne_eqb kind 7 (λ h. omega arith), ne_eqb kind 10 (λ h. omega arith)) seq_is_four

-- Any loop but the weak one gives the round that was begun.
pub no_weak_loop :
    (kind : ℕ) (l : Loop) (b : Chart) (d : ℕ) (x : Made) → kind_of kind ≡ loops l → kind ≢ 9
    → after_round l b d x ≡ begun l b x
no_weak_loop kind (each strict) b d x e other = refl
no_weak_loop kind (each seq) b d x e other = absurd (other (kind_has_its_number kind (loops (each seq)) e tt))
no_weak_loop kind (each par) b d x e other = refl
no_weak_loop kind head b d x e other = refl

module _ (room : List ℕ) (place kind : ℕ) (x : Root) (l : Loop) (b : Chart) (is : kind_of kind ≡ loops l)
    (here : chart_in room place ≡ loop l b) (table : Table room x.used) (below : place < x.used) where
  abbrev round : List ℕ
  round = added room x.used (record { kind = order_between kind; a = x.place; b = place })

  -- The round that was begun, and the loop itself after it.
  pub round_begun : Carries room x (begun l b) round (root_at room x.used)
  round_begun before used m start built =
      subst (λ c. Builds before used (new_pair (between l) m (kept c)) round (root_at room x.used)) here
      (pair_builds built (composed (between l)) (order_between kind) start.counted (order_between_lem kind l is)
      (kept_builds room x.used place table (λ h. below)))

  pub round_of_another_loop : (d : ℕ) → kind ≢ 9 → Carries room x (after_round l b d) round (root_at room x.used)
  round_of_another_loop d other before used m start built =
      subst (λ n. Builds before used n round (root_at room x.used)) (sym (no_weak_loop kind l b d m is other))
      (round_begun before used m start built)

  -- For a weak loop, the pruned loop before both.
  pub round_of_a_weak_loop :
      (d : ℕ) → kind ≡ 9 → (after : List ℕ) (front : Root)
      → Builds round (root_at room x.used).used (prune (loop l b) d) after front
      → Carries room x (after_round l b d)
      (added after front.used (record { kind = 4; a = front.place; b = x.used }))
      (root_at after front.used)
  round_of_a_weak_loop d nine after front pruned before used m start built =
      let whole = pair_builds_backward (round_begun before used m start built) (composed seq) 4 start.counted
      seq_is_four pruned in
      subst (λ n. Builds before used n (added after front.used
      (record { kind = 4; a = front.place; b = x.used }))
      (root_at after front.used)) (sym (by l (sym (one_loop kind 9 (each seq) l nine weak_is_nine is)))) whole
    where
      by : (k : Loop) → k ≡ each seq → {m : Made}
          → after_round k b d m ≡ new_pair seq (prune (loop k b) d) (begun k b m)
      by k e {m} = rw e

-- The loop at a place, when its body has become the part x by an action on a lifeline.
pub record Going : Type 0 where
  pub reading : Reading
  pub lifeline : ℕ
  pub x : Root
  pub held : Held reading.room x
  pub below : reading.place < x.used

module _ (going : Going) where
  abbrev r : Reading
  r = going.reading

  abbrev d : ℕ
  d = going.lifeline

  abbrev x : Root
  x = going.x

  held : Held r.room x
  held = going.held

  below : r.place < x.used
  below = going.below

  abbrev room : List ℕ
  room = r.room

  abbrev place : ℕ
  place = r.place

  abbrev node : Node
  node = r.node

  abbrev begun_in : List ℕ
  begun_in = added room x.used (record { kind = order_between node.kind; a = x.place; b = place })

  abbrev begun_at : Root
  begun_at = root_at room x.used

  abbrev body : Chart
  body = chart_in room node.a

  pub at_another_loop :
      node.kind ≢ 9 → (l : Loop) → kind_of node.kind ≡ loops l → Carries room x (after_round l body d) begun_in
      begun_at
  at_another_loop other l is =
      round_of_another_loop room place node.kind x l body is (loop_of_that_kind r l is)
      held.table below d other

  -- At a weak loop.
  module _ (nine : node.kind ≡ 9) where
    weak : kind_of node.kind ≡ loops (each seq)
    weak = ap kind_of nine ∙ weak_is_nine

    whole_round : Builds room x.used (begun (each seq) body (kept (chart_in room x.place))) begun_in begun_at
    whole_round =
        round_begun room place node.kind x (each seq) body weak
        (loop_of_that_kind r (each seq) weak) held.table below room x.used
        (kept (chart_in room x.place)) held.table
        (kept_builds room x.used x.place held.table held.below)

    body_there : (node.a < place) × Rooted room node.a
    body_there = body_lower r (omega arith) (omega arith)

    pub asks_to_prune : Stands begun_in (record { place = node.a; used = begun_at.used })
    asks_to_prune =
        let (a, there) = body_there in
        let table = whole_round.held.table in
        let more : x.used ≤ begun_at.used = builds_more whole_round held.table.counted in
        let inside : node.a < length begun_in = omega (arith, there.inside, whole_round.kept.long) in
        (table, table_rooted begun_in begun_at.used node.a table (omega arith) inside, omega arith)

    module _ (pruned : List ℕ) (left : Option Root)
        (on_body : Prunes begun_in begun_at.used (chart_in begun_in node.a) d pruned left) where
      pub pruned_table : Table pruned (above left begun_at.used)
      pruned_table =
          prunes_table begun_in begun_at.used (chart_in begun_in node.a) d pruned left begun_at.used (omega arith)
          whole_round.held.table on_body

      abbrev front_in : List ℕ
      front_in = loop_in pruned node.kind left begun_at.used

      abbrev front_at : Root
      front_at = loop_of pruned left begun_at.used

      front_built : Builds begun_in begun_at.used (prune (loop (each seq) body) d) front_in front_at
      front_built =
          let (a, there) = body_there in
          let same : chart_in begun_in node.a ≡ body
          = kept_chart x.used room begun_in whole_round.kept node.a (omega arith) there.inside in
          subst (λ c. Builds begun_in begun_at.used (prune (loop (each seq) c) d) front_in front_at) same
          (loop_pruned begun_in pruned begun_at.used d (chart_in begun_in node.a) (each seq) node.kind
          whole_round.held.table weak left on_body)

      pub front_table : Table front_in front_at.used
      front_table = front_built.held.table

      pub at_a_weak_loop :
          (l : Loop) → kind_of node.kind ≡ loops l
          → Carries room x (after_round l body d)
          (added front_in front_at.used (record { kind = 4; a = front_at.place; b = begun_at.place }))
          (root_at front_in front_at.used)
      at_a_weak_loop l is =
          let same : each seq ≡ l = one_loop node.kind 9 (each seq) l nine weak_is_nine is in
          subst (λ k. Carries room x (after_round k body d)
          (added front_in front_at.used (record { kind = 4; a = front_at.place; b = begun_at.place }))
          (root_at front_in front_at.used)) same
          (round_of_a_weak_loop room place node.kind x (each seq) body weak
          (loop_of_that_kind r (each seq) weak) held.table below d nine front_in front_at
          front_built)
