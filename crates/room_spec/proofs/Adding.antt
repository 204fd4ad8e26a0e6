-- What is built by adding nodes: one more node, whose parts stand at lower places, takes one more place, and its chart
-- stands there; a pair, a loop and an empty are cases of it. If the room is exceeded, the count stays one above the
-- room's length.
-- Assumes nothing.
use Prim.Native.Nat.{ℕ, suc, ◌+◌, ◌<◌, ◌≤◌}
use mathlib.Core.List.{List}
use mathlib.Core.Path.{◌≡◌, refl, ap, sym, subst, ◌∙◌}
use native.Mathlib.Decide.{ℕ_discrete}
use native.Mathlib.Omega.{arith}
use lib.ListN.{length, length-set}
use lib.Seq.{get_or-set_same, take-set-le}
use Rattle.chart_spec.specs.Chart.{Loop}
use Rattle.chart_spec.specs.Executing.{Made, chart_of, cost_of}
use Rattle.chart_spec.specs.Executing.Made.{kept, new_empty, new_alt, new_pair, new_loop}
use Rattle.node.specs.declared.Node.{Node}
use Rattle.node_spec.specs.Kind.{kind_of, Pair, paired}
use Rattle.node_spec.specs.Kind.Pair.{composed, choice}
use Rattle.node_spec.specs.Kind.Kind.{pairs, loops}
use Rattle.node.specs.Place.{node_of, word_of, Fitting}
use Rattle.node_spec.specs.Row.{charts, stands, children, Below}
use Rattle.node.proofs.Packing.{unpacks_to_the_same_node}
use Rattle.node_spec.proofs.Ranges.{zero_is_nothing}
use Rattle.node_spec.proofs.Numbering.{Known, known_kinds}
use Rattle.node_spec.proofs.Rows.{stands_alike}
use Rattle.room_spec.specs.declared.Root.{Root}
use Rattle.room_spec.specs.Room.{nodes_in, node_in, chart_in, Table, Kept}
use Rattle.room_spec.specs.Building.{counted, added, root_at, Builds}
use Rattle.room_spec.proofs.Standing.{chart_at, kept_chart, kept_table, kept_self, kept_then}

-- Adding changes nothing below.
pub adding_keeps : (room : List ℕ) (used : ℕ) (n : Node) → Kept used room (added room used n)
adding_keeps room used n =
    record { long = length-set room used (word_of n); same = take-set-le used room used (word_of n) (omega arith) }

module _ (room : List ℕ) (used : ℕ) (n : Node) (inside : used < length room) (fits : Fitting n) where
  -- The node that was added.
  added_node : node_in (added room used n) used ≡ n
  added_node = ap node_of (get_or-set_same room used (word_of n) 0 inside) ∙ unpacks_to_the_same_node n fits

  module _ (low : Below used (children n)) where
    lower_there : Below used (children (node_in (added room used n) used))
    lower_there = subst (λ m. Below used (children m)) (sym added_node) low

    -- Its chart stands at its place.
    added_chart : chart_in (added room used n) used ≡ stands (charts (nodes_in room)) n
    added_chart =
        let more = added room used n in
        chart_at more used (omega (arith, length-set room used (word_of n))) lower_there
        ∙ ap (stands (charts (nodes_in more))) added_node
        ∙ stands_alike (charts (nodes_in room)) (charts (nodes_in more)) n used low
        (λ j l. kept_chart used room more (adding_keeps room used n) j l (omega arith))

-- A table with one node more is a table.
added_table :
    (room : List ℕ) (used : ℕ) (n : Node) → Table room used
    → (used < length room → Fitting n × Below used (children n))
    → Table (added room used n) (counted (length room) (used + 1))
added_table room used n table ok =
    let long = length-set room used (word_of n) in
    record {
      usable = omega (arith, table.usable);
      counted = omega arith;
      lower = λ p h inside. by p inside (omega arith) (ℕ_discrete p used);
    }
  where
    by : (p : ℕ) → p < length (added room used n) → p ≤ used → Dec (p ≡ used)
        → Below p (children (node_in (added room used n) p))
    by p inside h (yes e) =
        let here : used < length room = omega (arith, length-set room used (word_of n)) in
        let (fits, low) = ok here in
        subst (λ k. Below k (children (node_in (added room used n) k))) (sym e) (lower_there room used n here fits low)
    by p inside h (no d) =
        let l : p < used = omega arith in
        (kept_table used room (added room used n) (adding_keeps room used n) table).lower p l inside

-- A node is added to what was built so far and becomes its root: the part costs one place more.
adds :
    (before : List ℕ) (start cost : ℕ) (room : List ℕ) (used : ℕ) (n : Node) (part : Made)
    → Kept start before room → start ≤ used → Table room used → used ≡ counted (length before) (start + cost)
    → cost_of part ≡ 1 + cost → (used < length room → Fitting n × Below used (children n))
    → (used < length room → stands (charts (nodes_in room)) n ≡ chart_of part)
    → Builds before start part (added room used n) (root_at room used)
adds before start cost room used n part keeps from table sum one ok meant =
    let long = length-set room used (word_of n) in
    record {
      kept = kept_then start used before room (added room used n) from keeps (adding_keeps room used n);
      cost = omega (arith, keeps.long);
      held = record { table = added_table room used n table ok; below = λ h. omega arith };
      stands = λ h.
          let here : used < length room = omega arith in
          let (fits, low) = ok here in
          added_chart room used n here fits low ∙ meant here;
    }

-- A part that is kept as it stands.
pub kept_builds :
    (room : List ℕ) (used place : ℕ) → Table room used → (used ≤ length room → place < used)
    → Builds room used (kept (chart_in room place)) room (record { place = place; used = used })
kept_builds room used place table below =
    record {
      kept = kept_self used room;
      cost = omega (arith, table.counted);
      held = record { table = table; below = below };
      stands = λ h. refl;
    }

-- A new pair of two parts, in some order or as a choice.
abbrev pub new_paired : Pair → Made → Made → Made
new_paired (composed o) m n = new_pair o m n
new_paired choice m n = new_alt m n

new_paired_cost : (q : Pair) (m n : Made) → cost_of (new_paired q m n) ≡ 1 + (cost_of m + cost_of n)
new_paired_cost (composed o) m n = refl
new_paired_cost choice m n = refl

new_paired_chart : (q : Pair) (m n : Made) → chart_of (new_paired q m n) ≡ paired q (chart_of m) (chart_of n)
new_paired_chart (composed o) m n = refl
new_paired_chart choice m n = refl

module _ {before : List ℕ} {start : ℕ} {m : Made} {middle : List ℕ} {left : Root}
    (ml : Builds before start m middle left) where
  -- The places in use do not get fewer.
  pub builds_more : start ≤ suc (length before) → start ≤ left.used
  builds_more h = omega (arith, ml.cost)

  -- Two parts built one after the other, and a pair of them: the first built is its left side, or its right side.
  module _ {n : Made} {room : List ℕ} {right : Root} (q : Pair) (kind : ℕ) (begun : start ≤ suc (length before))
      (is : kind_of kind ≡ pairs q) (nr : Builds middle left.used n room right) where
    first_below : right.used < length room → left.place < right.used
    first_below h =
        omega (arith, ml.held.below (omega (arith, nr.cost, nr.kept.long)), nr.cost, ml.held.table.counted)

    first_chart : right.used < length room → chart_in room left.place ≡ chart_of m
    first_chart h =
        let inside : left.used ≤ length middle = omega (arith, nr.cost, nr.kept.long) in
        kept_chart left.used middle room nr.kept left.place (ml.held.below inside)
        (omega (arith, ml.held.below inside))
        ∙ ml.stands inside

    both_build :
        (a b : ℕ) (l r : Made) → cost_of l + cost_of r ≡ cost_of m + cost_of n
        → (right.used < length room → a < right.used) → (right.used < length room → b < right.used)
        → (right.used < length room → chart_in room a ≡ chart_of l)
        → (right.used < length room → chart_in room b ≡ chart_of r)
        → Builds before start (new_paired q l r) (added room right.used (record { kind = kind; a = a; b = b }))
        (root_at room right.used)
    both_build a b l r sum a_below b_below a_chart b_chart =
        let few = nr.held.table.usable in
        adds before start (cost_of m + cost_of n) room right.used (record { kind = kind; a = a; b = b })
        (new_paired q l r)
        (kept_then start left.used before middle room (builds_more begun) ml.kept nr.kept)
        (omega (arith, builds_more begun, nr.cost, ml.held.table.counted))
        nr.held.table
        (omega (arith, ml.cost, nr.cost, ml.kept.long))
        (new_paired_cost q l r ∙ ap (λ c. 1 + c) sum)
        (λ h. (
          record {
            kind = omega (arith, known_kinds kind (subst Known (sym is) tt));
            a = omega (arith, a_below h);
            b = omega (arith, b_below h);
          },
          rw is (a_below h, (b_below h, tt)),
        ))
        (λ h. rw is (ap (λ c. paired q c (chart_in room b)) (a_chart h) ∙ ap (paired q (chart_of l)) (b_chart h)
        ∙ sym (new_paired_chart q l r)))

    pub pair_builds :
        Builds before start (new_paired q m n)
        (added room right.used (record { kind = kind; a = left.place; b = right.place }))
        (root_at room right.used)
    pair_builds =
        both_build left.place right.place m n refl first_below (λ h. nr.held.below (omega arith)) first_chart
        (λ h. nr.stands (omega arith))

    pub pair_builds_backward :
        Builds before start (new_paired q n m)
        (added room right.used (record { kind = kind; a = right.place; b = left.place }))
        (root_at room right.used)
    pair_builds_backward =
        both_build right.place left.place n m (omega arith) (λ h. nr.held.below (omega arith)) first_below
        (λ h. nr.stands (omega arith)) first_chart

  -- A part and a loop of it.
  pub loop_builds :
      (k : Loop) (kind : ℕ) → start ≤ suc (length before) → kind_of kind ≡ loops k
      → Builds before start (new_loop k m) (added middle left.used (record { kind = kind; a = left.place; b = 0 }))
      (root_at middle left.used)
  loop_builds k kind begun e =
      let node : Node = record { kind = kind; a = left.place; b = 0 } in
      let few = ml.held.table.usable in
      adds before start (cost_of m) middle left.used node (new_loop k m) ml.kept (builds_more begun)
      ml.held.table
      ml.cost refl
      (λ h. (
        record {
          kind = omega (arith, known_kinds kind (subst Known (sym e) tt));
          a = omega (arith, ml.held.below (omega arith));
          b = omega arith;
        },
        rw e (omega (arith, ml.held.below (omega arith)), tt),
      ))
      (λ h. rw e (ap (λ c. chart_of (new_loop k (kept c))) (ml.stands (omega arith))))

-- A new empty.
pub empty_builds :
    (room : List ℕ) (used : ℕ) → Table room used
    → Builds room used new_empty (added room used (record { kind = 0; a = 0; b = 0 })) (root_at room used)
empty_builds room used table =
    let is = zero_is_nothing 0 refl in
    adds room used 0 room used (record { kind = 0; a = 0; b = 0 }) new_empty (kept_self used room) (omega arith) table
    (omega (arith, table.counted)) refl
    (λ h. (record { kind = omega arith; a = omega arith; b = omega arith }, rw is tt))
    (λ h. rw is)

-- The root of a node that was added, in a room that has a place left.
pub root_inside : (room : List ℕ) (used : ℕ) → used < length room
    → root_at room used ≡ record { place = used; used = used + 1 }
root_inside room used h =
    let same : counted (length room) (used + 1) ≡ used + 1 = omega arith in
    rw same

-- What was built stays built if its places are kept afterwards, or if the places below it were kept before.
pub builds_kept :
    {before middle room : List ℕ} {used : ℕ} {m : Made} {root : Root} → Builds before used m middle root
    → used ≤ root.used → Kept root.used middle room → Builds before used m room root
builds_kept {before} {middle} {room} {used} {m} {root} b more keeps =
    record {
      kept = kept_then used root.used before middle room more b.kept keeps;
      cost = b.cost;
      held =
          record {
            table = kept_table root.used middle room keeps b.held.table;
            below = λ h. b.held.below (omega (arith, keeps.long));
          };
      stands = λ h.
          let h = rw keeps.long at h in
          kept_chart root.used middle room keeps root.place (b.held.below h) (omega (arith, b.held.below h))
          ∙ b.stands h;
    }

pub kept_then_builds :
    {before middle room : List ℕ} {used : ℕ} {m : Made} {root : Root} → used ≤ suc (length before)
    → Kept used before middle → Builds middle used m room root → Builds before used m room root
kept_then_builds {before} {middle} {room} {used} {m} {root} begun keeps b =
    record {
      kept = kept_then used used before middle room (omega arith) keeps b.kept;
      cost = omega (arith, b.cost, keeps.long);
      held = b.held;
      stands = b.stands;
    }
