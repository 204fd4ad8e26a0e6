-- Executing at a place, by the ranges of kinds that the code tests: the answers at its parts give the answer for the
-- follow-ups of the chart that stands there.
-- Assumes nothing.
use Prim.Native.Nat.{ℕ, ◌<◌, ◌≤◌}
use mathlib.Core.List.{List, ◌++◌, map}
use mathlib.Core.Path.{◌≡◌, ap, sym, subst, ◌∙◌}
use native.Mathlib.Omega.{arith}
use lib.Dec.{eqb}
use lib.ListN.{length, get_or}
use Rattle.std.specs.Prelude.{Result, Ok, Err}
use Rattle.chart_spec.specs.Action.{Action}
use Rattle.chart_spec.specs.Chart.{Loop}
use Rattle.chart_spec.specs.Chart.Chart.{empty, act, loop}
use Rattle.chart_spec.specs.Executing.{Made, after_round, follows}
use Rattle.chart_spec.specs.Executing.Made.{new_empty}
use Rattle.node.specs.declared.Node.{Node}
use Rattle.node_spec.specs.Kind.{Pair, kind_of}
use Rattle.node_spec.specs.Kind.Kind.{pairs, loops}
use Rattle.node_spec.proofs.Ranges.{three_to_six_are_pairs}
use Rattle.room_spec.specs.declared.Root.{Root}
use Rattle.room_spec.specs.declared.Missing.{Missing}
use Rattle.room_spec.specs.Room.{node_in, chart_in, Table, Rooted, Stands, Kept}
use Rattle.room_spec.specs.Building.{Builds, Follows}
use Rattle.room_spec.proofs.Standing.{kept_self, kept_node, kept_chart, kept_table, kept_then}
use Rattle.room_spec.proofs.Apart.{
  Reading,
  Working,
  table_rooted,
  empty_here,
  action_here,
  pair_here,
  loop_here,
  unknown_here,
  left_lower,
  right_lower,
  body_lower,
}
use Rattle.room_spec.proofs.Adding.{builds_more}
use Rattle.room_spec.specs.Passing.{Carries, Turns, Beside}
use Rattle.room_pairs.specs.Beside.{beside_right, beside_left}
use Rattle.room_execute.specs.Occurrences.{occurrences}
use Rattle.room_execute.proofs.Occurring.{direction}
use Rattle.room_spec.proofs.Answering.{
  answer_keeps,
  changed_follow_up,
  changed_missing,
  in_the_first,
  in_the_second,
  none_to_follow,
}
use Rattle.room_pairs.proofs.Pairing.{follows_of_a_pair, stands_beside}

module _ (work : Working) (k : ℕ) (a : Action) where
  abbrev r : Reading
  r = work.reading

  abbrev before : List ℕ
  before = r.room

  abbrev used : ℕ
  used = work.used

  abbrev place : ℕ
  place = r.place

  abbrev n : Node
  n = r.node

  table : Table before used
  table = work.table

  below : place < used
  below = work.below

  -- The follow-ups of what stood at a place.
  abbrev follows_at : ℕ → List Made
  follows_at p = follows (chart_in before p) a

  none_at_an_empty :
      chart_in before place ≡ empty → Follows before used (follows_at place) k before (Err (record { more = k }))
  unfolding follows
  none_at_an_empty e =
      subst (λ c. Follows before used (follows c a) k before (Err (record { more = k }))) (sym e)
      (none_to_follow before used k before (kept_self used before))

  pub at_an_empty : n.kind ≡ 0 → Follows before used (follows_at place) k before (Err (record { more = k }))
  at_an_empty e = none_at_an_empty (empty_here r e)

  pub at_the_unknown : 11 ≤ n.kind → Follows before used (follows_at place) k before (Err (record { more = k }))
  at_the_unknown e = none_at_an_empty (unknown_here r e)

  pub at_an_action :
      (after : List ℕ) (answer : Result Root Missing) → 1 ≤ n.kind → n.kind ≤ 2
      → Follows before used (occurrences n a) k after answer → Follows before used (follows_at place) k after answer
  at_an_action after answer low high given =
      let (receives, is, acts) = action_here r low high in
      let same : chart_in before place ≡ act (record { line = n.a; receives = eqb n.kind 2; message = n.b })
      = acts ∙ ap (λ q. act (record { line = n.a; receives = q; message = n.b })) (sym (direction n receives is)) in
      subst (λ c. Follows before used (follows c a) k after answer) (sym same) given

  -- A pair.
  module _ (low : 3 ≤ n.kind) (high : n.kind ≤ 6) where
    pub asks_left : (n.a < place) × Stands before (record { place = n.a; used = used })
    asks_left = let (l, there) = left_lower r low high in (l, (table, there, omega arith))

    right_there : (n.b < place) × Rooted before n.b
    right_there = right_lower r low high

    -- What a follow-up on its left side becomes, and the follow-ups that come from each side.
    abbrev replaced : Pair → Made → Made
    replaced q = beside_right q (chart_in before n.b)

    abbrev lefts : Pair → List Made
    lefts q = map (replaced q) (follows_at n.a)

    abbrev rights : Pair → List Made
    rights q = beside_left q (chart_in before n.a) a.line (follows_at n.b)

    follows_there : (q : Pair) → kind_of n.kind ≡ pairs q → follows_at place ≡ lefts q ++ rights q
    follows_there q is =
        ap (λ c. follows c a) (pair_here r q is)
        ∙ follows_of_a_pair q (chart_in before n.a) (chart_in before n.b) a

    -- A follow-up on its left side.
    module _ (middle : List ℕ) (x : Root) (on_left : Follows before used (follows_at n.a) k middle (Ok x))
      where
        more : used ≤ x.used
        more = builds_more on_left.1 table.counted

        pub asks_to_carry : Table middle x.used × n.b < x.used
        asks_to_carry = let (b, there) = right_there in (on_left.1.held.table, omega (arith, more))

        pub on_its_left :
            (after : List ℕ) (y : Root)
            → ((q : Pair) → kind_of n.kind ≡ pairs q
            → Carries middle x (beside_right q (chart_in middle n.b)) after y)
            → Follows before used (follows_at place) k after (Ok y)
        on_its_left after y carries =
            let (q, is) = three_to_six_are_pairs n.kind low high in
            let (b, there) = right_there in
            let (h, built) = on_left in
            let same : chart_in middle n.b ≡ chart_in before n.b
            = kept_chart used before middle built.kept n.b (omega arith) there.inside in
            let m = get_or (follows_at n.a) k new_empty in
            let carried : Builds before used (replaced q m) after y
            = subst (λ c. Builds before used (beside_right q c m) after y) same
            (carries q is before used m table built) in
            subst (λ xs. Follows before used xs k after (Ok y)) (sym (follows_there q is))
            (in_the_first before used (lefts q) k (rights q) after y
            (changed_follow_up before used (follows_at n.a) k (replaced q) after y h carried))

    -- No follow-up on its left side, and so many occurrences still to be passed over.
    module _ (middle : List ℕ) (missing : Missing)
        (on_left : Follows before used (follows_at n.a) k middle (Err missing))
      where
        middle_table : Table middle used
        middle_table = kept_table used before middle on_left.1 table

        inside_middle : (p : ℕ) → p < place → Rooted before p → Rooted middle p
        inside_middle p h there =
            table_rooted middle used p middle_table (omega arith) (omega (arith, there.inside, on_left.1.long))

        pub asks_right : (n.b < place) × Stands middle (record { place = n.b; used = used })
        asks_right = let (b, there) = right_there in (b, (middle_table, inside_middle n.b b there, omega arith))

        module _ (room : List ℕ) (right : Result Root Missing)
            (at_right : Follows middle used (follows (chart_in middle n.b) a) missing.more room right) where
          keeps_right : Kept used middle room
          keeps_right = answer_keeps middle used (follows (chart_in middle n.b) a) missing.more room right at_right

          pub asks_to_turn : Rooted room n.a × Beside room n.a right
          asks_to_turn =
              let (l, there) = left_lower r low high in
              let inside : n.a < length room = omega (arith, there.inside, on_left.1.long, keeps_right.long) in (
                table_rooted room used n.a (kept_table used middle room keeps_right middle_table) (omega arith)
                    inside,
                stands_beside middle used n.a (follows (chart_in middle n.b) a) missing.more room right middle_table
                    (omega arith) at_right,
              )

          pub on_its_right :
              (after : List ℕ) (answer : Result Root Missing)
              → ((q : Pair) → kind_of n.kind ≡ pairs q
              → Turns room missing.more right (beside_left q (chart_in room n.a) a.line) after answer)
              → Follows before used (follows_at place) k after answer
          on_its_right after answer turns =
              let (q, is) = three_to_six_are_pairs n.kind low high in
              let (l, l_there) = left_lower r low high in
              let (b, b_there) = right_there in
              let keeps : Kept used before room
              = kept_then used used before middle room (omega arith) on_left.1 keeps_right in
              let same_left : chart_in room n.a ≡ chart_in before n.a
              = kept_chart used before room keeps n.a (omega arith) l_there.inside in
              let same_right : chart_in middle n.b ≡ chart_in before n.b
              = kept_chart used before middle on_left.1 n.b (omega arith) b_there.inside in
              let turned = turns q is middle used (follows (chart_in middle n.b) a) middle_table at_right in
              let there : Follows middle used (rights q) missing.more after answer
              = rw (← same_left, ← same_right) turned in
              subst (λ xs. Follows before used xs k after answer) (sym (follows_there q is))
              (in_the_second before used (lefts q) k (rights q) middle after missing answer table.counted
              (changed_missing before used (follows_at n.a) k (replaced q) middle missing on_left) there)

  -- A loop.
  module _ (low : 7 ≤ n.kind) (high : n.kind ≤ 10) where
    pub asks_body : (n.a < place) × Stands before (record { place = n.a; used = used })
    asks_body = let (b, there) = body_lower r low high in (b, (table, there, omega arith))

    rounds_there :
        (l : Loop) → chart_in before place ≡ loop l (chart_in before n.a)
        → follows_at place ≡ map (after_round l (chart_in before n.a) a.line) (follows_at n.a)
    unfolding follows
    rounds_there l e = ap (λ c. follows c a) e

    pub no_round :
        (middle : List ℕ) (missing : Missing) → Follows before used (follows_at n.a) k middle (Err missing)
        → Follows before used (follows_at place) k middle (Err missing)
    no_round middle missing on_body =
        let (l, is, whole) = loop_here r low high in
        subst (λ xs. Follows before used xs k middle (Err missing)) (sym (rounds_there l whole))
        (changed_missing before used (follows_at n.a) k (after_round l (chart_in before n.a) a.line) middle missing
        on_body)

    module _ (middle : List ℕ) (x : Root) (on_body : Follows before used (follows_at n.a) k middle (Ok x))
      where
        built : Builds before used (get_or (follows_at n.a) k new_empty) middle x
        built = on_body.1

        pub one_round :
            (after : List ℕ) (y : Root)
            → ((l : Loop) → kind_of (node_in middle place).kind ≡ loops l
            → Carries middle x (after_round l (chart_in middle (node_in middle place).a) a.line) after y)
            → Follows before used (follows_at place) k after (Ok y)
        one_round after y carries =
            let (l, is, whole) = loop_here r low high in
            let (b, there) = body_lower r low high in
            let node : node_in middle place ≡ n
            = kept_node used before middle built.kept place below ∙ sym r.here in
            let same : chart_in middle (node_in middle place).a ≡ chart_in before n.a
            = ap (λ m. chart_in middle m.a) node
            ∙ kept_chart used before middle built.kept n.a (omega arith) there.inside in
            let m = get_or (follows_at n.a) k new_empty in
            let carried : Builds before used (after_round l (chart_in before n.a) a.line m) after y
            = subst (λ c. Builds before used (after_round l c a.line m) after y) same
            (carries l (ap (λ m. kind_of m.kind) node ∙ is) before used m table built) in
            subst (λ xs. Follows before used xs k after (Ok y)) (sym (rounds_there l whole))
            (changed_follow_up before used (follows_at n.a) k (after_round l (chart_in before n.a) a.line) after y
            on_body.0 carried)
