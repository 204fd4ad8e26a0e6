-- Executing in a pair. Each law is one case of 01's rules: what the code answers is the answer for the follow-ups that
-- the rule names.
-- Assumes nothing.
use Prim.Native.Nat.{ℕ, ◌<◌}
use mathlib.Core.Bool.{true}
use mathlib.Core.List.{List, ◌++◌, map, map-id}
use mathlib.Core.Logic.{◌≢◌}
use mathlib.Core.Path.{◌≡◌, refl, ap, sym, subst}
use native.Mathlib.Omega.{arith}
use Rattle.std.specs.Prelude.{Result, Ok, Err}
use Rattle.chart_spec.specs.Action.{Action}
use Rattle.chart_spec.specs.Chart.{Chart}
use Rattle.chart_spec.specs.Chart.Order.{strict, seq, par}
use Rattle.chart_spec.specs.Executing.{Made, evades, prune, on_right, follows}
use Rattle.chart_spec.specs.Executing.Made.{kept, new_pair}
use Rattle.node_spec.specs.Kind.{Pair, kind_of, paired}
use Rattle.node_spec.specs.Kind.Pair.{composed, choice}
use Rattle.node_spec.specs.Kind.Kind.{pairs}
use Rattle.node_spec.proofs.Ranges.{strict_is_three, seq_is_four, par_is_five, six_is_the_choice}
use Rattle.node_spec.proofs.Numbering.{kind_has_its_number, one_pair, else_the_choice}
use Rattle.room_spec.specs.declared.Root.{Root}
use Rattle.room_spec.specs.declared.Missing.{Missing}
use Rattle.room_spec.specs.Room.{chart_in, Table}
use Rattle.room_spec.specs.Building.{added, root_at, Builds, Follows}
use Rattle.room_spec.proofs.Adding.{builds_more, kept_builds, pair_builds, pair_builds_backward}
use Rattle.room_spec.specs.Passing.{Carries, Turns, Beside}
use Rattle.room_pairs.specs.Beside.{beside_right, beside_left}
use Rattle.room_spec.proofs.Answering.{changed_follow_up}

-- The follow-ups of a pair are those that come from its left side, and then those that come from its right side.
pub follows_of_a_pair :
    (q : Pair) (l r : Chart) (a : Action)
    → follows (paired q l r) a ≡ map (beside_right q r) (follows l a) ++ beside_left q l a.line (follows r a)
unfolding follows
follows_of_a_pair (composed o) l r a = refl
follows_of_a_pair choice l r a = ap (λ xs. xs ++ follows r a) (sym (map-id (follows l a)))

-- In an alt the left side's follow-up alone remains; in any other pair it replaces the side.
pub left_alone :
    (room : List ℕ) (kind place : ℕ) (x : Root) (q : Pair) → kind_of kind ≡ pairs q → kind ≡ 6
    → Carries room x (beside_right q (chart_in room place)) room x
left_alone room kind place x q e six before used m start b =
    subst (λ p. Builds before used (beside_right p (chart_in room place) m) room x)
    (one_pair kind 6 choice q six (six_is_the_choice 6 refl) e) b

pub left_replaced :
    (room : List ℕ) (kind place : ℕ) (x : Root) (q : Pair) → kind_of kind ≡ pairs q → kind ≢ 6 → Table room x.used
    → place < x.used
    → Carries room x (beside_right q (chart_in room place))
    (added room x.used (record { kind = kind; a = x.place; b = place })) (root_at room x.used)
left_replaced room kind place x (composed o) e other table below =
    λ before used m start b. pair_builds b (composed o) kind start.counted e
    (kept_builds room x.used place table (λ h. below))
left_replaced room kind place x choice e other table below =
    absurd (other (kind_has_its_number kind (pairs choice) e tt))

-- A follow-up on the right.
module _ (room : List ℕ) (k d : ℕ) (x : Root) (l : Chart) (after : List ℕ) where
  -- "The left is pruned by d": the pruned left is built after the follow-up, and then a seq of both.
  pub seq_passed :
      (kind : ℕ) (front : Root) → kind_of kind ≡ pairs (composed seq) → evades l d ≡ true
      → Builds room x.used (prune l d) after front
      → Turns room k (Ok x) (on_right seq l d)
      (added after front.used (record { kind = kind; a = front.place; b = x.place }))
      (Ok (root_at after front.used))
  seq_passed kind front is e pruned before used xs start (h, b) =
      rw e (changed_follow_up before used xs k (new_pair seq (prune l d))
      (added after front.used (record { kind = kind; a = front.place; b = x.place }))
      (root_at after front.used) h (pair_builds_backward b (composed seq) kind start.counted is pruned))

-- "Right in par: likewise", the side is replaced.
pub par_replaced :
    (room : List ℕ) (k d kind place : ℕ) (x : Root) → kind_of kind ≡ pairs (composed par) → Table room x.used
    → place < x.used
    → Turns room k (Ok x) (on_right par (chart_in room place) d)
    (added room x.used (record { kind = kind; a = place; b = x.place })) (Ok (root_at room x.used))
par_replaced room k d kind place x is table below before used xs start (h, b) =
    changed_follow_up before used xs k (new_pair par (kept (chart_in room place)))
    (added room x.used (record { kind = kind; a = place; b = x.place })) (root_at room x.used) h
    (pair_builds_backward b (composed par) kind start.counted is
    (kept_builds room x.used place table (λ h. below)))

-- By the kind of the pair.
module _ (room : List ℕ) (kind k d : ℕ) (right : Result Root Missing) (l : Chart) (after : List ℕ)
    (answer : Result Root Missing) (q : Pair) (is : kind_of kind ≡ pairs q) where
  abbrev Turned : Pair → Type 0
  Turned p = Turns room k right (beside_left p l d) after answer

  pub in_a_strict : kind ≡ 3 → Turned (composed strict) → Turned q
  in_a_strict three = subst Turned (one_pair kind 3 (composed strict) q three strict_is_three is)

  pub in_a_seq : kind ≡ 4 → Turned (composed seq) → Turned q
  in_a_seq four = subst Turned (one_pair kind 4 (composed seq) q four seq_is_four is)

  pub in_a_par : kind ≡ 5 → Turned (composed par) → Turned q
  in_a_par five = subst Turned (one_pair kind 5 (composed par) q five par_is_five is)

  pub in_an_alt : kind ≢ 3 → kind ≢ 4 → kind ≢ 5 → Turned choice → Turned q
  in_an_alt three four five = subst Turned (else_the_choice kind q is three four five)

-- After an answer, a part that was in use stands beside the follow-up.
pub stands_beside :
    (before : List ℕ) (used place : ℕ) (xs : List Made) (k : ℕ) (after : List ℕ) (e : Result Root Missing)
    → Table before used → place < used → Follows before used xs k after e → Beside after place e
stands_beside before used place xs k after (Ok x) table below (h, b) =
    (b.held.table, omega (arith, builds_more b table.counted))
stands_beside before used place xs k after (Err missing) table below answer = tt
