-- An action of a chart: its direction by the number of its kind, and its follow-up by an action of a log.
-- Assumes nothing.
use Prim.Native.Nat.{ℕ, ◌-◌, ◌≤◌}
use mathlib.Core.Bool.{Bool, true, false}
use mathlib.Core.List.{List}
use mathlib.Core.Path.{◌≡◌, sym, ◌∙◌}
use native.Mathlib.Omega.{arith}
use lib.Dec.{eqb}
use borrow.Author.Tests.{eq-eqb, ne_eqb}
use Rattle.std.specs.Prelude.{Ok, Err}
use Rattle.chart_spec.specs.Action.{Action, same}
use Rattle.chart_spec.specs.Executing.{follows}
use Rattle.node.specs.declared.Node.{Node}
use Rattle.node_spec.specs.Kind.{kind_of}
use Rattle.node_spec.specs.Kind.Kind.{action}
use Rattle.node_spec.proofs.Numbering.{kind_has_its_number}
use Rattle.room_spec.specs.Room.{Table}
use Rattle.room_spec.specs.Building.{Follows, added, root_at}
use Rattle.room_spec.proofs.Standing.{kept_self}
use Rattle.room_spec.proofs.Adding.{empty_builds}
use Rattle.room_execute.specs.Occurrences.{occurrences}

-- The number of the kind gives the direction.
pub direction : (n : Node) (r : Bool) → kind_of n.kind ≡ action r → eqb n.kind 2 ≡ r
direction n true e = eq-eqb n.kind 2 (kind_has_its_number n.kind (action true) e tt)
direction n false e =
    ne_eqb n.kind 2 (λ two. let one = kind_has_its_number n.kind (action false) e tt in omega arith)

module _ (room : List ℕ) (used k : ℕ) (n : Node) (a : Action) (is : Bool)
    (asked : is ≡ same a (record { line = n.a; receives = eqb n.kind 2; message = n.b })) where
  -- Another action has no follow-up.
  pub another_action : is ≡ false → Follows room used (occurrences n a) k room (Err (record { more = k }))
  unfolding follows
  another_action e = rw (sym asked ∙ e) (omega arith, kept_self used room)

  -- The action has one.
  pub passed_over : is ≡ true → 1 ≤ k → Follows room used (occurrences n a) k room (Err (record { more = k - 1 }))
  unfolding follows
  passed_over e h = rw (sym asked ∙ e) (omega arith, kept_self used room)

  pub becomes_empty :
      is ≡ true → k ≡ 0 → Table room used
      → Follows room used (occurrences n a) k (added room used (record { kind = 0; a = 0; b = 0 }))
      (Ok (root_at room used))
  unfolding follows
  becomes_empty e first table = rw (sym asked ∙ e, first) (omega arith, empty_builds room used table)
