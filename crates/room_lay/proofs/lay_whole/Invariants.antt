-- After i turns the first i nodes stand in the first i places, and the rest is as it was. Assumes nothing.
use Prim.Native.Nat.{◌-◌}
use mathlib.Core.Path.{◌≡◌}
use Rattle.room_lay.specs.Rooms.{placed}
use Rattle.room_lay.proofs.lay_whole.Given as goal

abbrev pub invariant-loop-i : goal.invariant-loop-i
invariant-loop-i l =
    (l.room ≡ placed l.nodes l.i l.initial.room) × (l.root ≡ record { place = l.i - 1; used = l.i })
