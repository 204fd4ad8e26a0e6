-- `with_bytes` meets its contract: after i turns the first i bytes have been added to the text. Assumes nothing.
use Prim.Native.Nat.{◌-◌, ◌≤◌}
use lib.ListN.{length, take}
use Rattle.bench_line.specs.Texts.{Adds}
use Rattle.bench_line.proofs.with_bytes.Given as goal

abbrev pub invariant-loop-i : goal.invariant-loop-i
invariant-loop-i l = (l.i ≤ length l.more) × Adds l.initial.longer (take l.i l.more) l.longer

abbrev pub decreases-loop-i : goal.decreases-loop-i
decreases-loop-i l = length l.more - l.i
