-- `read_open` ends: each turn puts more bytes after those that were read before, and never more than fit. What was read
-- so far are the bytes that the file had and has no more. Assumes nothing.
use Rattle.std.proofs.Common.{◌≡◌, ◌-◌, ◌≤◌, length, take}
use Rattle.std.specs.Io.KnownBytes.{Consumes}
use Rattle.bench_files.proofs.read_open.Given as goal

abbrev pub invariant-loop-read : goal.invariant-loop-read
invariant-loop-read g l =
    record {
      inside : l.end ≤ l.long;
      long : length l.bytes ≡ l.long;
      lost : Consumes (g.F.Read.remaining l.initial.file) (g.F.Read.remaining l.file) (take l.end l.bytes);
    }

abbrev pub decreases-loop-read : goal.decreases-loop-read
decreases-loop-read g l = l.long - l.end
