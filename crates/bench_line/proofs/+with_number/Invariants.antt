-- The number falls at each call. Assumes nothing.
use Rattle.bench_line.proofs.+with_number.Given as goal

abbrev pub decreases-with_number : goal.decreases-with_number
decreases-with_number l = l.number
