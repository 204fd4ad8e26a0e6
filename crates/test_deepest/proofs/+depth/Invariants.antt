-- The place number falls at each call. Assumes nothing.
use Rattle.test_deepest.proofs.+depth.Given as goal

abbrev pub decreases-depth : goal.decreases-depth
decreases-depth l = l.place
