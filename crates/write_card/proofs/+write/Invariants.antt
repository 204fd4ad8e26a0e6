-- The place number falls at each call. Assumes nothing.
use Rattle.write_card.proofs.+write.Given as goal

abbrev pub decreases-write : goal.decreases-write
decreases-write l = l.place
