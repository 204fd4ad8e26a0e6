-- The place number falls at each call. Assumes nothing.
use Rattle.room_prune.proofs.+prune.Given as goal

abbrev pub decreases-prune : goal.decreases-prune
decreases-prune l = l.root.place
