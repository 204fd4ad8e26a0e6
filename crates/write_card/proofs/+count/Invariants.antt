-- The place number falls at each call. Assumes nothing.
use Rattle.write_card.proofs.+count.Given as goal

abbrev pub decreases-count : goal.decreases-count
decreases-count l = l.place
