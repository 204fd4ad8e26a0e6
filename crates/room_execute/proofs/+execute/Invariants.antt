-- The place number falls at each call. Assumes nothing.
use Rattle.room_execute.proofs.+execute.Given as goal

abbrev pub decreases-execute : goal.decreases-execute
decreases-execute l = l.root.place
