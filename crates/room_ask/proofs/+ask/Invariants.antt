-- The place number falls at each call. Assumes nothing.
use Rattle.room_ask.proofs.+ask.Given as goal

abbrev pub decreases-ask : goal.decreases-ask
decreases-ask g l = l.place
