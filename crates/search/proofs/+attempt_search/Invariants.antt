-- The log gets shorter at each call of `attempt`, and `attempt` goes on with the log that it was given; the occurrences
-- left get fewer at each turn of the loop. Assumes nothing.
use Prim.Native.Nat.{◌*◌, ◌+◌, ◌-◌}
use lib.ListN.{length}
use Rattle.log_spec.specs.Bytes.{log_of}
use Rattle.room_spec.specs.Building.{action_of}
use Rattle.search_spec.proofs.Searching.{SoFar, choices}
use Rattle.search.proofs.+attempt_search.Given as goal

abbrev pub decreases-attempt : goal.decreases-attempt
decreases-attempt l = length l.rest.now * 2 + 1

abbrev pub decreases-search : goal.decreases-search
decreases-search l = length l.log.now * 2

abbrev pub invariant-search-loop-x : goal.invariant-search-loop-x
invariant-search-loop-x l =
    SoFar l.fn.room (action_of l.action) (log_of l.rest) l.root l.fn.tally l.room l.deepest l.tally l.k

abbrev pub decreases-search-loop-x : goal.decreases-search-loop-x
decreases-search-loop-x l = length (choices l.fn.room (action_of l.action) (log_of l.rest) l.root l.fn.tally) - l.k
