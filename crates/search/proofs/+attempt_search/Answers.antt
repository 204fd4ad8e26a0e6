-- `search` and `attempt` meet their contracts: `attempt` is one step of the definition, and each turn of the loop is
-- one occurrence: none is left, or its follow-up settles the search, or it fails and the next one is tried.
-- Assumes nothing.
use Rattle.std.proofs.Common.{rules}
use Prim.Native.Nat.{ℕ, ◌+◌, ◌-◌, max}
use mathlib.Core.List.{◌∷◌}
use mathlib.Core.Path.{◌≡◌, refl, sym, ap, ◌∙◌}
use native.Mathlib.Omega.{arith}
use lib.ListN.{length, take, drop, length-take}
use Rattle.log_spec.specs.Bytes.{log_of}
use Rattle.log_spec.proofs.Actions.{first_action, as_many_actions}
use Rattle.room_spec.specs.Building.{action_of}
use Rattle.search_spec.proofs.Trying.{attempt_within}
use Rattle.search_spec.proofs.Searching.{
  Settled,
  Task,
  Turn,
  log_ends,
  at_first,
  still_stands,
  no_choice_left,
  choice_left,
  choice_settles,
  choice_fails,
}
use Rattle.search_spec.specs.declared.Outcome.{Outcome}
use Rattle.search_spec.specs.declared.Outcome.TheVariants.{Found, Failed, Stopped}
use Rattle.search.proofs.+attempt_search.Goals as goal
use Rattle.search.proofs.+attempt_search.Goals.{search-At-loop-x}

-- An outcome that is not `Failed` settles the search.
settled : (o : Outcome) → ((deepest : ℕ) → o ≡ Failed deepest → ⊥) → Settled o
settled Found h = tt
settled (Failed deepest) h = absurd (h deepest refl)
settled (Stopped number) h = tt

-- The search, after its first action was read.
abbrev task : {t : ℕ} (c : search-At-loop-x t) → Task
task c =
    let log = c.args.log.now in
    record {
      log = log;
      room = c.args.room.now;
      root = c.args.root;
      lent = c.args.tally;
      stands = c.requires.0;
      action = c.action_at-action.result;
      rest = take (length log - 2) (drop 2 log);
      starts = first_action log (omega arith)
          ∙ ap (λ a. a ∷ log_of (take (length log - 2) (drop 2 log))) (sym c.action_at-action.ensures);
    }

-- A turn of its loop.
abbrev turn : {t : ℕ} (c : search-At-loop-x t) → Turn
turn c =
    record {
      task = task c;
      room = c.loop-x.room;
      deepest = c.loop-x.deepest;
      tally = c.loop-x.tally;
      k = c.loop-x.k;
      so_far = c.loop-x.invariant;
    }

pub search-returns-then-log-lt-ACTION_BYTES : goal.search-returns-then-log-lt-ACTION_BYTES
search-returns-then-log-lt-ACTION_BYTES t c =
    let s = c.args in
    log_ends s.room.now s.log.now s.root s.tally c.at_end-outcome.result c.if-log-lt-ACTION_BYTES.true
    c.at_end-outcome.ensures

pub search-loop-x-init : goal.search-loop-x-init
search-loop-x-init t c =
    let s = c.args in
    at_first s.room.now (action_of c.action_at-action.result)
    (log_of (take (length s.log.now - 2) (drop 2 s.log.now))) s.root s.tally

pub search-execute-requires : goal.search-execute-requires
search-execute-requires t c = still_stands (turn (goal.at.search-execute-requires t c).At-loop-x)

pub search-returns : goal.search-returns
search-returns t c =
    no_choice_left (turn (goal.at.search-returns t c).At-loop-x) c.execute.new.room c.in_default.field-0
    (rw c.in_default.is at c.execute.ensures)

pub search-returns-in_default-outcome : goal.search-returns-in_default-outcome
search-returns-in_default-outcome t c =
    let tried = c.attempt-ended in
    choice_settles (turn (goal.at.search-returns-in_default-outcome t c).At-loop-x) c.execute.new.room c.in-Ok.x
    (rw c.in-Ok.is at c.execute.ensures) tried.new.room tried.result tried.ensures
    (settled tried.result.outcome c.in_default-outcome.not-Failed)

pub search-overflow_add-beyond : goal.search-overflow_add-beyond
search-overflow_add-beyond t c =
    let u = turn (goal.at.search-overflow_add-beyond t c).At-loop-x in
    let tried = c.attempt-ended in
    let long = length c.args.log.now in
    let deep =
    attempt_within c.execute.new.room (log_of u.task.rest) c.in-Ok.x u.tally tried.new.room tried.result
    c.in-Failed.beyond tried.ensures c.in-Failed.is in
    omega (arith, deep, as_many_actions u.task.rest, length-take (long - 2) (drop 2 c.args.log.now), c.requires.1)

pub search-loop-x-smaller : goal.search-loop-x-smaller
search-loop-x-smaller t c =
    omega (
      arith,
      choice_left (turn (goal.at.search-loop-x-smaller t c).At-loop-x) c.execute.new.room c.in-Ok.x
          (rw c.in-Ok.is at c.execute.ensures),
    )

pub search-loop-x-preserved : goal.search-loop-x-preserved
search-loop-x-preserved t c =
    let tried = c.attempt-ended in
    let deeper : c.max-deepest.result ≡ max c.loop-x.deepest (1 + c.in-Failed.beyond) = search rules in
    rw deeper
    (choice_fails (turn (goal.at.search-loop-x-preserved t c).At-loop-x) c.execute.new.room c.in-Ok.x
    (rw c.in-Ok.is at c.execute.ensures) tried.new.room tried.result tried.ensures c.in-Failed.beyond c.in-Failed.is)
