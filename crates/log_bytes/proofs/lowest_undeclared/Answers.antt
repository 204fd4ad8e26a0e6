-- `lowest_undeclared` meets its contract: the first action that is not declared is the lowest. Assumes nothing.
use Rattle.std.proofs.Common.{◌≡◌, ℕ, Bool, true, false, arith, rules, tests}
use Rattle.std.specs.Prelude.{Some, None}
use Rattle.std.proofs.lemmas.Iterator.{first_from_Range}
use mathlib.Core.Path.{sym}
use Rattle.number_spec.specs.declared.Refusal.TheVariants.{UndeclaredAction}
use Rattle.card_spec.proofs.Lowest.{First, first_is_lowest}
use Rattle.log_spec.specs.Bytes.{actions_of}
use Rattle.log_spec.specs.Refusing.{declared_at}
use Rattle.log_bytes.proofs.lowest_undeclared.Goals as goal
use Rattle.log_bytes.proofs.lowest_undeclared.Goals.{After-find-first}

-- Whether action i is declared.
abbrev passes : (c : After-find-first) → ℕ → Bool
passes c = declared_at c.args.counts.lifelines c.args.counts.messages c.args.log.now

-- What the search for the first that is not gives.
searched : (c : After-find-first) → First (passes c) (actions_of c.args.log.now) c.find-first.result
searched c =
    first_from_Range (record { start = 0; end = actions_of c.args.log.now }) _ _ c.find-first.result
    (λ i. passes c i ≡ false) (λ i. passes c i ≡ true) c.find-first.ensures.ran
    (λ x q k. search (rules, tests)) (λ x q k. (search (rules, tests), search (rules, tests)))

pub overflow_cast-result : goal.overflow_cast-result
overflow_cast-result c =
    let found = rw c.in-Some.is at (searched (goal.at.overflow_cast-result c).After-find-first) in
    omega (arith, found.1, c.requires)

pub returns-in-Some : goal.returns-in-Some
returns-in-Some c =
    let at = (goal.at.returns-in-Some c).After-find-first in
    let found = rw c.in-Some.is at (searched at) in
    sym (first_is_lowest (passes at) UndeclaredAction (actions_of c.args.log.now) (Some c.in-Some.i) found)

pub returns-in-None : goal.returns-in-None
returns-in-None c =
    let at = (goal.at.returns-in-None c).After-find-first in
    let found = rw c.in-None.is at (searched at) in
    sym (first_is_lowest (passes at) UndeclaredAction (actions_of c.args.log.now) None found)
