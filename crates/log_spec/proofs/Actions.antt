-- The actions of a log and its bytes: two bytes an action, at the front and at any index.
-- By recursion, two bytes at a time.
-- Assumes nothing.
use Prim.Native.Nat.{ℕ, zero, suc, ◌+◌, ◌*◌, ◌-◌, ◌%◌, ◌<◌, ◌≤◌}
use mathlib.Core.List.{List, [], ◌∷◌, ◌++◌}
use mathlib.Core.Path.{◌≡◌, refl, sym, ap}
use native.Mathlib.Omega.{arith}
use lib.ListN.{length, get_or, take, drop}
use lib.Seq.{take_all}
use Rattle.chart_spec.specs.Action.{Action}
use Rattle.log_spec.specs.Bytes.{acts, log_of, actions_of, action_at}

-- The first action, and the log after it.
pub first_action :
    (log : List ℕ) → 2 ≤ length log → log_of log ≡ action_at log 0 ∷ log_of (take (length log - 2) (drop 2 log))
first_action [] h = absurd (omega arith)
first_action (first ∷ []) h = absurd (omega arith)
first_action (first ∷ second ∷ rest) h =
    ap (λ t. acts first second ∷ log_of t) (sym (take_all (length (first ∷ second ∷ rest) - 2) rest (omega arith)))

-- Fewer than two bytes are no action.
pub no_action : (log : List ℕ) → length log < 2 → log_of log ≡ []
no_action [] h = refl
no_action (first ∷ []) h = refl
no_action (first ∷ second ∷ rest) h = absurd (omega arith)

pub as_many_actions : (log : List ℕ) → length (log_of log) ≡ actions_of log
as_many_actions [] = refl
as_many_actions (first ∷ []) = refl
as_many_actions (first ∷ second ∷ rest) = let more = as_many_actions rest in omega arith

-- Action i of the log is read from its own two bytes.
pub action_of_the_log :
    (log : List ℕ) (i : ℕ) (none : Action) → i < actions_of log → get_or (log_of log) i none ≡ action_at log i
action_of_the_log [] i none h = absurd (omega arith)
action_of_the_log (first ∷ []) i none h = absurd (omega arith)
action_of_the_log (first ∷ second ∷ rest) zero none h = refl
action_of_the_log (first ∷ second ∷ rest) (suc i) none h =
    let second_at : suc i * 2 + 1 ≡ suc (suc (i * 2 + 1)) = omega arith in
    let first_at : suc i * 2 ≡ suc (suc (i * 2)) = omega arith in
    rw (second_at, first_at) (action_of_the_log rest i none (omega arith))

-- The log of the bytes of whole actions with more bytes after them.
pub log_of_both : (log more : List ℕ) → length log % 2 ≡ 0 → log_of (log ++ more) ≡ log_of log ++ log_of more
log_of_both [] more h = refl
log_of_both (first ∷ []) more h = absurd (omega arith)
log_of_both (first ∷ second ∷ rest) more h = ap (λ t. acts first second ∷ t) (log_of_both rest more (omega arith))
