-- Actions and logs, and which lifelines never act in a log.
-- Assumes nothing.
use Rattle.std.specs.Prelude.{ℕ, Bool, ◌&&◌, List, [], ◌∷◌, ◌≢◌, ◌≡◌, eqb}
use Rattle.std.specs.Bool.{beq}

-- An action: a lifeline emits or receives a message (01, The log; 000, 3).
pub record Action : Type 0 where
  pub line : ℕ
  pub receives : Bool
  pub message : ℕ

-- A log is a row of actions in one global order (01, The log); document 000 calls it a trace.
abbrev pub Log : Type 0
Log = List Action

-- Whether two actions are the same: lifeline, direction and message.
abbrev pub same : Action → Action → Bool
same a b = eqb a.line b.line && beq a.receives b.receives && eqb a.message b.message

-- Two lifelines are in conflict if they are the same (000, 3.1, the conflict predicate).
abbrev pub Clash : ℕ → ℕ → Type 0
Clash l d = l ≡ d

-- Every member of the list has the property.
abbrev pub Every : {A : Type 0} → (A → Type 0) → List A → Type 0
Every P [] = Unit
Every P (a ∷ s) = P a × Every P s

-- Lifeline d never acts in the log (01, Verdicts and numbers given, 12: the log "avoids the lifeline").
abbrev pub Avoids : ℕ → Log → Type 0
Avoids d s = Every (λ a. a.line ≢ d) s

-- No action of the log is in conflict with lifeline d, so that an action on d may stand before it in a seq
-- (01, Which logs belong to a chart).
abbrev pub Clear : ℕ → Log → Type 0
Clear d s = Every (λ a. ¬ Clash a.line d) s
