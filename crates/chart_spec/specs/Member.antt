-- A working definition, which nobody has to believe: which logs belong to a chart, in the form that proofs work with,
-- one relation for deals and one closure for loops. proofs/Agreement.antt shows that it has the same logs as
-- Published.antt, for every chart.
-- Assumes nothing.
use Rattle.std.specs.Prelude.{[], ◌∷◌, ◌⊎◌}
use Rattle.chart_spec.specs.Action.{Action, Log, Clear}
use Rattle.chart_spec.specs.Chart.{Order, strict, seq, par, Loop, each, head, Chart, empty, act, alt, pair, loop}
use Rattle.chart_spec.specs.Traces.{Traces, Only, Joined}

-- When an action of the right may be taken while s of the left is still to come (01, Which logs belong to a chart).
abbrev pub May : Order → Log → Action → Type 0
May strict s a = Only [] s
May seq s a = Clear a.line s
May par s a = Unit

-- A deal gives each action of the log t to one of two parts s and u, keeping order within the part
-- (01, Which logs belong to a chart).
pub data Deal (o : Order) : Log → Log → Log → Type 0 where
  done : Deal o [] [] []
  left : {a : Action} {s u t : Log} → Deal o s u t → Deal o (a ∷ s) u (a ∷ t)
  right : {a : Action} {s u t : Log} → May o s a → Deal o s u t → Deal o s (a ∷ u) (a ∷ t)

-- A round s of a loop before the later rounds u. In the head loop the first action belongs to s
-- (01, Which logs belong to a chart).
pub data Round : Loop → Log → Log → Log → Type 0 where
  dealt : {o : Order} {s u t : Log} → Deal o s u t → Round (each o) s u t
  headed : {a : Action} {s u t : Log} → Deal seq s u t → Round head (a ∷ s) u (a ∷ t)

-- Some number of rounds, none included (01, Which logs belong to a chart).
pub data Star (k : Loop) (M : Traces) : Log → Type 0 where
  none : Star k M []
  more : {s u t : Log} → M s → Star k M u → Round k s u t → Star k M t

-- The logs of a chart.
abbrev pub Member : Chart → Traces
Member empty = Only []
Member (act a) = Only (a ∷ [])
Member (alt l r) = λ t. Member l t ⊎ Member r t
Member (pair o l r) = Joined (Deal o) (Member l) (Member r)
Member (loop k b) = Star k (Member b)
