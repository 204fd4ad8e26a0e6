-- Which logs belong to a chart, literally as document 000 prints it: sections 3 and 4, Definitions 1, 2, 3 and 5. This
-- is the meaning that the demands speak of. The form that proofs work with is Member.antt; proofs/Agreement.antt proves
-- that the two agree for every chart. The equations of Figure 4 and Definition 6 are not used: one of them is false
-- (proofs/Nesting.antt).
-- Assumes nothing.
use Rattle.std.specs.Prelude.{ℕ, zero, suc, [], ◌∷◌, ◌++◌, ◌⊎◌, ◌≡◌}
use Rattle.chart_spec.specs.Action.{Action, Log, Clash}
use Rattle.chart_spec.specs.Chart.{Order, strict, seq, par, each, head, Chart, empty, act, alt, pair, loop}
use Rattle.chart_spec.specs.Traces.{Traces, Operator, Only, Joined}

-- 000, 3.1: the set t₁ ; t₂ is { t₁.t₂ }.
abbrev pub strict_sequencing : Operator
strict_sequencing t₁ t₂ = Only (t₁ ++ t₂)

-- 000, 3.1, the three equations that interleaving and weak sequencing share. They differ only in the condition `free`
-- under which the first action of the right may stand before the rest of the left:
--   ε ◇ t₂ = { t₂ }
--   t₁ ◇ ε = { t₁ }
--   (a₁.t₁) ◇ (a₂.t₂) = { a₁.t | t ∈ t₁ ◇ (a₂.t₂) } ∪ { a₂.t | t ∈ (a₁.t₁) ◇ t₂, free (a₁.t₁) a₂ }
pub data Woven (free : Log → Action → Type 0) : Log → Log → Log → Type 0 where
  left_empty : {t₂ : Log} → Woven free [] t₂ t₂
  right_empty : {t₁ : Log} → Woven free t₁ [] t₁
  first_left : {a₁ a₂ : Action} {t₁ t₂ t : Log} → Woven free t₁ (a₂ ∷ t₂) t → Woven free (a₁ ∷ t₁) (a₂ ∷ t₂) (a₁ ∷ t)
  first_right : {a₁ a₂ : Action} {t₁ t₂ t : Log} → free (a₁ ∷ t₁) a₂ → Woven free (a₁ ∷ t₁) t₂ t
      → Woven free (a₁ ∷ t₁) (a₂ ∷ t₂) (a₂ ∷ t)

-- 000, 3.1: interleaving sets no condition.
abbrev pub interleaving : Operator
interleaving = Woven (λ t₁ a₂. Unit)

-- 000, 3.1, the conflict predicate: ε has none with l; a.t has one if a is on l or t has one.
abbrev pub Conflict : Log → ℕ → Type 0
Conflict [] l = ⊥
Conflict (a ∷ t) l = Clash a.line l ⊎ Conflict t l

-- 000, 3.1: weak sequencing asks that the left has no conflict with the lifeline of the right's action.
abbrev pub weak_sequencing : Operator
weak_sequencing = Woven (λ t₁ a₂. ¬ Conflict t₁ a₂.line)

-- The operator of each order (000, Definition 5: strict is ;, seq is weak sequencing, par is ∥).
abbrev pub scheduling : Order → Operator
scheduling strict = strict_sequencing
scheduling seq = weak_sequencing
scheduling par = interleaving

-- 000, Definition 1, powers: T to the 0 is { ε }, and T to the j is T ◇ (T to the j - 1).
abbrev pub power : (Traces → Traces → Traces) → Traces → ℕ → Traces
power op T zero = Only []
power op T (suc j) = op T (power op T j)

-- 000, Definition 1, Kleene closure: the union of all powers.
abbrev pub closure : (Traces → Traces → Traces) → Traces → Traces
closure op T t = (j : ℕ) × power op T j t

-- 000, Definition 2, the restricted operator: the logs of T₁ ◇ T₂ such that, if one is a.t', then for some t₁
-- a.t₁ is in T₁ and t' is in { t₁ } ◇ T₂.
abbrev pub restricted : Operator → Traces → Traces → Traces
restricted op T₁ T₂ t =
    Joined op T₁ T₂ t × ((a : Action) (t' : Log) → t ≡ a ∷ t' → (t₁ : Log) × T₁ (a ∷ t₁) × Joined op (Only t₁) T₂ t')

-- 000, Definition 3, the head-first closure: the Kleene closure of the restricted operator.
abbrev pub head_first_closure : Operator → Traces → Traces
head_first_closure op = closure (restricted op)

-- 000, Definition 5, the logs of a chart, kind by kind.
abbrev pub Published : Chart → Traces
Published empty = Only []
Published (act a) = Only (a ∷ [])
Published (alt l r) = λ t. Published l t ⊎ Published r t
Published (pair o l r) = Joined (scheduling o) (Published l) (Published r)
Published (loop (each o) b) = closure (Joined (scheduling o)) (Published b)
Published (loop head b) = head_first_closure weak_sequencing (Published b)
