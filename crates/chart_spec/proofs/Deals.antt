-- Deals: with an empty part, with one part after the other, which actions they hold, and how they regroup.
--
-- A deal gives each action of the log to one of its parts, so a property of every action holds of the log exactly if it
-- holds of both parts. Weak deals regroup both ways: an action may overtake a part that is itself a deal exactly if it
-- may overtake both of its parts. In a parallel deal nothing is held back, so the first part of the rest may also be
-- taken before the left part. Each law is by induction on a deal; where there are two deals, each case also says to
-- which part of the second deal the first action went.
-- Assumes nothing.
use mathlib.Core.List.{[], ◌∷◌, ◌++◌}
use mathlib.Core.Path.{◌≡◌, refl, ap}
use Rattle.chart_spec.specs.Action.{Action, Log, Every}
use Rattle.chart_spec.specs.Chart.{Order, strict, seq, par}
use Rattle.chart_spec.specs.Traces.{only}
use Rattle.chart_spec.specs.Member.{May, Deal, done, left, right}

-- if nothing of the left is to come, any action of the right may be taken
pub may_at_end : (o : Order) (a : Action) → May o [] a
may_at_end strict a = only
may_at_end seq a = tt
may_at_end par a = tt

pub deal_all_right : (o : Order) (u : Log) → Deal o [] u u
deal_all_right o [] = done
deal_all_right o (a ∷ u) = right (may_at_end o a) (deal_all_right o u)

pub deal_all_left : (o : Order) (s : Log) → Deal o s [] s
deal_all_left o [] = done
deal_all_left o (a ∷ s) = left (deal_all_left o s)

pub deal_left_is_empty : {o : Order} {u t : Log} → Deal o [] u t → u ≡ t
deal_left_is_empty done = refl
deal_left_is_empty (right {a = a} m d) = ap (λ (r : Log). a ∷ r) (deal_left_is_empty d)

-- the left part and then the right part is a deal, in every order
pub deal_appended : (o : Order) (s u : Log) → Deal o s u (s ++ u)
deal_appended o [] u = deal_all_right o u
deal_appended o (a ∷ s) u = left (deal_appended o s u)

-- and a strict deal is always that
pub deal_strict_is_appended : {s u t : Log} → Deal strict s u t → s ++ u ≡ t
deal_strict_is_appended done = refl
deal_strict_is_appended (left {a = a} d) = ap (λ (r : Log). a ∷ r) (deal_strict_is_appended d)
deal_strict_is_appended (right {a = a} only d) = ap (λ (r : Log). a ∷ r) (deal_strict_is_appended d)

-- what holds of every action of the log holds of every action of both parts, and the other way round
pub deal_every→ : {o : Order} (P : Action → Type 0) {s u t : Log} → Deal o s u t → Every P t → Every P s × Every P u
deal_every→ P done h = (tt, tt)
deal_every→ P (left d) h = let (hs, hu) = deal_every→ P d h.1 in ((h.0, hs), hu)
deal_every→ P (right m d) h = let (hs, hu) = deal_every→ P d h.1 in (hs, (h.0, hu))

pub deal_every← : {o : Order} (P : Action → Type 0) {s u t : Log} → Deal o s u t → Every P s → Every P u → Every P t
deal_every← P done hs hu = tt
deal_every← P (left d) hs hu = (hs.0, deal_every← P d hs.1 hu)
deal_every← P (right m d) hs hu = (hu.0, deal_every← P d hs hu.1)

-- s before (u before v) is (s before u) before v, in weak deals
pub deal_regroups_left : {s w t u v : Log} → Deal seq s w t → Deal seq u v w
    → (r : Log) × Deal seq s u r × Deal seq r v t
deal_regroups_left done done = ([], done, done)
deal_regroups_left (left {a = a} d) e = let (r, x, y) = deal_regroups_left d e in (a ∷ r, left x, left y)
deal_regroups_left (right {a = a} m d) (left e) = let (r, x, y) = deal_regroups_left d e in (a ∷ r, right m x, left y)
deal_regroups_left (right {a = a} m d) (right n e) =
    let (r, x, y) = deal_regroups_left d e in (r, x, right (deal_every← _ x m n) y)

pub deal_regroups_right : {s u r v t : Log} → Deal seq r v t → Deal seq s u r
    → (w : Log) × Deal seq u v w × Deal seq s w t
deal_regroups_right done done = ([], done, done)
deal_regroups_right (left {a = a} d) (left e) = let (w, x, y) = deal_regroups_right d e in (w, x, left y)
deal_regroups_right (left {a = a} d) (right m e) = let (w, x, y) = deal_regroups_right d e in (a ∷ w, left x, right m y)
deal_regroups_right (right {a = a} m d) e =
    let (w, x, y) = deal_regroups_right d e in
    let (ms, mu) = deal_every→ _ e m in
    (a ∷ w, right mu x, right ms y)

-- in a parallel deal the left part may change places with the first of the rest
pub deal_exchanges : {s w t u v : Log} → Deal par s w t → Deal par u v w → (r : Log) × Deal par s v r × Deal par u r t
deal_exchanges done done = ([], done, done)
deal_exchanges (left {a = a} d) e = let (r, x, y) = deal_exchanges d e in (a ∷ r, left x, right tt y)
deal_exchanges (right m d) (left e) = let (r, x, y) = deal_exchanges d e in (r, x, left y)
deal_exchanges (right {a = a} m d) (right n e) = let (r, x, y) = deal_exchanges d e in (a ∷ r, right tt x, right tt y)
