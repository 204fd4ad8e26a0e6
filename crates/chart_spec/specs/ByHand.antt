-- The thirteen rows of 01's table "Logs worked by hand", in its order.
-- One theorem, in proofs/ByHand.antt, shows that each row gets the answer that the table says.
-- Assumes nothing.
use Rattle.std.specs.Prelude.{ℕ, true, false, List, [], ◌∷◌}
use Rattle.chart_spec.specs.Action.{Action, Log}
use Rattle.chart_spec.specs.Chart.{strict, seq, par, each, head, Chart, empty, act, alt, pair, loop}
use Rattle.chart_spec.specs.Lending.{Answer}

-- 01 writes these l!m and l?m.
abbrev pub emits : ℕ → ℕ → Action
emits l m = record { line = l; receives = false; message = m }

abbrev pub receives : ℕ → ℕ → Action
receives l m = record { line = l; receives = true; message = m }

-- "S is strict(0!0, 1?0). K is alt(S, 1!1)."
abbrev pub S : Chart
S = pair strict (act (emits 0 0)) (act (receives 1 0))

abbrev pub K : Chart
K = alt S (act (emits 1 1))

-- "Unless said, the lending is ample": the program's lending.
abbrev pub ample : ℕ
ample = 1_000_000

abbrev pub ample_room : ℕ
ample_room = 16_384

-- A row: a chart, a log, the lending, and the answer.
pub record Row : Type 0 where
  pub chart : Chart
  pub log : Log
  pub allowance : ℕ
  pub room : ℕ
  pub expected : Answer

-- (chart, log, allowance, room; number, place, steps, places)
abbrev pub row : Chart → Log → ℕ → ℕ → ℕ → ℕ → ℕ → ℕ → Row
row c t a r n p s q =
    record {
      chart = c;
      log = t;
      allowance = a;
      room = r;
      expected = record { number = n; place = p; steps = s; places = q };
    }

unfoldable pub rows : List Row
rows =
    row empty [] ample ample_room 20 0 0 1
    ∷ row empty (emits 0 0 ∷ []) ample ample_room 22 0 0 1
    ∷ row S [] ample ample_room 21 0 0 3
    ∷ row S (emits 0 0 ∷ []) ample ample_room 21 1 1 5
    ∷ row S (emits 0 0 ∷ receives 1 0 ∷ []) ample ample_room 20 2 2 6
    ∷ row S (receives 1 0 ∷ []) ample ample_room 22 0 0 3
    ∷ row S (emits 0 0 ∷ receives 1 0 ∷ []) 1 ample_room 9 0 1 5
    ∷ row S (emits 0 0 ∷ receives 1 0 ∷ []) ample 5 10 0 1 5
    ∷ row S (emits 0 0 ∷ []) ample 2 10 0 0 0
    ∷ row (pair par (act (emits 0 0)) (act (emits 0 0))) (emits 0 0 ∷ []) ample ample_room 21 1 2 5
    ∷ row (alt (act (emits 0 0)) S) (emits 0 0 ∷ receives 1 0 ∷ []) ample ample_room 20 2 3 8
    ∷ row (loop head K) (emits 0 0 ∷ emits 1 1 ∷ receives 1 0 ∷ []) ample ample_room 22 1 1 9
    ∷ row (loop (each seq) K) (emits 0 0 ∷ emits 1 1 ∷ receives 1 0 ∷ []) ample ample_room 20 3 3 22
    ∷ []
