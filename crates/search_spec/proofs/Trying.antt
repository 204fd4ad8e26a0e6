-- One choice: what the code tries is what the definition tries. A follow-up that exceeds the room stops both; any other
-- has the definition's chart and places. Also: how deep a choice gets that fails.
-- Assumes nothing.
use Rattle.std.specs.Prelude.{Ok}
use Prim.Native.Nat.{ℕ, ◌+◌, ◌<◌, ◌≤◌}
use mathlib.Core.Bool.{Bool, true, false}
use mathlib.Core.List.{List}
use mathlib.Core.Logic.{◌↔◌}
use mathlib.Core.Path.{◌≡◌, refl, sym, ap, subst, ◌∙◌}
use native.Mathlib.Decide.{dec_lt}
use native.Mathlib.Omega.{arith}
use lib.Dec.{leb, ltb}
use lib.ListN.{length, get_or}
use borrow.Author.Tests.{lt-ltb, le-ltb}
use Rattle.chart_spec.specs.Action.{Log}
use Rattle.chart_spec.specs.Chart.{Chart}
use Rattle.chart_spec.specs.Executing.{Made, chart_of, cost_of}
use Rattle.chart_spec.specs.Executing.Made.{new_empty}
use Rattle.chart_spec.specs.Lending.{Ending, follow_up, walk}
use Rattle.room_spec.specs.declared.Root.{Root}
use Rattle.room_spec.specs.Room.{chart_in}
use Rattle.room_spec.specs.Building.{Follows}
use Rattle.room_spec.proofs.Onward.{exceeds_the_room, follow_up_costs, follow_up_stands}
use Rattle.search_spec.specs.declared.Tally.{Tally}
use Rattle.search_spec.specs.declared.Outcome.TheVariants.{Failed}
use Rattle.search_spec.specs.declared.Ended.{Ended}
use Rattle.search_spec.specs.Ending.{ending_by, Attempts}
use Rattle.search_spec.proofs.Deepest.{Within, follow_up_within, walk_within}

-- A stop because of the room does not depend on the follow-up.
stopped_alike :
    (b : Bool) (m n : ℕ) (f g : ℕ → ℕ → Ending) (s p : ℕ) → follow_up b true m f s p ≡ follow_up b true n g s p
stopped_alike true m n f g s p = refl
stopped_alike false m n f g s p = refl

-- Two follow-ups go on alike if both exceed the room, or if both fit and are the same.
follow_up_alike :
    (b : Bool) (room m n : ℕ) (f g : ℕ → ℕ → Ending) (s p : ℕ) → (room < m) ↔ (room < n)
    → (m ≤ room → follow_up b false m f s p ≡ follow_up b false n g s p)
    → follow_up b (ltb room m) m f s p ≡ follow_up b (ltb room n) n g s p
follow_up_alike b room m n f g s p alike same = by (dec_lt room m)
  where
    by : Dec (room < m) → follow_up b (ltb room m) m f s p ≡ follow_up b (ltb room n) n g s p
    by (yes h) = rw (lt-ltb room m h, lt-ltb room n (alike.0 h)) (stopped_alike b m n f g s p)
    by (no h) =
        let fits : n ≤ room = not_over (λ k. h (alike.1 k)) in
        rw (le-ltb room m (omega arith), le-ltb room n fits) (same (omega arith))
      where
        not_over : ¬ (room < n) → n ≤ room
        not_over k = omega arith

module _ (allowance : ℕ) (rest : Log) where
  -- The search goes on with the rest of the log.
  abbrev pub goes : ℕ → Chart → ℕ → ℕ → ℕ → Ending
  goes room x n s p = walk allowance room rest x n s p

  module _ (before : List ℕ) (used : ℕ) (xs : List Made) (k : ℕ) (after : List ℕ) (x : Root)
      (given : Follows before used xs k after (Ok x)) where
    -- The follow-up that was made is the definition's.
    pub same_choice : (b : Bool) (s p : ℕ)
        → follow_up b (ltb (length after) x.used) x.used (goes (length after) (chart_in after x.place) x.used)
        s p
        ≡ (let part = get_or xs k new_empty in
        let n = used + cost_of part in
        follow_up b (ltb (length before) n) n (goes (length before) (chart_of part) n) s p)
    same_choice b s p =
        let part = get_or xs k new_empty in
        let n = used + cost_of part in
        let long : length after ≡ length before = given.1.kept.long in
        let alike : (length after < x.used) ↔ (length after < n)
        = subst (λ l. (length after < x.used) ↔ (l < n)) (sym long) (exceeds_the_room before used xs k after x given)
        in
        let same : x.used ≤ length after
        → follow_up b false x.used (goes (length after) (chart_in after x.place) x.used) s p
        ≡ follow_up b false n (goes (length after) (chart_of part) n) s p
        = λ fits.
        rw (follow_up_costs before used xs k after x given fits, follow_up_stands before used xs k after x given fits)
        in
        follow_up_alike b (length after) x.used n (goes (length after) (chart_in after x.place) x.used)
        (goes (length after) (chart_of part) n) s p alike same
        ∙ ap (λ l. follow_up b (ltb l n) n (goes l (chart_of part) n) s p) long

-- A choice that failed got no deeper than the rest of the log is long.
pub attempt_within :
    (before : List ℕ) (rest : Log) (x : Root) (tally : Tally) (after : List ℕ) (r : Ended) (deepest : ℕ)
    → Attempts before rest x tally after r → r.outcome ≡ Failed deepest → deepest ≤ length rest
attempt_within before rest x tally after r deepest given told =
    subst (Within (length rest))
    (sym (given.ends 0) ∙ ap (ending_by (0 + tally.left) r.tally) told)
    (follow_up_within (length rest) (leb (0 + tally.left) 0) (ltb (length before) x.used) x.used
    (walk (0 + tally.left) (length before) rest (chart_in before x.place) x.used) 0 tally.places
    (walk_within (0 + tally.left) (length before) rest (chart_in before x.place) x.used))
