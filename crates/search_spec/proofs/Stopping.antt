-- A search that was stopped has number 9 or 10: those of a spent allowance and of a follow-up that exceeds the room.
-- The search under a lending is the run of the search, spent: the two tests stand before each follow-up of the run, and
-- after the last one the search ends as it ends where nothing stops it. Assumes nothing.
use Prim.Native.Nat.{ℕ, ◌+◌}
use mathlib.Core.Bool.{Bool, true, false}
use mathlib.Core.List.{List, [], ◌∷◌}
use mathlib.Core.Logic.{◌⊎◌, inl, inr, ⊎_elim}
use mathlib.Core.Path.{◌≡◌, refl, sym, ap, subst, ◌∙◌}
use native.Mathlib.Omega.{arith}
use lib.Dec.{leb, ltb}
use lib.ListN.{length}
use Rattle.chart_spec.specs.Action.{Log}
use Rattle.chart_spec.specs.Chart.{Chart}
use Rattle.chart_spec.specs.Searching.{Outcome as Searched, accepted, refused, explore}
use Rattle.chart_spec.specs.Lending.{Ending, follow_up, walk}
use Rattle.chart_spec.specs.Lending.Ending.{found, failed, stopped}
use Rattle.chart_spec.proofs.Walking.{spend, spent, walk_is_spent}
use Rattle.room_spec.specs.declared.Root.{Root}
use Rattle.room_spec.specs.Room.{chart_in}
use Rattle.search_spec.specs.declared.Tally.{Tally}
use Rattle.search_spec.specs.declared.Outcome.TheVariants.{Stopped}
use Rattle.search_spec.specs.declared.Ended.{Ended}
use Rattle.search_spec.specs.Ending.{ending_by, Searches}

-- A stop has number 9 or 10.
abbrev StopsByNineOrTen : Ending → Type 0
StopsByNineOrTen (found s p) = Unit
StopsByNineOrTen (failed d s p) = Unit
StopsByNineOrTen (stopped number s p) = (number ≡ 9) ⊎ (number ≡ 10)

follow_up_stops : (b e : Bool) (n : ℕ) (on : ℕ → ℕ → Ending) → ((s p : ℕ) → StopsByNineOrTen (on s p))
    → (s p : ℕ) → StopsByNineOrTen (follow_up b e n on s p)
follow_up_stops true e n on h s p = inl refl
follow_up_stops false true n on h s p = inr refl
follow_up_stops false false n on h s p = h _ _

module _ (allowance room : ℕ) where
  run_stops : (run : List ℕ) (on : ℕ → ℕ → Ending) → ((s p : ℕ) → StopsByNineOrTen (on s p))
      → (s p : ℕ) → StopsByNineOrTen (spend allowance room run on s p)
  unfolding spend
  run_stops [] on h s p = h s p
  run_stops (n ∷ run) on h s p =
      follow_up_stops (leb allowance s) (ltb room n) n (spend allowance room run on) (run_stops run on h) s p

  search_stops : (o : Searched) (s p : ℕ) → StopsByNineOrTen (spent allowance room o s p)
  search_stops (accepted run) = run_stops run found (λ s p. tt)
  search_stops (refused d run) = run_stops run (failed d) (λ s p. tt)

  walk_stops : (t : Log) (c : Chart) (used s p : ℕ) → StopsByNineOrTen (walk allowance room t c used s p)
  walk_stops t c used s p =
      subst StopsByNineOrTen (sym (walk_is_spent allowance room t c used s p)) (search_stops (explore t c used) s p)

pub a_stop_has_nine_or_ten :
    {before : List ℕ} {log : Log} {root : Root} {tally : Tally} {after : List ℕ} {r : Ended}
    → Searches before log root tally after r → (number : ℕ) → r.outcome ≡ Stopped number
    → (number ≡ 9) ⊎ (number ≡ 10)
a_stop_has_nine_or_ten {before} {log} {root} {tally} {after} {r} searches number e =
    ⊎_elim (λ nine. inl (omega arith)) (λ ten. inr (omega arith))
    (subst StopsByNineOrTen (sym (searches.ends 0) ∙ ap (λ outcome. ending_by (0 + tally.left) r.tally outcome) e)
    (walk_stops (0 + tally.left) (length before) log (chart_in before root.place) root.used 0 tally.places))
