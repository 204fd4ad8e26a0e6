-- An answer for some follow-ups, carried over to others: to the same ones changed, to two lists appended, and to none.
-- Assumes nothing.
use Prim.Native.Nat.{ℕ, zero, suc, ◌<◌, ◌≤◌}
use mathlib.Core.List.{List, [], ◌∷◌, ◌++◌, map}
use mathlib.Core.Path.{◌≡◌, refl, ap, sym, subst, ◌∙◌}
use native.Mathlib.Omega.{arith}
use lib.ListN.{length, get_or, length-append, length-map, get_or-map, get_or-append}
use lib.Seq.{get_or-append-add}
use Rattle.std.specs.Prelude.{Result, Ok, Err}
use Rattle.chart_spec.specs.Executing.{Made}
use Rattle.chart_spec.specs.Executing.Made.{new_empty}
use Rattle.room_spec.specs.declared.Root.{Root}
use Rattle.room_spec.specs.declared.Missing.{Missing}
use Rattle.room_spec.specs.Room.{Kept}
use Rattle.room_spec.specs.Building.{Builds, Follows}
use Rattle.room_spec.proofs.Standing.{kept_then}
use Rattle.room_spec.proofs.Adding.{kept_then_builds}

-- Inside a list the default does not matter.
default_not_met : (xs : List Made) (k : ℕ) (d e : Made) → k < length xs → get_or xs k d ≡ get_or xs k e
default_not_met [] k d e h = absurd (omega arith)
default_not_met (x ∷ xs) zero d e h = refl
default_not_met (x ∷ xs) (suc k) d e h = default_not_met xs k d e (omega arith)

changed_at :
    (f : Made → Made) (xs : List Made) (k : ℕ) → k < length xs
    → get_or (map f xs) k new_empty ≡ f (get_or xs k new_empty)
changed_at f xs k h =
    default_not_met (map f xs) k new_empty (f new_empty) (omega (arith, length-map xs f)) ∙ get_or-map f xs k
    new_empty

module _ (before : List ℕ) (used : ℕ) (xs : List Made) (k : ℕ) where
  pub answer_keeps :
      (after : List ℕ) (e : Result Root Missing) → Follows before used xs k after e → Kept used before after
  answer_keeps after (Ok root) (h, b) = b.kept
  answer_keeps after (Err missing) (h, keeps) = keeps

  -- All follow-ups are changed in the same way.
  pub changed_follow_up :
      (f : Made → Made) (after : List ℕ) (root : Root) → k < length xs
      → Builds before used (f (get_or xs k new_empty)) after root
      → Follows before used (map f xs) k after (Ok root)
  changed_follow_up f after root h b =
      (omega (arith, length-map xs f), subst (λ m. Builds before used m after root) (sym (changed_at f xs k h)) b)

  pub changed_missing :
      (f : Made → Made) (after : List ℕ) (missing : Missing) → Follows before used xs k after (Err missing)
      → Follows before used (map f xs) k after (Err missing)
  changed_missing f after missing (e, keeps) = (omega (arith, length-map xs f), keeps)

  -- In the first of two lists, or else in the second.
  pub in_the_first :
      (ys : List Made) (after : List ℕ) (root : Root) → Follows before used xs k after (Ok root)
      → Follows before used (xs ++ ys) k after (Ok root)
  in_the_first ys after root (h, b) = (
    omega (arith, length-append xs ys),
    subst (λ m. Builds before used m after root) (sym (get_or-append xs ys new_empty k h)) b,
  )

  pub in_the_second :
      (ys : List Made) (middle after : List ℕ) (missing : Missing) (e : Result Root Missing)
      → used ≤ suc (length before)
      → Follows before used xs k middle (Err missing) → Follows middle used ys missing.more after e
      → Follows before used (xs ++ ys) k after e
  in_the_second ys middle after missing (Ok root) begun (sum, keeps) (h, b) =
      let same : get_or (xs ++ ys) k new_empty ≡ get_or ys missing.more new_empty
      = ap (λ j. get_or (xs ++ ys) j new_empty) sum ∙ get_or-append-add xs ys missing.more new_empty in (
        omega (arith, length-append xs ys),
        subst (λ m. Builds before used m after root) (sym same) (kept_then_builds begun keeps b),
      )
  in_the_second ys middle after missing (Err still) begun (sum, keeps) (rest, keeps_on) = (
    omega (arith, length-append xs ys),
    kept_then used used before middle after (omega arith) keeps keeps_on,
  )

-- If there is no follow-up, all k are still to be passed over.
pub none_to_follow :
    (before : List ℕ) (used k : ℕ) (after : List ℕ) → Kept used before after
    → Follows before used [] k after (Err (record { more = k }))
none_to_follow before used k after keeps = (omega arith, keeps)
