-- A property of every member of a list: when each member is mapped, for two lists appended, for a list taken only if a
-- test passes, and at an index. All by induction on the list.
-- Assumes nothing.
use Prim.Native.Nat.{ℕ, zero, suc, ◌<◌}
use native.Mathlib.Omega.{arith}
use mathlib.Core.Bool.{Bool, true, false, cond}
use mathlib.Core.List.{List, [], ◌∷◌, ◌++◌, map}
use lib.ListN.{length, get_or}
use Rattle.chart_spec.specs.Action.{Every}

module _ {A : Type 0} (P : A → Type 0) where
  pub every_map :
      (Q : A → Type 0) (f : A → A) → ((x : A) → P x → Q (f x)) → (xs : List A) → Every P xs → Every Q (map f xs)
  every_map Q f g [] h = tt
  every_map Q f g (x ∷ xs) (h, hs) = (g x h, every_map Q f g xs hs)

  pub every_implies : (Q : A → Type 0) → ((x : A) → P x → Q x) → (xs : List A) → Every P xs → Every Q xs
  every_implies Q g [] h = tt
  every_implies Q g (x ∷ xs) (h, hs) = (g x h, every_implies Q g xs hs)

  pub every_append : (xs ys : List A) → Every P xs → Every P ys → Every P (xs ++ ys)
  every_append [] ys h k = k
  every_append (x ∷ xs) ys (h, hs) k = (h, every_append xs ys hs k)

  pub every_if : (p : Bool) (xs : List A) → Every P xs → Every P (cond p xs [])
  every_if true xs h = h
  every_if false xs h = tt

  pub every_at : (xs : List A) (k : ℕ) (d : A) → Every P xs → k < length xs → P (get_or xs k d)
  every_at [] k d h inside = absurd (omega arith)
  every_at (x ∷ xs) zero d (h, hs) inside = h
  every_at (x ∷ xs) (suc k) d (h, hs) inside = every_at xs k d hs (omega arith)
