-- One of several charts. First, some entry of a list has a property, for lists that are appended, mapped or taken only
-- if a test passes; then, the logs that belong to one of several sets, when these sets are composed. Nothing here
-- depends on what a follow-up is.
-- Assumes nothing.
use mathlib.Core.Bool.{Bool, true, false, cond}
use mathlib.Core.List.{List, [], ◌∷◌, ◌++◌, map}
use mathlib.Core.Logic.{◌⊎◌, inl, inr, ⊎_elim}
use lib.Dec.{T}
use Rattle.chart_spec.specs.Action.{Log}
use Rattle.chart_spec.specs.Traces.{Traces, Operator, Joined, joined}
use Rattle.chart_spec.specs.Member.{Member}
use Rattle.chart_spec.specs.Executing.{Made, chart_of}

-- ---- one of a list

-- Some entry of the list has the property.
pub data Some (P : Made → Type 0) : List Made → Type 0 where
  here : {x : Made} {xs : List Made} → P x → Some P (x ∷ xs)
  there : {x : Made} {xs : List Made} → Some P xs → Some P (x ∷ xs)

pub some_left : {P : Made → Type 0} {xs : List Made} (ys : List Made) → Some P xs → Some P (xs ++ ys)
some_left ys (here p) = here p
some_left ys (there w) = there (some_left ys w)

pub some_right : {P : Made → Type 0} (xs : List Made) {ys : List Made} → Some P ys → Some P (xs ++ ys)
some_right [] w = w
some_right (x ∷ xs) w = there (some_right xs w)

pub some_append : {P : Made → Type 0} (xs ys : List Made) → Some P (xs ++ ys) → Some P xs ⊎ Some P ys
some_append [] ys w = inr w
some_append (x ∷ xs) ys (here p) = inl (here p)
some_append (x ∷ xs) ys (there w) = ⊎_elim (λ v. inl (there v)) (λ v. inr v) (some_append xs ys w)

pub some_implies : {P Q : Made → Type 0} {xs : List Made} → ((x : Made) → P x → Q x) → Some P xs → Some Q xs
some_implies f (here {x = x} p) = here (f x p)
some_implies f (there w) = there (some_implies f w)

pub some_map→ : {P : Made → Type 0} (f : Made → Made) (xs : List Made) → Some P (map f xs) → Some (λ x. P (f x)) xs
some_map→ f [] w = elim w [ ]
some_map→ f (x ∷ xs) (here p) = here p
some_map→ f (x ∷ xs) (there w) = there (some_map→ f xs w)

pub some_map← : {P : Made → Type 0} (f : Made → Made) {xs : List Made} → Some (λ x. P (f x)) xs → Some P (map f xs)
some_map← f (here p) = here p
some_map← f (there w) = there (some_map← f w)

-- a list that is taken only if a test passes
pub some_if→ : {P : Made → Type 0} (p : Bool) (xs : List Made) → Some P (cond p xs []) → T p × Some P xs
some_if→ true xs w = (tt, w)
some_if→ false xs w = elim w [ ]

pub some_if← : {P : Made → Type 0} (p : Bool) (xs : List Made) → T p → Some P xs → Some P (cond p xs [])
some_if← true xs h w = w
some_if← false xs h w = absurd h

-- ---- composed with some of a list

pub joined_implies : {op : Operator} {L L' M M' : Traces} {t : Log} → ((s : Log) → L s → L' s)
    → ((u : Log) → M u → M' u)
    → Joined op L M t → Joined op L' M' t
joined_implies f g (joined s u m n x) = joined s u (f s m) (g u n) x

-- the set of logs that belong to P of some entry
abbrev pub Union : (Made → Traces) → List Made → Traces
Union P xs t = Some (λ x. P x t) xs

pub union_left→ : {op : Operator} (P : Made → Traces) {M : Traces} {xs : List Made} {t : Log}
    → Joined op (Union P xs) M t
    → Union (λ x. Joined op (P x) M) xs t
union_left→ P (joined s u w n x) = some_implies (λ y p. joined s u p n x) w

pub union_left← : {op : Operator} (P : Made → Traces) {M : Traces} {t : Log} {xs : List Made}
    → Union (λ x. Joined op (P x) M) xs t → Joined op (Union P xs) M t
union_left← P (here (joined s u p n x)) = joined s u (here p) n x
union_left← P (there w) = joined_implies (λ s v. there v) (λ u n. n) (union_left← P w)

pub union_right→ : {op : Operator} {L : Traces} (P : Made → Traces) {xs : List Made} {t : Log}
    → Joined op L (Union P xs) t
    → Union (λ x. Joined op L (P x)) xs t
union_right→ P (joined s u m w x) = some_implies (λ y p. joined s u m p x) w

pub union_right← : {op : Operator} {L : Traces} (P : Made → Traces) {t : Log} {xs : List Made}
    → Union (λ x. Joined op L (P x)) xs t → Joined op L (Union P xs) t
union_right← P (here (joined s u m p x)) = joined s u m (here p) x
union_right← P (there w) = joined_implies (λ s m. m) (λ u v. there v) (union_right← P w)

-- The logs of the charts of a list.
abbrev pub OneOf : List Made → Traces
OneOf xs = Union (λ x. Member (chart_of x)) xs
