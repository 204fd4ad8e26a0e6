-- How the search goes from choice to choice. So far the choices before number k have failed, and the definition finds
-- what it finds from number k on, with the deepest opening so far. Either there is no choice k, and every choice has
-- failed; or choice k is tried. If it did not fail, its ending is the search's; if it failed, the search goes on with
-- number k + 1.
-- Assumes nothing.
use Rattle.std.specs.Prelude.{Ok, Err}
use Prim.Native.Nat.{ℕ, suc, ◌+◌, ◌-◌, max, ◌<◌, ◌≤◌}
use mathlib.Core.Bool.{Bool, true, false, cond}
use mathlib.Core.List.{List, ◌∷◌}
use mathlib.Core.Path.{◌≡◌, refl, sym, ap, subst, ◌∙◌}
use native.Mathlib.Omega.{arith}
use lib.Dec.{leb, ltb}
use lib.ListN.{length}
use Rattle.chart_spec.specs.Action as chart
use Rattle.chart_spec.specs.Action.{Log}
use Rattle.chart_spec.specs.Executing.{Made, terminates, follows}
use Rattle.chart_spec.specs.Lending.{Ending, follow_up, deepened, or_next, walk}
use Rattle.chart_spec.specs.Lending.Ending.{found, failed}
use Rattle.log_spec.specs.Bytes.{log_of}
use Rattle.log_spec.proofs.Actions.{no_action}
use Rattle.room_spec.specs.declared.Action.{Action}
use Rattle.room_spec.specs.declared.Root.{Root}
use Rattle.room_spec.specs.declared.Missing.{Missing}
use Rattle.room_spec.specs.Room.{chart_in, Stands, Kept}
use Rattle.room_spec.specs.Building.{action_of, Follows}
use Rattle.room_spec.proofs.Standing.{kept_self, kept_then, kept_chart, kept_table}
use Rattle.room_spec.proofs.Apart.{kept_rooted}
use Rattle.search_spec.specs.declared.Tally.{Tally}
use Rattle.search_spec.specs.declared.Outcome.{Outcome}
use Rattle.search_spec.specs.declared.Outcome.TheVariants.{Found, Failed, Stopped}
use Rattle.search_spec.specs.declared.Ended.{Ended}
use Rattle.search_spec.specs.Ending.{ending_by, ending_of, Searches, Attempts}
use Rattle.search_spec.proofs.Turns.{from, tried, none_left, one_left, deepened_not, deepened_twice}
use Rattle.search_spec.proofs.Trying.{goes, same_choice}

-- The choice did not fail.
abbrev pub Settled : Outcome → Type 0
Settled Found = Unit
Settled (Failed deepest) = ⊥
Settled (Stopped number) = Unit

settled_ends : (d allowance : ℕ) (tally : Tally) (next : ℕ → ℕ → Ending) (o : Outcome) → Settled o
    → ending_by allowance tally o ≡ deepened d (or_next (ending_by allowance tally o) next)
settled_ends d allowance tally next Found h = refl
settled_ends d allowance tally next (Failed deepest) h = absurd h
settled_ends d allowance tally next (Stopped number) h = refl

-- At the log's end.
at_end_ends : (b : Bool) (tally : Tally) (steps : ℕ)
    → ending_by (steps + tally.left) tally (cond b Found (Failed 0))
    ≡ cond b (found steps tally.places) (failed 0 steps tally.places)
at_end_ends true tally steps = ap (λ s. found s tally.places) (omega arith)
at_end_ends false tally steps = ap (λ s. failed 0 s tally.places) (omega arith)

pub log_ends :
    (room log : List ℕ) (root : Root) (tally : Tally) (o : Outcome) → length log < 2
    → o ≡ cond (terminates (chart_in room root.place)) Found (Failed 0)
    → Searches room (log_of log) root tally room (record { outcome = o; tally = tally })
unfolding walk
log_ends room log root tally o h e =
    record {
      kept = kept_self root.used room;
      left = omega arith;
      ends = λ steps. rw (e, no_action log h) (at_end_ends (terminates (chart_in room root.place)) tally steps);
    }

module _ (before : List ℕ) (a : chart.Action) (rest : Log) (root : Root) (lent : Tally) where
  -- The choices: the follow-ups of the chart at the root.
  abbrev pub choices : List Made
  choices = follows (chart_in before root.place) a

  -- What the definition finds from choice k on.
  abbrev pub onward : ℕ → ℕ → ℕ → ℕ → Ending
  onward all k s p = from all (length before) (goes all rest (length before)) root.used choices k s p

  -- The choices before number k have failed.
  pub record SoFar (room : List ℕ) (deepest : ℕ) (tally : Tally) (k : ℕ) : Type 0 where
    pub kept : Kept root.used before room
    pub taken : k + tally.left ≤ lent.left
    pub among : k ≤ length choices
    pub ends : (steps : ℕ)
        → walk (steps + lent.left) (length before) (a ∷ rest) (chart_in before root.place) root.used steps lent.places
        ≡ deepened deepest (onward (steps + lent.left) k (steps + lent.left - tally.left) tally.places)

  pub at_first : SoFar before 0 lent 0
  unfolding walk
  at_first =
      record {
        kept = kept_self root.used before;
        taken = omega arith;
        among = omega arith;
        ends = λ steps.
            let none : steps + lent.left - lent.left ≡ steps = omega arith in
            rw none (sym (deepened_not (onward (steps + lent.left) 0 steps lent.places)));
      }

-- A search: a log, whose first action was read, in the chart at a root.
pub record Task : Type 0 where
  pub log : List ℕ
  pub room : List ℕ
  pub root : Root
  pub lent : Tally
  pub stands : Stands room root
  pub action : Action
  pub rest : List ℕ
  pub starts : log_of log ≡ action_of action ∷ log_of rest

-- How far the search has come after the choices before number k.
abbrev pub Going : Task → List ℕ → ℕ → Tally → ℕ → Type 0
Going w = SoFar w.room (action_of w.action) (log_of w.rest) w.root w.lent

-- A turn of the search: choice k is next.
pub record Turn : Type 0 where
  pub task : Task
  pub room : List ℕ
  pub deepest : ℕ
  pub tally : Tally
  pub k : ℕ
  pub so_far : Going task room deepest tally k

module _ (u : Turn) where
  abbrev w : Task
  w = u.task

  abbrev room : List ℕ
  room = u.room

  abbrev deepest : ℕ
  deepest = u.deepest

  abbrev tally : Tally
  tally = u.tally

  abbrev k : ℕ
  k = u.k

  abbrev so_far : Going w room deepest tally k
  so_far = u.so_far

  abbrev a : chart.Action
  a = action_of w.action

  abbrev used : ℕ
  used = w.root.used

  abbrev place : ℕ
  place = w.root.place

  -- The choices.
  abbrev wanted : List Made
  wanted = choices w.room a (log_of w.rest) w.root w.lent

  -- What the search has to ensure.
  abbrev Done : List ℕ → Ended → Type 0
  Done after r = Searches w.room (log_of w.log) w.root w.lent after r

  -- What the definition finds from choice k on.
  abbrev next : ℕ → ℕ → ℕ → ℕ → Ending
  next = onward w.room a (log_of w.rest) w.root w.lent

  abbrev all : ℕ → ℕ
  all steps = steps + w.lent.left

  -- What the definition finds.
  abbrev sought : ℕ → Ending
  sought steps =
      walk (all steps) (length w.room) (log_of w.log) (chart_in w.room place) used steps w.lent.places

  -- The occurrences that are found in the room,
  abbrev pub occurrences : List Made
  occurrences = follows (chart_in room place) a

  -- are the choices: the chart at the root stands as it did.
  same_choices : occurrences ≡ wanted
  same_choices =
      ap (λ c. follows c a) (kept_chart used w.room room so_far.kept place w.stands.2 w.stands.1.inside)

  sought_onward : (steps : ℕ)
      → sought steps ≡ deepened deepest (next (all steps) k (all steps - tally.left) tally.places)
  sought_onward steps =
      ap (λ t. walk (all steps) (length w.room) t (chart_in w.room place) used steps w.lent.places) w.starts
      ∙ so_far.ends steps

  -- What executing requires.
  pub still_stands : Stands room w.root
  still_stands =
      let (table, rooted, below) = w.stands in (
        kept_table used w.room room so_far.kept table,
        kept_rooted used w.room room place so_far.kept table rooted below,
        below,
      )

  module _ (after : List ℕ) where
    -- There is no choice k.
    pub no_choice_left :
        (missing : Missing) → Follows room used occurrences k after (Err missing)
        → Done after (record { outcome = Failed deepest; tally = tally })
    no_choice_left missing given =
        let none : length wanted ≤ k = omega (arith, given.0, ap length same_choices) in
        let last : max deepest 0 ≡ deepest = omega arith in
        record {
          kept = kept_then used used w.room room after (omega arith) so_far.kept given.1;
          left = omega (arith, so_far.taken);
          ends = λ steps.
              sym
              (sought_onward steps
              ∙ ap (deepened deepest)
              (none_left (all steps) (length w.room) (goes (all steps) (log_of w.rest) (length w.room)) used
              wanted k none (all steps - tally.left) tally.places)
              ∙ ap (λ d. failed d (all steps - tally.left) tally.places) last);
        }

    module _ (x : Root) (asked : Follows room used occurrences k after (Ok x)) where
      given : Follows room used wanted k after (Ok x)
      given = subst (λ xs. Follows room used xs k after (Ok x)) same_choices asked

      -- There is a choice k.
      pub choice_left : k < length wanted
      choice_left = given.0

      module _ (later : List ℕ) (r : Ended) (attempt : Attempts after (log_of w.rest) x tally later r) where
        kept_later : Kept used w.room later
        kept_later =
            let grown : used ≤ x.used = omega (arith, given.1.cost, w.stands.0.counted, so_far.kept.long) in
            kept_then used x.used w.room after later grown
            (kept_then used used w.room room after (omega arith) so_far.kept given.1.kept) attempt.kept

        -- What was tried,
        abbrev asked_for : ℕ → ℕ → Ending
        asked_for n s =
            follow_up (leb n s) (ltb (length after) x.used) x.used
            (goes n (log_of w.rest) (length after) (chart_in after x.place) x.used) s tally.places

        -- is choice k of the definition.
        abbrev choice : ℕ → ℕ → ℕ → Ending
        choice n s long =
            tried n long (goes n (log_of w.rest) long) used
            wanted k s tally.places

        tried_alike : (n s : ℕ) → s + tally.left ≡ n → ending_of n r ≡ choice n s (length w.room)
        tried_alike n s e =
            subst (λ m. ending_of m r ≡ asked_for m s) e (attempt.ends s)
            ∙ same_choice n (log_of w.rest) room used
            wanted k after x given (leb n s) s tally.places
            ∙ ap (choice n s) so_far.kept.long

        -- The definition finds the same ending, or, if the choice failed, the ending of the choices after it.
        found_alike : (steps : ℕ)
            → sought steps ≡ deepened deepest (or_next (ending_of (all steps) r) (next (all steps) (suc k)))
        found_alike steps =
            let s = all steps - tally.left in
            sought_onward steps
            ∙ ap (deepened deepest)
            (one_left (all steps) (length w.room) (goes (all steps) (log_of w.rest) (length w.room)) used
            wanted k given.0 s tally.places
            ∙ ap (λ e. or_next e (next (all steps) (suc k)))
            (sym (tried_alike (all steps) s (omega (arith, so_far.taken)))))

        -- The choice did not fail: the search ends as it did.
        pub choice_settles : Settled r.outcome → Done later r
        choice_settles settled =
            record {
              kept = kept_later;
              left = omega (arith, attempt.left, so_far.taken);
              ends = λ steps.
                  settled_ends deepest (all steps) r.tally (next (all steps) (suc k)) r.outcome settled
                  ∙ sym (found_alike steps);
            }

        -- The choice failed: the search goes on with the next.
        pub choice_fails :
            (beyond : ℕ) → r.outcome ≡ Failed beyond → Going w later (max deepest (1 + beyond)) r.tally (k + 1)
        choice_fails beyond told =
            let there : k + 1 ≡ suc k = omega arith in
            let one : 1 + beyond ≡ suc beyond = omega arith in
            record {
              kept = kept_later;
              taken = omega (arith, so_far.taken, attempt.step beyond told);
              among = omega (arith, given.0);
              ends = λ steps.
                  rw (there, one)
                  (ap (λ t. walk (all steps) (length w.room) t (chart_in w.room place) used steps w.lent.places)
                  (sym w.starts)
                  ∙ found_alike steps
                  ∙ ap (λ o. deepened deepest (or_next (ending_by (all steps) r.tally o) (next (all steps) (suc k))))
                  told
                  ∙ deepened_twice deepest (suc beyond)
                  (next (all steps) (suc k) (all steps - r.tally.left) r.tally.places));
            }
