-- Terminating is a question that is answered by descending a chart, and so is evading a lifeline. The answer at a place
-- comes from the answers at its parts, and the right part is asked only if the left does not decide.
-- Assumes nothing.
use Prim.Native.Nat.{ℕ, ◌≤◌}
use mathlib.Core.Bool.{Bool, true, false, ◌&&◌, ◌||◌}
use mathlib.Core.List.{List}
use mathlib.Core.Path.{◌≡◌, refl, ap, sym, ◌∙◌}
use Rattle.chart_spec.specs.Chart.{Chart}
use Rattle.chart_spec.specs.Chart.Chart.{act}
use Rattle.chart_spec.specs.Executing.{terminates, evades}
use Rattle.node.specs.declared.Node.{Node}
use Rattle.room_spec.specs.Room.{chart_in}
use Rattle.room_spec.specs.Descending.{Descends}
use Rattle.room_spec.proofs.Apart.{Reading, empty_here, action_here, order_here, alt_here, loop_here, unknown_here}

pub terminates_descends : Descends terminates
terminates_descends =
    record { at_empty = refl; at_alt = λ l r. refl; at_pair = λ o l r. refl; at_loop = λ k b. refl }

pub evades_descends : (d : ℕ) → Descends (λ c. evades c d)
evades_descends d =
    record { at_empty = refl; at_alt = λ l r. refl; at_pair = λ o l r. refl; at_loop = λ k b. refl }

or_decided : (p q : Bool) → p ≡ true → p ≡ (p || q)
or_decided true q e = refl
or_decided false q e = cc

or_undecided : (p q : Bool) → p ≡ false → q ≡ (p || q)
or_undecided true q e = cc
or_undecided false q e = refl

and_decided : (p q : Bool) → p ≡ false → p ≡ (p && q)
and_decided true q e = cc
and_decided false q e = refl

and_undecided : (p q : Bool) → p ≡ true → q ≡ (p && q)
and_undecided true q e = refl
and_undecided false q e = cc

module _ {f : Chart → Bool} (descends : Descends f) (r : Reading) where
  abbrev room : List ℕ
  room = r.room

  abbrev place : ℕ
  place = r.place

  abbrev n : Node
  n = r.node

  abbrev asked : ℕ → Bool
  asked p = f (chart_in room p)

  pub yes_at_empty : n.kind ≡ 0 → true ≡ asked place
  yes_at_empty k = sym (ap f (empty_here r k) ∙ descends.at_empty)

  -- What is said at an action on that lifeline.
  pub said_at_an_action :
      1 ≤ n.kind → n.kind ≤ 2 → (said : Bool)
      → ((receives : Bool) (message : ℕ)
      → said ≡ f (act (record { line = n.a; receives = receives; message = message })))
      → said ≡ asked place
  said_at_an_action low high said on_it =
      let (receives, e, acts) = action_here r low high in
      on_it receives n.b ∙ sym (ap f acts)

  pub yes_at_a_loop : 7 ≤ n.kind → n.kind ≤ 10 → true ≡ asked place
  yes_at_a_loop low high =
      let (k, e, loops) = loop_here r low high in
      sym (ap f loops ∙ descends.at_loop k (chart_in room n.a))

  pub yes_at_the_unknown : 11 ≤ n.kind → true ≡ asked place
  yes_at_the_unknown k = sym (ap f (unknown_here r k) ∙ descends.at_empty)

  module _ (left : Bool) (on_left : left ≡ asked n.a) where
    asked_of_an_alt : n.kind ≡ 6 → (left || asked n.b) ≡ asked place
    asked_of_an_alt k =
        ap (λ p. p || asked n.b) on_left
        ∙ sym (ap f (alt_here r k) ∙ descends.at_alt (chart_in room n.a) (chart_in room n.b))

    asked_of_a_pair : 3 ≤ n.kind → n.kind ≤ 5 → (left && asked n.b) ≡ asked place
    asked_of_a_pair low high =
        let (o, e, pairs) = order_here r low high in
        ap (λ p. p && asked n.b) on_left
        ∙ sym (ap f pairs ∙ descends.at_pair o (chart_in room n.a) (chart_in room n.b))

    pub alt_by_its_left : n.kind ≡ 6 → left ≡ true → left ≡ asked place
    alt_by_its_left k e = or_decided left (asked n.b) e ∙ asked_of_an_alt k

    pub pair_by_its_left : 3 ≤ n.kind → n.kind ≤ 5 → left ≡ false → left ≡ asked place
    pair_by_its_left low high e = and_decided left (asked n.b) e ∙ asked_of_a_pair low high

    module _ (right : Bool) (at_right : right ≡ asked n.b) where
      pub alt_by_its_right : n.kind ≡ 6 → left ≡ false → right ≡ asked place
      alt_by_its_right k e = at_right ∙ or_undecided left (asked n.b) e ∙ asked_of_an_alt k

      pub pair_by_its_right : 3 ≤ n.kind → n.kind ≤ 5 → left ≡ true → right ≡ asked place
      pair_by_its_right low high e = at_right ∙ and_undecided left (asked n.b) e ∙ asked_of_a_pair low high
