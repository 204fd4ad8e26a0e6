-- What refuses a card: numbers 1 to 5 of the table in 01, "Verdicts and numbers given", each by itself. `Checking`
-- adds 6 and puts them in their order.
-- Assumes nothing.
use Rattle.std.specs.Prelude.{ℕ, zero, suc, ◌-◌, ◌%◌, Bool, false, ◌&&◌, List, eqb, ltb, leb, length, Result, Ok, Err}
use Rattle.number_spec.specs.declared.Refusal.{Refusal}
use Rattle.number_spec.specs.declared.Refusal.TheVariants.{FaultyNode, MisusedNode}
use Rattle.number_spec.specs.Refusals.{rule}
use Rattle.node.specs.declared.Node.{Node}
use Rattle.node_spec.specs.Kind.{Kind, kind_of}
use Rattle.node_spec.specs.Kind.Kind.{nothing, action, pairs, loops, unknown}
use Rattle.node_spec.specs.Row.{uses}
use Rattle.card_spec.specs.Parts.{trailer_byte, trailer_at, back_of, lifelines_of, messages_of}
use Rattle.card_spec.specs.Nodes.{count_of, node_at, spare_at, row_of}

-- Whether x is from low to high.
abbrev pub within : ℕ → ℕ → ℕ → Bool
within low x high = leb low x && leb x high

-- 1: 6 to 4,096 bytes, of which the last two are 57 4C hex.
abbrev pub framed : List ℕ → Bool
framed card = within 6 (length card) 4096 && (eqb (trailer_byte card 4) 0x57 && eqb (trailer_byte card 5) 0x4C)

-- 2: the back distance is a multiple of 4 from 4 to 1,020, and no larger than the bytes before the trailer.
abbrev pub back_in_rule : List ℕ → Bool
back_in_rule card = eqb (back_of card % 4) 0 && (within 4 (back_of card) 1020 && leb (back_of card) (trailer_at card))

-- 3: 1 to 16 lifelines and 1 to 64 messages.
abbrev pub counts_in_range : List ℕ → Bool
counts_in_range card = within 1 (lifelines_of card) 16 && within 1 (messages_of card) 64

-- 4: node i, of that kind, has zero in its unused fields, a declared lifeline and message, and children lower than
-- itself. This is the one definition of what is wrong with a node.
abbrev pub in_order_as : Kind → ℕ → ℕ → ℕ → Node → Bool
in_order_as nothing lifelines messages i n = eqb n.a 0 && eqb n.b 0
in_order_as (action r) lifelines messages i n = ltb n.a lifelines && ltb n.b messages
in_order_as (pairs p) lifelines messages i n = ltb n.a i && ltb n.b i
in_order_as (loops k) lifelines messages i n = eqb n.b 0 && ltb n.a i
in_order_as unknown lifelines messages i n = false

-- Node i is in order: its byte c is zero, and its other bytes are as its kind asks.
abbrev pub in_order : ℕ → ℕ → ℕ → Node → ℕ → Bool
in_order lifelines messages i n c = eqb c 0 && in_order_as (kind_of n.kind) lifelines messages i n

-- Node i of the card is in order.
abbrev pub orderly : ℕ → ℕ → List ℕ → ℕ → Bool
orderly lifelines messages nodes i = in_order lifelines messages i (node_at nodes i) (spare_at nodes i)

-- 5: node j is a child exactly once.
abbrev pub used_once : List Node → ℕ → Bool
used_once row j = eqb (uses row j) 1

-- The first of two findings that refuses.
abbrev pub or_else : Result Unit Refusal → Result Unit Refusal → Result Unit Refusal
or_else (Ok u) g = g
or_else (Err refusal) g = Err refusal

-- The lowest of the first n nodes that does not pass the test is refused.
abbrev pub lowest : (ℕ → Bool) → (ℕ → Refusal) → ℕ → Result Unit Refusal
lowest passes refusal zero = Ok tt
lowest passes refusal (suc n) = or_else (lowest passes refusal n) (rule (refusal n) (passes n))

-- 4, over all nodes.
abbrev pub faulty : ℕ → ℕ → List ℕ → Result Unit Refusal
faulty lifelines messages nodes = lowest (orderly lifelines messages nodes) FaultyNode (count_of nodes)

-- 5, over all nodes but the root.
abbrev pub misused : List ℕ → Result Unit Refusal
misused nodes = lowest (used_once (row_of nodes)) MisusedNode (count_of nodes - 1)
