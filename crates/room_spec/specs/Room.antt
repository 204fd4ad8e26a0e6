-- Working definitions, which nobody has to believe: a room as a run of numbers, each of which holds a node, and the
-- charts that stand in it.
-- Assumes nothing.
use Rattle.std.specs.Prelude.{ℕ, suc, ◌≤◌, ◌<◌, List, map, ◌≡◌, length, get_or, take}
use Rattle.chart_spec.specs.Chart.{Chart}
use Rattle.chart_spec.specs.Chart.Chart.{empty}
use Rattle.node.specs.declared.Node.{Node}
use Rattle.node.specs.Place.{node_of}
use Rattle.node_spec.specs.Row.{charts, children, Below}
use Rattle.room_spec.specs.declared.Root.{Root}

-- The nodes of a room: "a lent run of 32-bit numbers, one a place" (01, How a log is executed).
abbrev pub nodes_in : List ℕ → List Node
nodes_in room = map node_of room

-- The node at a place.
abbrev pub node_in : List ℕ → ℕ → Node
node_in room place = node_of (get_or room place 0)

-- The chart that stands at a place, its parts found at the places before it.
abbrev pub chart_in : List ℕ → ℕ → Chart
chart_in room place = get_or (charts (nodes_in room)) place empty

-- The first `used` places are in use, of at most 16,384 usable ones (01, How a log is executed): no more than the room
-- has, or one more if the room was exceeded. Each node in them has its parts at lower places.
pub record Table (room : List ℕ) (used : ℕ) : Type 0 where
  pub usable : length room ≤ 16384
  pub counted : used ≤ suc (length room)
  pub lower : (p : ℕ) → p < used → p < length room → Below p (children (node_in room p))

-- A part has its root at this place: it and every node before it have their parts at lower places. Functions ask it in
-- a clause, and not by a type of a room and a place: it holds for the parts of a part too, so each descent would have
-- to make such a value, with the same proof as for the clause.
pub record Rooted (room : List ℕ) (place : ℕ) : Type 0 where
  pub inside : place < length room
  pub table : Table room (suc place)

-- A part stands in a room: the places in use with it are a table, and its root is one of them. Functions ask it in a
-- clause, and not by a type: it is a fact of a part and of a room that is lent and written meanwhile.
abbrev pub Stands : List ℕ → Root → Type 0
Stands room root = Table room root.used × Rooted room root.place × root.place < root.used

-- Nothing in the first `used` places has changed, nor has the length.
pub record Kept (used : ℕ) (before after : List ℕ) : Type 0 where
  pub long : length after ≡ length before
  pub same : take used after ≡ take used before
