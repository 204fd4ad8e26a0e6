-- Working definitions, which nobody has to believe: the follow-ups of a pair, from the follow-ups of its sides.
-- proofs/Pairing.antt shows that they make up `follows`.
-- Assumes nothing.
use Rattle.std.specs.Prelude.{ℕ, Bool, false, List, Result, Ok, Err, eqb}
use Rattle.chart_spec.specs.Chart.{Chart}
use Rattle.chart_spec.specs.Executing.{Made, on_right}
use Rattle.chart_spec.specs.Executing.Made.{kept, new_pair}
use Rattle.node_spec.specs.Kind.{Pair}
use Rattle.node_spec.specs.Kind.Pair.{composed, choice}
use Rattle.room_spec.specs.declared.Root.{Root}
use Rattle.room_spec.specs.declared.Missing.{Missing}

-- What a pair with right side r becomes when its left side becomes x: x replaces the left side; of an alt only x
-- remains.
abbrev pub beside_right : Pair → Chart → Made → Made
beside_right (composed o) r x = new_pair o x (kept r)
beside_right choice r x = x

-- What becomes of the right side's follow-ups xs by an action on d, in a pair with left side l.
abbrev pub beside_left : Pair → Chart → ℕ → List Made → List Made
beside_left (composed o) l d xs = on_right o l d xs
beside_left choice l d xs = xs

-- Whether the answer says that there is no occurrence: as many are to be passed over as before.
abbrev pub none_of : Result Root Missing → ℕ → Bool
none_of (Ok x) k = false
none_of (Err missing) k = eqb missing.more k
