-- A working definition, which nobody has to believe: the occurrence of an action at a node.
-- Assumes nothing.
use Rattle.std.specs.Prelude.{List, eqb}
use Rattle.chart_spec.specs.Action.{Action}
use Rattle.chart_spec.specs.Chart.Chart.{act}
use Rattle.chart_spec.specs.Executing.{Made, follows}
use Rattle.node.specs.declared.Node.{Node}

-- The follow-ups of a node of kind 1 or 2 by an action: "the action becomes empty".
abbrev pub occurrences : Node → Action → List Made
occurrences n a =
    follows (act (record { line = n.a; receives = eqb n.kind 2; message = n.b })) a
