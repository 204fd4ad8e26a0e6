-- `spell` meets its contract: the line of a judgment, or the line for a missing file. Assumes nothing.
use Rattle.std.proofs.Common.{sym, subst, arith}
use Rattle.bench_spec.specs.Spelling.{decimal, line_of, printed}
use Rattle.bench_line.specs.Texts.{Says}
use Rattle.bench_line.proofs.Adding.{says_all}
use Rattle.bench_line.proofs.spell.Goals as goal

pub returns-in-None : goal.returns-in-None
unfolding decimal
returns-in-None c =
    subst (λ told. Says (printed (line_of told)) c.with_bytes.result) (sym c.in-None.is)
    (says_all c.empty.ensures c.with_bytes.ensures (omega arith))
