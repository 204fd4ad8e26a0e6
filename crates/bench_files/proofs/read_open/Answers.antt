-- `read_open` meets its contract: what was read are the bytes that the file had and has no more, at each turn and at
-- the end. Assumes nothing.
use Rattle.std.proofs.Common.{ℕ, List, ◌≡◌, ◌∙◌, sym, subst, arith, rules}
use Rattle.std.specs.Prelude.{Option}
use Rattle.bench_spec.specs.Reading.{AllRead}
use Rattle.bench_files.proofs.Filling.{goes_on, ends}
use Rattle.bench_files.proofs.read_open.Goals as goal

pub loop-read-preserved : goal.loop-read-preserved
loop-read-preserved g c =
    record {
      inside = search rules;
      long = search rules;
      lost = goes_on _ _ _ c.loop-read.bytes c.read-got.new.buf _ c.loop-read.end (omega arith) c.read-got.result _ _
          c.read-got.ensures.bound c.read-got.ensures.bytes c.loop-read.invariant.lost
          (sym c.after.ensures ∙ c.in-Continue.is);
    }

-- An answer that is the content that was read is answered with all that the file had.
answered_so :
    (had : Option (List ℕ)) (content answer : Option ℕ) (bytes : List ℕ) → content ≡ answer
    → AllRead had content bytes → AllRead had answer bytes
answered_so had content answer bytes e all = subst (λ told. AllRead had told bytes) e all

pub returns-in-Break-clause-whole : goal.returns-in-Break-clause-whole
returns-in-Break-clause-whole g c =
    answered_so (g.F.Read.remaining c.args.file.now) c.in-Break.content _ _ (search rules)
    (ends _ _ _ c.loop-read.bytes c.read-got.new.buf _ c.loop-read.end (omega arith) c.read-got.result _ _
    c.read-got.ensures.bound c.read-got.ensures.bytes c.loop-read.invariant.lost (search rules) (search rules)
    (search rules) (sym c.after.ensures ∙ c.in-Break.is))
