-- `answer_in` meets its contract: 10 if the chart exceeds the room, else the answer of the search.
-- Assumes nothing.
use mathlib.Core.Path.{sym, ap, ◌∙◌}
use Rattle.judge_spec.specs.Judgment.{judged_of}
use Rattle.std.specs.Prelude.{None}
use Rattle.judge.proofs.Answering.{returned_by_laying, laid_stands, search_answers}
use Rattle.judge.proofs.answer_in.Goals as goal

pub returns-in_default : goal.returns-in_default
returns-in_default c =
    let s = c.args in
    c.refused.ensures
    ∙ sym
    (returned_by_laying s.card.bytes.now s.log.now s.room.now s.allowance s.card.sound c.requires.1 None
    (sym c.in_default.is ∙ c.lay.ensures.0))

pub search-ended-requires : goal.search-ended-requires
search-ended-requires c =
    let s = c.args in (
      laid_stands s.card.bytes.now s.log.now s.room.now s.allowance s.card.sound c.requires.1 c.in-Some.root
          (sym c.in-Some.is ∙ c.lay.ensures.0) c.lay.new.room c.lay.ensures.1,
      c.requires.0,
    )

pub returns : goal.returns
returns c =
    let s = c.args in
    c.tell.ensures
    ∙ ap judged_of
    (search_answers s.card.bytes.now s.log.now s.room.now s.allowance s.card.sound c.requires.1 c.in-Some.root
    (sym c.in-Some.is ∙ c.lay.ensures.0) c.lay.new.room c.lay.ensures.1 c.search-ended.new.room
    c.search-ended.result c.search-ended.ensures)
