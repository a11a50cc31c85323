-- `questions::counted::with_one` meets its contract: the answers that are lists. Assumes nothing.
use lib.ListN.{length}
use Rattle.words.specs.Choice.{chosen}
use Rattle.words.specs.Text.{same}
use Rattle.questions.specs.Question.{with_one}
use Rattle.questions.proofs.Answered.{terms_answers, year_answers}
use Rattle.questions.proofs.Listed.{terms_long, year_long}
use Rattle.questions.proofs.counted.with_one.Goals as goal

pub returns-in-terms : goal.returns-in-terms
unfolding chosen same with_one
returns-in-terms c =
    rw c.in-terms.is (terms_answers _ _ _ _ _ c.terms.ensures.value c.terms.ensures.writes (terms_long c.args.n (length c.args.row.now)))

pub returns-in-year : goal.returns-in-year
unfolding chosen same with_one
returns-in-year c =
    rw c.in-year.is (year_answers _ _ _ _ _ c.list.ensures.value c.list.ensures.writes (year_long c.args.n _))
