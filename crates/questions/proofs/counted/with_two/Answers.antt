-- `questions::counted::with_two` meets its contract: the answer that is a list. Assumes nothing.
use Rattle.words.specs.Choice.{chosen}
use Rattle.words.specs.Text.{same}
use Rattle.questions.specs.Question.{with_two}
use Rattle.questions.proofs.Answered.{years_answers}
use Rattle.questions.proofs.Listed.{run_long}
use Rattle.questions.proofs.counted.with_two.Goals as goal

pub returns-in-years : goal.returns-in-years
unfolding chosen same with_two
returns-in-years c =
    rw c.in-years.is (years_answers _ _ _ _ _ c.run.ensures.value c.run.ensures.writes (run_long c.args.n c.args.i _))
