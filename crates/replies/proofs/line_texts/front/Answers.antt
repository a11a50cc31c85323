-- `replies::line_texts::front` meets its contract. Assumes nothing.
use borrow.Author.Rules.{rules}
use mathlib.Core.Path.{refl}
use Rattle.replies.proofs.line_texts.front.Goals as goal

pub returns : goal.returns
returns c = ((refl, λ w. refl), record { value = search rules; writes_back = tt })
