-- `words::find` meets its contract. Assumes nothing.
use Rattle.std.proofs.Common.{◌∙◌, rules, tests}
use Rattle.std.proofs.lemmas.Iterator.{YieldsList-from_slice}
use Rattle.std.proofs.lemmas.Iterator.Search.{position_from_yields_List}
use Rattle.words.proofs.Found.{is_b, found}
use Rattle.words.proofs.find.Goals as goal

pub returns-clause-value : goal.returns-clause-value
returns-clause-value c =
    let b = c.args.b in
    let s = c.args.s.now in
    c.unwrap_or.ensures
    ∙ found b s c.position.result (position_from_yields_List (is_b b s) _ _ c.position.result c.position.ensures.ran (YieldsList-from_slice s cc) (λ x r q k. search (rules, tests)))
