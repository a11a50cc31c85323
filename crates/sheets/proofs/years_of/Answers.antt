-- `crate::years_of` meets its contract: a sheet's question is that of its marks. Assumes nothing.
use Rattle.std.proofs.Common.{ap, ◌∙◌}
use Rattle.sheets.specs.Sheet.{with_marks}
use Rattle.sheets.specs.declared.Sheet.{Sheet}
use Rattle.sheets.proofs.OnSheet.{says_same}
use Rattle.sheets.proofs.years_of.Goals as goal

pub returns : goal.returns
returns c = let sheet = c.marked-sheet.ensures ∙ ap (λ (s : Sheet). with_marks s c.args.marks.now) c.blank.ensures in
    let e = rw sheet at c.years_for.ensures in
    says_same c.args.marks.now c.args.row.now c.years_for.result c.years_for.new.row e.0 e.1
