-- What is told with lines.
use mathlib.Core.Path.{◌∙◌}
use Rattle.blocks.proofs.Files.{lines_told}
use Rattle.blocks.proofs.file.lines_size.Goals as goal

pub returns : goal.returns
returns c = c.measured.ensures.result_value ∙ lines_told c.args.file.now c.args.file.now
