-- What a file tells does not depend on the table and the text.
use mathlib.Core.Path.{◌∙◌}
use Rattle.blocks.proofs.Files.{told_whole}
use Rattle.blocks.proofs.file.measured.Goals as goal

pub returns-clause-result_value : goal.returns-clause-result_value
returns-clause-result_value c = c.walk_file.ensures.result_value ∙ told_whole c.args.file.now c.args.lines _ _
