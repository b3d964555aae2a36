-- The table is the list of all bytes with their bits reversed, which is computed here.
use Rattle.coder.specs.Inside.{reversed_bytes}
use Rattle.coder.specs.Symbols.{reversed}
use Rattle.std.proofs.Common.{refl}
use Rattle.coder.proofs.reverse.reversed_bytes.Goals as goal

pub returns : goal.returns
unfolding reversed reversed_bytes
returns c = refl
