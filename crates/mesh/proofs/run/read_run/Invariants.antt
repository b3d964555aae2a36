use Prim.Native.Nat.{◌*◌, ◌+◌, ◌-◌}
use mathlib.Core.Path.{◌≡◌}
use lib.ListN.{length}
use Rattle.mesh.specs.Inside.{rules_from, stored_run}
use Rattle.mesh.specs.Run.{run_at}
use Rattle.mesh.proofs.run.read_run.Given as goal

abbrev pub invariant-loop-i : goal.invariant-loop-i
invariant-loop-i l =
    let n = length l.fn.values in
    let end = l.from + 4 * n in record {
      reached : l.at ≡ l.from + 4 * l.i;
      whole : stored_run l.fn.values 0 end (run_at (rules_from l.rules 0 n) l.s l.from)
          ≡ stored_run l.values l.i end (run_at (rules_from l.rules l.i (n - l.i)) l.s l.at);
    }
