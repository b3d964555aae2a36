-- A compressed value before a plain one (02, Ask 13: "one compressed value after which this fails").
use Rattle.std.specs.Prelude.{ℕ, replicate, true, List, [], ◌∷◌}
use Rattle.coder.specs.declared.write.Width.TheVariants.{U8}
use Rattle.coder_theorems.specs.Runs.{Held, Number, Step, put, static}
use Rattle.plain_theorems.specs.PlainRuns.{PlainValue, put_all}

-- the plain U8 5, and a number before it
abbrev pub five : PlainValue
five = record { width = U8; value = 5 }

abbrev pub five_after : Number → List Step
five_after n = put n ∷ put_all (five ∷ [])

-- 01's row "fresh, range 3, value 1": no bit is settled, and one is pending
abbrev pub one_of_three : Number
one_of_three = record { context = static 3; value = 1 }

-- what is held after it and the plain U8 5, from a fresh start in eight bytes of zeros; and those bytes once that is ended
abbrev pub held_after_three : Held
held_after_three = record {
  buffer = 0x51 ∷ 0x01 ∷ replicate 6 0;
  writer = record { coder = record { low = 0x5400; high = 0xFDFF; pending = 0; settled = 9 }; compressed = true };
  histograms = [];
}

abbrev pub ended_after_three : List ℕ
ended_after_three = 0x51 ∷ 0x55 ∷ replicate 6 0

-- the one value of a range of 1 leaves the limits as they are
abbrev pub only_one : Number
only_one = record { context = static 1; value = 0 }
