-- What 01 calls well formed, as tests.
use Rattle.std.specs.Prelude.{ℕ, zero, suc, ◌+◌, ◌-◌, ◌*◌, ◌/◌, ◌^◌, Bool, true, false, ◌&&◌, List, length, ◌==◌, nat_le, nat_lt, Result, Ok, Err}
use Rattle.coder.specs.Interval.{Coder, code}
use Rattle.coder.specs.Stream.{Stream}
use Rattle.fields.specs.Numbers.{fault_number}
use Rattle.fields.specs.declared.refusal.Fault.{Fault}

-- "low is below 0x8000, high is 0x8000 to 0xFFFF, low hasn't 0x4000 while high lacks it"
unfoldable pub limits_formed : Coder → Bool
limits_formed s = nat_lt s.low 0x8000 && (nat_le 0x8000 s.high && (nat_le s.high 0xFFFF && nat_le (s.low / 0x4000 + 2) (s.high / 0x4000)))

abbrev pub bits_in : List ℕ → ℕ
bits_in l = 8 * length l

-- a buffer of so many bytes holds the settled and the pending bits
abbrev pub fits : Coder → ℕ → Bool
fits s len = nat_le (s.settled + s.pending) (8 * len)

-- a writer's state: "settled plus pending bits fit the lent buffer"
unfoldable pub writer_formed : Coder → ℕ → Bool
writer_formed s len = limits_formed s && fits s len

-- the n bits from place p are b
unfoldable pub is_run : Stream → ℕ → ℕ → ℕ → Bool
is_run x p zero b = true
is_run x p (suc n) b = x p == b && is_run x (suc p) n b

-- the bits after the next one, as many as are pending, are its inverse
unfoldable pub pending_inverted : Coder → Stream → Bool
pending_inverted s x = is_run x (s.settled + 1) s.pending (1 - x s.settled)

-- the number that the reader finds lies from low to high
unfoldable pub code_within : Coder → Stream → Bool
code_within s x = nat_le s.low (code s x) && nat_le (code s x) s.high

unfoldable pub finds : Coder → Stream → Bool
finds s x = pending_inverted s x && code_within s x

-- a reader's state, but for the pending bits: "both are below 2^32"
unfoldable pub reader_formed : Coder → Stream → Bool
reader_formed s x = limits_formed s && (nat_lt s.settled (2 ^ 32) && (nat_lt s.pending (2 ^ 32) && code_within s x))

-- the number where the test fails; else what the later tests say
abbrev pub unless : Bool → ℕ → ℕ → ℕ
unless true number later = later
unless false number later = number

-- the first of two numbers that is not 0
abbrev pub first : ℕ → ℕ → ℕ
first zero later = later
first (suc n) later = suc n

-- the number of what the code hands back: 0 where nothing is wrong
abbrev pub fault_given : {A : Type 0} → Result A Fault → ℕ
fault_given (Ok a) = 0
fault_given (Err f) = fault_number f
