-- Plain values by the number of their bytes.
use Prim.Native.Nat.{ℕ}
use mathlib.Core.Bool.{true, false}
use mathlib.Core.Path.{◌≡◌, refl}
use mathlib.Core.List.{List}
use borrow.Author.Tests.{ne_eqb}
use Rattle.coder.specs.Reading.{take_plain, take_static}
use Rattle.coder.specs.Writing.{bytes_in, write_plain, write_static}
use Rattle.coder.specs.declared.interval.Coder.{Coder}
use Rattle.coder.specs.declared.write.Width.{Width}
use Rattle.coder.specs.declared.write.Width as width
use Rattle.coder.specs.declared.write.Writer.{Writer}
use Rattle.oysterfold.specs.CoderState.{is_width}
use Rattle.oysterfold.specs.Reading.{take_bytes}
use Rattle.oysterfold.specs.Writing.{write_bytes}

-- each of the coder's widths is one
a_width : (w : Width) → is_width (bytes_in w) ≡ true
a_width width.TheVariants.U8 = refl
a_width width.TheVariants.U16 = refl
a_width width.TheVariants.U32 = refl

module _ (bytes : ℕ) where
  no_width : ((w : Width) → bytes ≡ bytes_in w → ⊥) → is_width bytes ≡ false
  no_width none =
      rw (ne_eqb bytes 1 (none width.TheVariants.U8), ne_eqb bytes 2 (none width.TheVariants.U16), ne_eqb bytes 4 (none width.TheVariants.U32))

  module _ (buffer : List ℕ) (w : Writer) (value : ℕ) where
    pub width_written : (width : Width) → bytes ≡ bytes_in width → write_plain (bytes_in width) buffer w value ≡ write_bytes bytes buffer w value
    unfolding write_bytes
    width_written width e = rw (e, a_width width)

    pub no_plain_written : ((width : Width) → bytes ≡ bytes_in width → ⊥) → write_static 0 buffer w value ≡ write_bytes bytes buffer w value
    unfolding write_bytes
    no_plain_written none = rw (no_width none)

  module _ (coded : List ℕ) (s : Coder) where
    pub plain_read : (width : Width) → bytes ≡ bytes_in width → take_plain true (bytes_in width) coded s ≡ take_bytes bytes coded s
    unfolding take_bytes
    plain_read width e = rw (e, a_width width)

    pub no_plain_read : ((width : Width) → bytes ≡ bytes_in width → ⊥) → take_static true 0 coded s ≡ take_bytes bytes coded s
    unfolding take_bytes
    no_plain_read none = rw (no_width none)
