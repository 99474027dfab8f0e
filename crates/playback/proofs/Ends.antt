-- What becomes of a playback: the test of two ends says that they are the same.
use mathlib.Core.Path.{◌≡◌, refl, sym}
use mathlib.Core.Bool.{true, true≢false}
use Rattle.playback.specs.declared.End.{End}
use Rattle.playback.specs.declared.End.TheVariants.{GoesOn, ToReady, ToAbort}
use Rattle.playback.specs.State.{same_end}

pub is_end : (a b : End) → same_end a b ≡ true → a ≡ b
is_end GoesOn GoesOn e = refl
is_end GoesOn ToReady e = absurd (true≢false (sym e))
is_end GoesOn ToAbort e = absurd (true≢false (sym e))
is_end ToReady GoesOn e = absurd (true≢false (sym e))
is_end ToReady ToReady e = refl
is_end ToReady ToAbort e = absurd (true≢false (sym e))
is_end ToAbort GoesOn e = absurd (true≢false (sym e))
is_end ToAbort ToReady e = absurd (true≢false (sym e))
is_end ToAbort ToAbort e = refl
