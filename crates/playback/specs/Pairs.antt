-- Two arrays, cell by cell.
use Rattle.std.specs.Prelude.{List, zip}

-- the first with the first, the second with the second, up to the end of one of them
abbrev pub pairs : {X Y : Type 0} → List X → List Y → List (X × Y)
pairs xs ys = zip xs ys
