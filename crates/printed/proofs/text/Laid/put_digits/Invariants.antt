-- `printed::text::Laid::put_digits` meets its contract. The loop's invariant: what is to be stored from the start is what is to be stored from here.
use mathlib.Core.Path.{◌≡◌}
use Prim.Native.Nat.{◌+◌, ◌-◌, ◌/◌, ◌^◌, ◌≤◌}
use lib.Seq.{sets}
use Rattle.printed.specs.Text.{last_digits}
use Rattle.printed.specs.Steps.{number_in}
use Rattle.printed.proofs.text.Laid.put_digits.Given as goal

abbrev pub invariant-loop-k : goal.invariant-loop-k
invariant-loop-k l =
    (sets l.initial.out l.place (last_digits l.count (number_in l.self.digits / 10 ^ l.from)) ≡ sets l.out (l.place + l.k) (last_digits (l.count - l.k) (number_in l.self.digits / 10 ^ l.from)))
    × (l.k ≤ l.count)
