-- How late a step can come, from when it leaves exactly.
use native.Mathlib.Omega.{arith}
use Rattle.plays.specs.Promises as plays
use Rattle.promises.specs.HowLate.{HowLate}

pub how_late : plays.Promises → HowLate
how_late p m s es l i t left =
    let latest = ((p.leavings.exactly m s es l i t).0 left).0 in
    let one = latest.one_of_them in
    record {
      step = one.0;
      up_to = one.1;
      due = one.2.0;
      is_due = one.2.1;
      not_before = omega (arith, one.2.2);
      soon = omega (arith, one.2.2);
      none_later = λ j k. let x = latest.none_later j k in (x.0, x.1, omega (arith, x.2));
    }
