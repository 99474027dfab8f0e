-- `printed::promises` meets its contract: there is one nearest number, and its text tells it.
use Rattle.printed.proofs.Nearby.{nearest_of, is_nearest, one}
use Rattle.printed.proofs.Outcome.{settled}
use Rattle.printed.proofs.Refusals.{above_zero, four, room, written}
use Rattle.printed.proofs.Reading.{reads, tells, minus_sign}
use Rattle.printed.proofs.Shape.{shaped}
use Rattle.printed.proofs.Sizes.{longest}
use Rattle.printed.proofs.Within.{within_half}
use Rattle.printed.proofs.promises.Goals as goal

pub returns : goal.returns
returns c =
    record {
      some = λ sum scale decimals. (nearest_of sum scale decimals, is_nearest scale decimals sum);
      one = one;
      settled = settled;
      four = λ value offset bits decimals lent left r h p. four p h;
      room = λ value offset bits decimals lent left r n l h d near k p. room p n l h d near k;
      written = λ value offset bits decimals lent left r n l h d near k p. written p n l h d near k;
      within_half = within_half;
      minus_sign = minus_sign;
      reads = reads;
      tells = tells;
      shaped = shaped;
      longest = λ value offset bits decimals n v o l g d h. longest value offset bits decimals n v o (above_zero bits l g) d h;
    }
