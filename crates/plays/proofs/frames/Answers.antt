-- `plays::frames` meets its contract, by the theorems.
use mathlib.Core.Path.{sym}
use Rattle.plays.proofs.Commands.{command_is, differ}
use Rattle.plays.proofs.Written.{without_frames, written, repeats_of, no_other_of, first_leaves}
use Rattle.plays.proofs.frames.Goals as goal

pub returns : goal.returns
returns c = record {
  written = written;
  repeats = λ m s es mm out l z. repeats_of m es mm out (written m s es mm out l z) s;
  no_other = λ m s es mm out l z. no_other_of m es mm out (written m s es mm out l z);
  without_frames = without_frames;
  first = first_leaves;
  command = λ m s i h. sym (command_is m s i h);
  differ = differ;
}
