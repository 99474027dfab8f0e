-- `recording::promises` meets its contract, by the theorems.
use Rattle.recording.proofs.Sound.{sound_blank, sound_counted, sound_heard}
use Rattle.recording.proofs.Records.{slot_bound}
use Rattle.recording.proofs.Hears.{hears}
use Rattle.recording.proofs.Keeps.{sound_none, sound_kept, kept_ordered, keeps}
use Rattle.recording.proofs.promises.Goals as goal

pub returns : goal.returns
returns c =
    record {
      always = record { blank = sound_blank; none = sound_none; counted = sound_counted; heard = sound_heard; kept = sound_kept; kept_ordered = kept_ordered; bound = slot_bound };
      hears = hears;
      keeps = keeps;
    }
