-- `history::promises` meets its contract: four parts are what the other functions ensure, the others are the theorems.
use Rattle.events.proofs.Regular.{given_regular}
use Rattle.history.proofs.Runs.{traces, recorded, exact, loaded, set, others, happened, happened_last}
use Rattle.history.proofs.Blocks.{stored}
use Rattle.history.proofs.promises.Goals as goal

pub returns : goal.returns
returns c =
    record {
      counted = c.counted.ensures;
      attached = c.attached.ensures;
      answered = c.answered.ensures;
      opened = c.opened.ensures;
      recorded = recorded;
      kept = λ events. (traces events).kept;
      exact = exact;
      loaded = loaded;
      set = set;
      others = others;
      stored = stored;
      happened = happened;
      happened_last = happened_last;
      sound = λ m g. (given_regular m g).recording.sound;
      sound_sequence = λ m g. (given_regular m g).sequence;
      tidy = λ m g. (given_regular m g).playback.tidy;
    }
