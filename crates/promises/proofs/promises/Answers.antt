-- `promises::promises` meets its contract: each part is what its crate ensures.
use Rattle.promises.proofs.HowLate.{how_late}
use Rattle.promises.proofs.Replayed.{replayed}
use Rattle.promises.proofs.Sample.{sample}
use Rattle.promises.proofs.promises.Goals as goal

pub returns : goal.returns
returns c =
    record {
      determined = c.determined.ensures;
      calls = c.promises-7.ensures;
      numbers = c.promises-8.ensures.numbers;
      written = c.promises-8.ensures.written;
      ways = c.promises-8.ensures.ways;
      blank_outside = c.promises-8.ensures.blank_outside;
      pools = c.round_trip.ensures;
      objects_for_c = c.read_back.ensures;
      codes = c.codes.ensures;
      edges = c.edges.ensures;
      tables = c.tables.ensures;
      kept_of_pools = c.says.ensures.says_of;
      kept_of_one = c.says.ensures.kept_of;
      messages = c.promises.ensures.comes_back;
      refusals = c.promises.ensures.refuses;
      clauses = c.clauses.ensures;
      flat_again = c.promises-2.ensures;
      messages_for_c = c.read_back-2.ensures;
      shown = c.promises-3.ensures;
      shown_examples = c.examples.ensures;
      printed = c.promises-4.ensures;
      printed_examples = c.examples-2.ensures;
      recording = c.promises-5.ensures;
      recorded = c.promises-9.ensures;
      blocks = c.promises-11.ensures;
      verification = c.promises-6.ensures.verifies;
      names = c.promises-6.ensures.agrees;
      playback = c.promises-10.ensures;
      frames = c.promises-6.ensures.framing;
      state = c.promises-6.ensures.changes;
      tan = c.promises-8.ensures.tan;
      all_enabled = c.promises-8.ensures.all_enabled;
      how_late = how_late c.promises-10.ensures;
      replayed = replayed c.promises-8.ensures.ways c.promises-9.ensures c.promises-10.ensures;
      cases = record { pools = c.cases.ensures; messages = c.promises.ensures.message_cases; answer = c.promises-8.ensures.starred; ticks = c.promises-6.ensures.cases };
      sample = sample;
    }
