-- `store::promises` meets its contract, by the theorems.
use Rattle.store.proofs.Again.{again, differ, length_stored}
use Rattle.store.proofs.Altered.{altered}
use Rattle.store.proofs.Accepted.{accepted}
use Rattle.store.proofs.Octets.{stored_bytes}
use Rattle.store.proofs.Before.{before}
use Rattle.store.proofs.Whole.{whole}
use Rattle.store.proofs.Example.{layout}
use Rattle.store.proofs.promises.Goals as goal

pub returns : goal.returns
returns c =
    record {
      again = again;
      differ = differ;
      altered = altered;
      accepted = accepted;
      length_stored = length_stored;
      bytes = stored_bytes;
      before = before;
      whole = whole;
      layout = layout;
    }
