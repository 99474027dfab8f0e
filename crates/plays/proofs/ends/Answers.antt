-- `plays::ends` meets its contract, by the theorems.
use Rattle.plays.proofs.Theorems.{ends_in_time}
use Rattle.plays.proofs.Replies.{replies, are_done}
use Rattle.plays.proofs.Causes.{why_ends}
use Rattle.plays.proofs.Endings.{ends, unfinished, sixteen}
use Rattle.plays.proofs.ends.Goals as goal

pub returns : goal.returns
returns c = record {
  cause = why_ends;
  ends = ends;
  replies = replies;
  done = are_done;
  unfinished = unfinished;
  sixteen = sixteen;
  in_time = ends_in_time;
}
