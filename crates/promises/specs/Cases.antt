-- 01, "Cases (★ proved, all in a single theorem; the rest are run)": those of pools, of messages and of ticks, each with its sentence where it is stated.
use Rattle.pool.specs.Cases as pool
use Rattle.message.specs.Promises as message
use Rattle.seen.specs.Starred.{Starred}
use Rattle.playback.specs.Cases as playback

pub record Cases : Type 0 where
  pub pools : pool.Cases
  pub messages : message.MessageCases
  -- "Answer 34 05 82 00 FF FF FF FF: acknowledged 34 05 82 FF FF FF FF FF.": by the master, in a playback
  pub answer : Starred
  pub ticks : playback.Cases
