-- "3. Number the accepted ticks of a playback from 1; .." of every playback of the master, from an accepted start, whatever calls come between.
use Rattle.plays.specs.{Leavings.Leavings, Frames.Frames, FiveASecond.FiveASecond, Ends.Ends}

pub record Promises : Type 0 where
  -- when each step leaves
  pub leavings : Leavings
  -- what each tick writes
  pub frames : Frames
  -- how often a command leaves, over every run
  pub five_a_second : FiveASecond
  -- when, why and how it ends
  pub ends : Ends
