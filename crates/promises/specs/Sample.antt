-- Runs that meet what the theorems ask for: a client is attached, a step of value 240 is recorded, the playback starts, and the step leaves; and it starts
-- too where the neighbour's identical drill has come in its place, but not in edition 2.
use Rattle.std.specs.Prelude.{ℕ, ◌+◌, ◌≤◌, ◌≡◌, List, [], ◌∷◌, ◌++◌, length, get_or, take, drop, replicate}
use Rattle.octets.specs.Numbers.{completed, name_differs}
use Rattle.sequence.specs.Sequence.{blank_step}
use Rattle.master.specs.declared.Master.{Master}
use Rattle.events.specs.Events.{Event, on, «record», stop, start, report, lost, indication, tick, edition, apply, run, run_from}
use Rattle.events.specs.Examples.{pool_bytes, indication_message, eight_bytes, ready_client, recorded_run, playing_run, frame_buffer}
use Rattle.events.specs.Neighbour.{number_before}
use Rattle.plays.specs.Plays.{Started, Lasts, ticks_in, command_of, LeftAt}
use Rattle.plays.specs.FiveASecond.{times_in}

abbrev pub one : List Event
one = tick 0 frame_buffer ∷ []

abbrev pub sixteen : List Event
sixteen = replicate 16 (tick 0 frame_buffer)

-- the pool of a client that has this master NAME; its mask leaves the lowest 8 bits open
abbrev pub pool_of : ℕ → List ℕ
pool_of master = take 4 (pool_bytes 1) ++ master ∷ replicate 7 0 ++ 0 ∷ replicate 7 255 ++ drop 20 (pool_bytes 1)

-- a client of NAME 7 has recorded a step, and one of NAME 8 has come in its place; their master NAMEs
abbrev pub exchanged : ℕ → ℕ → Master
exchanged stored loaded =
    run (
    on ∷ ready_client 7 (pool_of stored) ++ «record» ∷ report 0 2 ∷ indication 0 indication_message eight_bytes ∷ stop ∷ report 0 1 ∷ lost 0
    ∷ ready_client 8 (pool_of loaded)
    )

pub record Sample : Type 0 where
  -- a sequence has a step
  pub value : (get_or (run recorded_run).sequence.steps 0 blank_step).value ≡ 240
  -- a start is accepted, and the playback lasts through a tick at which the step leaves
  pub started : Started (run playing_run)
  pub lasts : Lasts (run playing_run) one
  pub leaves : LeftAt (run_from (run playing_run) one) 0 1
  -- and sixteen ticks come after that one
  pub waits : 1 + 16 ≤ length (ticks_in (run playing_run) (one ++ sixteen))
  -- in the first ten ticks of the playback its command leaves five times: `FiveASecond` cannot say fewer
  pub five : times_in (command_of (run playing_run) 0) (run playing_run) (replicate 10 (tick 0 frame_buffer)) ≡ 5
  -- 02, request 2: the neighbour's identical drill starts, and got 9 before: `Neighbours` does not speak of nothing
  pub neighbour : (apply (exchanged 7 8) start).number ≡ completed
  pub gained : number_before (exchanged 7 8) ≡ name_differs
  -- where the loaded master NAME alone is a third machine's, or the stored one alone, 9; where both are, it starts, as before
  pub loaded_elsewhere : (apply (exchanged 7 9) start).number ≡ name_differs
  pub stored_elsewhere : (apply (exchanged 9 8) start).number ≡ name_differs
  pub same_elsewhere : (apply (exchanged 9 9) start).number ≡ completed
  -- 02, request 11: in edition 2 the drill that recorded starts still, and the neighbour's identical drill gets 9: `TwoRules` does not speak of nothing
  pub own_drill : (apply (run (recorded_run ++ edition 2 ∷ [])) start).number ≡ completed
  pub refused : (apply (apply (exchanged 7 8) (edition 2)).master start).number ≡ name_differs
