-- The inspector's question: was the replayed step the recorded step? From the bytes of the client's E.4, or of the blocks that were loaded, to the bytes of
-- the frame.
use Rattle.std.specs.Prelude.{ℕ, ◌+◌, ◌%◌, ◌<◌, ◌≡◌, ◌⊎◌, List, [], ◌∷◌, ◌++◌, get_or, take, drop}
use Rattle.sequence.specs.declared.Step.{Step}
use Rattle.store.specs.{Blocks.step_place, Loaded.client_count}
use Rattle.master.specs.declared.Master.{Master}
use Rattle.events.specs.Events.{Event, start, tick, apply, lent_after, run, run_from}
use Rattle.seen.specs.Words.{Done, Bytes, nth}
use Rattle.history.specs.Promises.{Recorded, LoadedStep}
use Rattle.plays.specs.Plays.{Lasts, step_at, tan_of}
use Rattle.plays.specs.Frames.{Unanswered, frame_at}

-- these nine bytes command step s, which the run has recorded: "slot, then the eight of E.6". The slot is the one that sent the E.4 which finished the
-- step (one-shot: which began it); function and state are bytes 2 and 3 of that E.4, without its status, and the value is its bytes 5 to 8.
pub record Replays (events : List Event) (s : Step) (tan : ℕ) (frame : List ℕ) : Type 0 where
  pub recorded : Recorded events s
  pub bytes :
      Bytes recorded.finished_in.msg
      → frame
      ≡ recorded.finished_in.slot ∷ 0x33 ∷ nth 2 recorded.finished_in.msg ∷ nth 3 recorded.finished_in.msg % 64 ∷ tan
      ∷ drop 4 recorded.finished_in.msg

-- these nine bytes command step s, which the run has loaded: slot, function, state and value are those of its sixteen bytes in the blocks of that load
pub record ReplaysLoaded (events : List Event) (s : Step) (tan : ℕ) (frame : List ℕ) : Type 0 where
  pub loaded : LoadedStep events s
  pub bytes :
      Bytes loaded.blocks →
      let p : ℕ = step_place (client_count loaded.blocks) loaded.number in
      frame
      ≡ get_or loaded.blocks p 0 ∷ 0x33 ∷ get_or loaded.blocks (p + 1) 0 ∷ get_or loaded.blocks (p + 2) 0 ∷ tan
      ∷ take 4 (drop (p + 8) loaded.blocks)

-- from the one or from the other
abbrev pub ReplaysOrigin : List Event → Step → ℕ → List ℕ → Type 0
ReplaysOrigin events s tan frame = Replays events s tan frame ⊎ ReplaysLoaded events s tan frame

-- a playback that starts after these calls and lasts through these: each frame that an accepted tick counts is that of a step that waits, recorded or loaded
-- so
abbrev pub Replayed : Type 0
Replayed =
    (events : List Event) → Done (run events) start →
    let m : Master = (apply (run events) start).master in
    (es : List Event) (mm : ℕ) (out : List ℕ) → Lasts m (es ++ tick mm out ∷ []) → Done (run_from m es) (tick mm out)
    → (k : ℕ) → k < (apply (run_from m es) (tick mm out)).count
    → (i : ℕ) × (Unanswered m (es ++ tick mm out ∷ []) i × ReplaysOrigin events (step_at m i) (tan_of m i) (frame_at k (lent_after (run_from m es) (tick mm out))))
