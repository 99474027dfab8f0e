-- 02, request 6: "E.1 allows no more than five repeats a second, and E.1 decides." E.1 also wants at least 100 ms between two of them. A tick is 100 ms, so
-- ten ticks in a row are a second. Over every run of calls, whatever calls come between the ticks, and also where one playback ends and another one starts.
use Rattle.std.specs.Prelude.{ℕ, zero, suc, ◌+◌, ◌≤◌, ◌≡◌, cond, List, [], ◌∷◌, length}
use Rattle.playback.specs.Verification.{same_bytes}
use Rattle.master.specs.declared.Master.{Master}
use Rattle.events.specs.Events.{Event, tick, store, Sort, stops, hears, ticks, answers, loads, other, sort_of, apply, lent_after, Given}
use Rattle.plays.specs.{Plays.ticks_in, Frames.frame_at}

-- how often this frame stands among the first n frames of these bytes
abbrev pub times_among : List ℕ → ℕ → List ℕ → ℕ
times_among frame zero bytes = 0
times_among frame (suc n) bytes = cond (same_bytes (frame_at n bytes) frame) (suc (times_among frame n bytes)) (times_among frame n bytes)

-- among those that a call counts, if it is a tick: no other call writes frames
abbrev pub times_by : List ℕ → Master → (e : Event) → Sort e → ℕ
times_by frame m e stops = 0
times_by frame m e (hears slot msg out) = 0
times_by frame m e (ticks mm out) = times_among frame (apply m (tick mm out)).count (lent_after m (tick mm out))
times_by frame m e (answers slot msg out) = 0
times_by frame m e (loads blocks) = 0
times_by frame m e (other n) = 0

abbrev pub times_at : List ℕ → Master → Event → ℕ
times_at frame m e = times_by frame m e (sort_of e)

-- among those of all these calls
abbrev pub times_in : List ℕ → Master → List Event → ℕ
times_in frame m [] = 0
times_in frame m (e ∷ es) = times_at frame m e + times_in frame (apply m e).master es

pub record FiveASecond : Type 0 where
  -- "no more than five repeats a second": in ten accepted ticks in a row no frame stands more than five times, its first time counted too
  pub five : (m : Master) → Given m → (es : List Event) → length (ticks_in m es) ≤ 10 → (frame : List ℕ) → times_in frame m es ≤ 5
  -- at least 100 ms between: in two accepted ticks in a row no frame stands twice
  pub apart : (m : Master) → Given m → (es : List Event) → length (ticks_in m es) ≤ 2 → (frame : List ℕ) → times_in frame m es ≤ 1
  -- what is no tick counts no frames: it counts nothing, but for a store, which counts the bytes of its blocks
  pub no_other :
      (m : Master) (e : Event) → ((mm : ℕ) (out : List ℕ) → e ≡ tick mm out → ⊥) → ((out : List ℕ) → e ≡ store out → ⊥) → (apply m e).count ≡ 0
