-- All that is promised, in the order of the demands. Each part is proved in its crate; the call `promises` ensures them all, so that none can be left out.
use Rattle.pool.specs.{Codes.Codes, Edges.Edges}
use Rattle.profile.specs.Promises.{SaysOf, KeptOf}
use Rattle.objects.specs.{RoundTrip.RoundTrip, Tables.Tables}
use Rattle.flat_object.specs.ReadBack as flat_object
use Rattle.message.specs.{Promises.ComesBack, Promises.Refuses, Clauses.Clauses}
use Rattle.flat.specs.{Flat.BackAgain, ReadBack.ReadBack}
use Rattle.shown.specs.{Promises.ShownValue, Examples.ShownExamples}
use Rattle.printed.specs.{Promises.PrintedText, Examples.PrintedExamples}
use Rattle.recording.specs.Promises as recording
use Rattle.store.specs.Promises as store
use Rattle.playback.specs.Promises.{Verifies, Agrees, Changes, Framing}
use Rattle.events.specs.Promises as events
use Rattle.seen.specs.{Written.Written, Numbers.Numbers, Ways.Ways, Tan.Tan, Blank.BlankOutside, AllEnabled.AllEnabled}
use Rattle.history.specs.Promises as history
use Rattle.plays.specs.Promises as plays
use Rattle.bound.specs.Exported.{Determined}
use Rattle.promises.specs.{HowLate.HowLate, Replayed.Replayed, Cases.Cases, Sample.Sample}

pub record Promises : Type 0 where
  -- "Prove any two outcomes it allows equal": of every call for C, which crate bound holds to the definitions below
  pub determined : Determined
  -- ---- "1. No pool, message or order of calls makes it misbehave."

  -- of every event in every state; with it "starts exactly when", the check that is named to the screen, and who gains by the rule of 9 of 02, request 2,
  -- and who loses by that of request 11
  pub calls : events.Promises
  -- "refuses bad input by a number from document 01": exactly where its table and its rules say so
  pub numbers : Numbers
  -- what a call leaves in the lent bytes, to which state it goes, and what is not held there
  pub written : Written
  pub ways : Ways
  pub blank_outside : BlankOutside
  -- ---- "2. It follows ISO 11783-14, reading and writing."

  -- a pool taken apart and written again, its objects for C too; its codes, its ranges, its fields, and what is kept of it
  pub pools : RoundTrip
  pub objects_for_c : flat_object.ReadBack
  pub codes : Codes
  pub edges : Edges
  pub tables : Tables
  pub kept_of_pools : SaysOf
  pub kept_of_one : KeptOf
  -- a message written and read back, by the library and for C; what reading refuses; each clause
  pub messages : ComesBack
  pub refusals : Refuses
  pub clauses : Clauses
  pub flat_again : BackAgain
  pub messages_for_c : ReadBack
  -- the shown value, and 02, request 13: whether it is exact, and its text
  pub shown : ShownValue
  pub shown_examples : ShownExamples
  pub printed : PrintedText
  pub printed_examples : PrintedExamples
  -- "Recording keeps each step as 01 defines it, the 32-bit value untouched.": of one message on any recording, and over every run of calls
  pub recording : recording.Promises
  pub recorded : history.Promises
  -- 02, request 1: what is stored is loaded again, a change is found, and what is accepted is in its ranges: of any sequence and any bytes. Over every run
  -- of calls it is `recorded.stored`. Request 11: what was stored before there were editions is what is stored in edition 1
  pub blocks : store.Promises
  -- "Playback starts exactly when every check of 01 holds; otherwise the first check that does not hold is named."
  pub verification : Verifies
  pub names : Agrees
  -- ---- "3. Number the accepted ticks of a playback from 1; ..": of every playback of the master, whatever calls come between

  pub playback : plays.Promises
  pub frames : Framing
  pub state : Changes
  pub tan : Tan
  pub all_enabled : AllEnabled
  -- ---- the inspector's questions, the worked cases, and a run that meets what the theorems ask for

  pub how_late : HowLate
  pub replayed : Replayed
  pub cases : Cases
  pub sample : Sample
