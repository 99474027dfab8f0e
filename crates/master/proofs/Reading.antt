-- What a message that was read says: its kind and its values; and what it does, by the slot's number.
use Prim.Native.Nat.{ℕ}
use mathlib.Core.Path.{◌≡◌, ap}
use mathlib.Core.Bool.{Bool, true, false}
use borrow.Author.Tests.{eqb-false}
use Rattle.std.proofs.Common.{Err}
use Rattle.octets.specs.Numbers.{completed, no_match}
use Rattle.octets.specs.Refusals.{refusal_number}
use Rattle.octets.specs.declared.numbers.Refusal.{Refusal}
use Rattle.playback.specs.State.{goes_on}
use Rattle.playback.specs.declared.End.{End}
use Rattle.master.proofs.Calls.{some_number}
use lib.ListN.{get_or}
use Rattle.client.specs.Clients.{no_slot}
use Rattle.octets.specs.Pick.{pick}
use Rattle.message.specs.declared.Execution.{Execution}
use Rattle.master.specs.declared.Master.{Master}
use Rattle.message.specs.declared.Reply.{Reply}
use Rattle.sequence.specs.declared.Sequence.{Sequence}
use Rattle.playback.specs.declared.Playback.{Playback}
use Rattle.playback.specs.Answer.{Answered}
use Rattle.playback.specs.Answer.{answered, answered_of}
use Rattle.master.specs.Call.{slot_at}
use Rattle.master.specs.States.{is_playing}
use Rattle.master.specs.Recording.{recorded, recording_heard, heard}

pub heard_recording :
    (m : Master) (octet slot at : ℕ) (e : Execution) → octet ≡ slot → at ≡ slot → is_playing m ≡ false →
    let h = recording_heard m octet (get_or m.slots at no_slot) e in
    (recorded m h.recording ≡ (heard m slot (slot_at m slot) e).master) × (h.error ≡ (heard m slot (slot_at m slot) e).error)
unfolding pick heard
heard_recording m octet slot at e o p t = (rw (o, p, t), rw (o, p, t))

-- an answer that matches none leaves the playback
none_matched :
    (a b c d : Bool) (end second third : End) (p x y z after : Playback) (why : Refusal)
    → ◌≡◌ {A = Answered} (record { number = refusal_number why; end = goes_on; playback = after })
    (pick a (record { number = no_match; end = goes_on; playback = p })
    (pick b (record { number = completed; end = end; playback = x })
    (pick c (record { number = completed; end = second; playback = y })
    (pick d (record { number = completed; end = third; playback = z }) (record { number = completed; end = goes_on; playback = z })))))
    → after ≡ p
unfolding pick
none_matched true b c d end second third p x y z after why e = ap (λ (x : Answered). x.playback) e
none_matched false true c d end second third p x y z after why e = absurd (eqb-false _ _ (some_number why) (ap (λ (x : Answered). x.number) e))
none_matched false false true d end second third p x y z after why e = absurd (eqb-false _ _ (some_number why) (ap (λ (x : Answered). x.number) e))
none_matched false false false true end second third p x y z after why e = absurd (eqb-false _ _ (some_number why) (ap (λ (x : Answered). x.number) e))
none_matched false false false false end second third p x y z after why e = absurd (eqb-false _ _ (some_number why) (ap (λ (x : Answered). x.number) e))

pub unanswered :
    (p : Playback) (q : Sequence) (slot : ℕ) (r : Reply) (why : Refusal) (after : Playback) → answered (Err why) after ≡ answered_of p q slot r → after ≡ p
unfolding answered_of
unanswered p q slot r why after e = none_matched _ _ _ _ _ _ _ _ _ _ _ _ _ e
