-- The frames of a tick: their bytes are those of E.6, they fill 576 bytes, and they are no more than what was sent.
use Prim.Native.Nat.{ℕ, suc, ◌/◌, ◌%◌, ◌≤◌, ◌<◌}
use mathlib.Core.Path.{◌≡◌, sym, ap, ◌∙◌}
use mathlib.Core.Bool.{Bool, true, false, cond}
use mathlib.Core.List.{List, [], ◌∷◌}
use native.Mathlib.Omega.{arith}
use lib.ListN.{length, take, length-take}
use Rattle.octets.specs.Pick.{pick}
use Rattle.octets.specs.Octets as octets
use Rattle.octets.specs.Label.{blank}
use Rattle.message.specs.Messages.{octet_of, message_bytes}
use Rattle.message.specs.declared.Message.TheVariants.{Command}
use Rattle.sequence.specs.declared.Step.{Step}
use Rattle.playback.specs.declared.Sent.{Sent}
use Rattle.playback.specs.Frames.{frame_of, is_written, frame_count, filled_of, frame_count_of, frames_of}
use Rattle.playback.specs.Promises.{order_of, Framing}
use Rattle.playback.proofs.Fill.{none, length_filled}

command : (s : Step) (tan : ℕ) → s.state < 64 → frame_of s tan ≡ s.slot ∷ message_bytes (Command (order_of s tan)) blank []
unfolding pick octets.bytes_of octet_of message_bytes
command s tan h =
    let a : s.state % 64 ≡ s.state = omega arith in
    let b : s.value / 256 / 256 ≡ s.value / 65536 = omega arith in
    let c : s.value / 65536 / 256 ≡ s.value / 16777216 = omega arith in
    rw (a, b, c)

count_few : (test : Sent → Bool) (l : List Sent) → frame_count test l ≤ length l
count_few test [] = omega arith
count_few test (c ∷ l) = go (test c) (count_few test l)
  where
    go : (t : Bool) → frame_count test l ≤ length l → cond t (suc (frame_count test l)) (frame_count test l) ≤ suc (length l)
    go true h = omega arith
    go false h = omega arith

few : (ticks n : ℕ) (l : List Sent) → (frame_count_of ticks n l ≤ length l) × (frame_count_of ticks n l ≤ n)
unfolding frame_count_of
few ticks n l =
    let a = count_few (is_written ticks) (take n l) in
    let b = length-take n l in
    (omega arith, omega arith)

pub framing : Framing
unfolding frames_of
framing = record {
  command = command;
  bytes = λ p steps. length_filled p.ticks p.sent steps p.commands;
  few = λ p e. let h = (few p.ticks p.sent p.commands).0 in omega arith;
  sent = λ p. (few p.ticks p.sent p.commands).1;
  none = λ p steps e. ap (λ (n : ℕ). filled_of p.ticks n steps p.commands) e ∙ sym (none p.ticks steps p.commands);
}
