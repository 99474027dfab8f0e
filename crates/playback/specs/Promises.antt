-- What holds of the definitions that the contracts cite.
use Rattle.std.specs.Prelude.{ℕ, ◌^◌, ◌≤◌, ◌<◌, ◌≡◌, true, false, ◌&&◌, ◌⊎◌, List, [], ◌∷◌, ◌++◌, ltb, length, get_or, replicate}
use Rattle.octets.specs.{Bits.has_bit, Label.blank, declared.label.Label.Label}
use Rattle.octets.specs.Numbers.{completed, no_step, not_ready, no_match}
use Rattle.message.specs.{Messages.message_bytes, declared.Order.Order, declared.Reply.Reply, declared.Message.TheVariants.Command}
use Rattle.client.specs.{Clients.slot_count, Clients.blank_slot, declared.Client.Client, declared.ClientRecord.ClientRecord}
use Rattle.sequence.specs.Sequence.{most_steps, blank_step, length_of}
use Rattle.sequence.specs.{declared.Step.Step, declared.Sequence.Sequence}
use Rattle.playback.specs.{declared.Playback.Playback, Answer.find_answered, Answer.answered_of}
use Rattle.playback.specs.State.{answer_done, goes_on, to_abort, blank_sent, blank_playback}
use Rattle.playback.specs.Verification.{Check, rule_of, same_label, is_listed, is_in_pool, checks_of, verify_by}
use Rattle.playback.specs.Tick.{is_due, does_leave, tick_of}
use Rattle.playback.specs.Frames.{frame_of, frame_count_of, frames_of}

-- ---- verification

-- every check of the list holds
abbrev pub EveryHolds : List Check → Type 0
EveryHolds [] = Unit {0}
EveryHolds (c ∷ cs) = (c.0 ≡ true) × EveryHolds cs

-- the first check of the list that does not hold has this number
pub record FirstFails (checks : List Check) (number : ℕ) : Type 0 where
  pub earlier : List Check
  pub later : List Check
  pub all : checks ≡ earlier ++ (false, number) ∷ later
  pub hold : EveryHolds earlier

-- "starts exactly when" every check holds; otherwise the first that does not is named. 02, request 11: "Prove once, over both editions": over any
pub record Verifies : Type 0 where
  pub starts : (edition : ℕ) (slots : List Client) (q : Sequence) → EveryHolds (checks_of edition slots q) → verify_by edition slots q ≡ completed
  pub only : (edition : ℕ) (slots : List Client) (q : Sequence) → verify_by edition slots q ≡ completed → EveryHolds (checks_of edition slots q)
  pub names :
      (edition : ℕ) (slots : List Client) (q : Sequence) → (verify_by edition slots q ≡ completed → ⊥)
      → FirstFails (checks_of edition slots q) (verify_by edition slots q)
  pub numbers :
      (edition : ℕ) (slots : List Client) (q : Sequence)
      → (verify_by edition slots q ≡ completed) ⊎ ((no_step ≤ verify_by edition slots q) × (verify_by edition slots q ≤ not_ready))
  -- the bound that a step's slot is held against, which 01 does not have, never decides where every slot is one of the eight
  pub bound :
      (slots : List Client) (s : Step) → s.slot < slot_count → is_in_pool slots s ≡ is_listed (get_or slots s.slot blank_slot).profile s.function s.state

-- "agree on every bit set in the .. mask"
abbrev pub SameBits : ℕ → ℕ → ℕ → Type 0
SameBits mask a b = (k : ℕ) → k < 64 → has_bit mask k ≡ true → has_bit a k ≡ has_bit b k

-- "the stored master NAME equals the stored client NAME, and the loaded one equals the loaded client NAME"
abbrev pub BothOwn : Client → ClientRecord → Type 0
BothOwn s c = (c.master ≡ c.name) × (s.profile.master ≡ s.name)

pub record SameNames (edition : ℕ) (s : Client) (c : ClientRecord) : Type 0 where
  -- "NAMEs agree if they agree on every bit set in the loaded pool's mask."
  pub bits : SameBits s.profile.mask s.name c.name
  -- "where .., the mask applies to both."
  pub masked : BothOwn s c → SameBits s.profile.mask s.profile.master c.master
  -- "Otherwise all 64 bits count, as before."
  pub otherwise : (BothOwn s c → ⊥) → s.profile.master ≡ c.master
  -- 02, request 11: "edition 2 demand that the lowest 21 bits of the client's NAME .. agree too, no matter what the mask says"
  pub identity : edition ≡ 2 → (k : ℕ) → k < 21 → has_bit s.name k ≡ has_bit c.name k

-- the tests of NAMEs and labels say no more and no less; a mask has 64 bits
pub record Agrees : Type 0 where
  pub names : (edition : ℕ) (s : Client) (c : ClientRecord) → rule_of edition s c ≡ true → SameNames edition s c
  pub names_only : (edition : ℕ) (s : Client) (c : ClientRecord) → s.profile.mask < 2 ^ 64 → SameNames edition s c → rule_of edition s c ≡ true
  pub labels : (a b : Label) → same_label a b ≡ true → (a.length ≡ b.length) × (a.bytes ≡ b.bytes)
  pub labels_only : (a b : Label) → a.length ≡ b.length → a.bytes ≡ b.bytes → same_label a b ≡ true

-- ---- the state

-- what every playback has that starts, and ticks and answers keep: at most 64 steps are sent, and cells past them are blank
pub record Tidy (p : Playback) : Type 0 where
  pub few : p.sent ≤ most_steps
  pub cells : length p.commands ≡ most_steps
  pub blanks : (i : ℕ) → p.sent ≤ i → get_or p.commands i blank_sent ≡ blank_sent

pub record Changes : Type 0 where
  pub starting : Tidy blank_playback
  pub ticking : (p : Playback) (q : Sequence) (tan mm : ℕ) → Tidy p → Tidy (tick_of p q tan mm).playback
  pub answering : (p : Playback) (q : Sequence) (slot : ℕ) (r : Reply) → Tidy p → Tidy (answered_of p q slot r).playback
  -- nor does the bound that the number of sent steps is held against: there are no more steps than cells
  pub bound :
      (p : Playback) (q : Sequence)
      → does_leave p q.steps (length_of q) ≡ (ltb p.sent (length_of q) && is_due (get_or q.steps p.sent blank_step) p.ticks p.distance)
  -- a tick that ends the playback sends nothing
  pub ending :
      (p : Playback) (q : Sequence) (tan mm : ℕ) → (tick_of p q tan mm).end ≡ to_abort
      → ((tick_of p q tan mm).tan ≡ tan) × ((tick_of p q tan mm).playback.sent ≡ p.sent) × ((tick_of p q tan mm).playback.commands ≡ p.commands)
  -- "a further answer for a done step, 11 or an error too, is acknowledged and changes nothing"
  pub further :
      (p : Playback) (q : Sequence) (slot : ℕ) (r : Reply) (i : ℕ)
      → find_answered q.steps p.commands p.sent slot r.tan r.function r.state ≡ i
      → i < most_steps → (get_or p.commands i blank_sent).answer ≡ answer_done
      → answered_of p q slot r ≡ record { number = completed; end = goes_on; playback = p }
  -- "else 15": an answer that matches no sent step changes nothing
  pub unmatched :
      (p : Playback) (q : Sequence) (slot : ℕ) (r : Reply) → (answered_of p q slot r).number ≡ no_match → (answered_of p q slot r).playback ≡ p

-- ---- frames

abbrev pub order_of : Step → ℕ → Order
order_of s tan = record { function = s.function; state = s.state; tan = tan; value = s.value }

pub record Framing : Type 0 where
  -- "slot, then the eight of E.6", as they are written
  pub command : (s : Step) (tan : ℕ) → s.state < 64 → frame_of s tan ≡ s.slot ∷ message_bytes (Command (order_of s tan)) blank []
  pub bytes : (p : Playback) (steps : List Step) → length (frames_of p steps) ≡ 576
  pub few : (p : Playback) → length p.commands ≡ most_steps → frame_count_of p.ticks p.sent p.commands ≤ most_steps
  pub sent : (p : Playback) → frame_count_of p.ticks p.sent p.commands ≤ p.sent
  pub none : (p : Playback) (steps : List Step) → p.sent ≡ 0 → frames_of p steps ≡ replicate 576 0
