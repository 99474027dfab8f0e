-- 02, request 2, "The neighbour's identical drill": that nobody loses by its rule of 9, and who gains. It is the rule of edition 1; what edition 2 of
-- request 11 adds to it stands in Editions.antt.
use Rattle.std.specs.Prelude.{ℕ, ◌^◌, ◌<◌, ◌≡◌, true, false, ◌&&◌, eqb}
use Rattle.octets.specs.Numbers.{completed, name_differs}
use Rattle.client.specs.{Clients.slot_count, Records.is_used, declared.Client.Client, declared.ClientRecord.ClientRecord}
use Rattle.sequence.specs.Editions.{first_edition}
use Rattle.playback.specs.Verification.{Rule, first_failing, agree_under, names_agree, checks_by}
use Rattle.playback.specs.Promises.{SameBits, BothOwn}
use Rattle.master.specs.{declared.Master.Master, Call.slot_at}
use Rattle.master.specs.States as state
use Rattle.events.specs.Events.{start, apply, Given, record_at}

-- ---- before

-- 01's rule: "NAMEs agree if they agree on every bit set in the loaded pool's mask. The master NAME must agree in all 64 bits."
abbrev pub in_all_bits : Rule
in_all_bits s c = agree_under s.profile.mask s.name c.name && eqb s.profile.master c.master

-- what a start from ready gave by it
abbrev pub number_before : Master → ℕ
number_before m = first_failing (checks_by in_all_bits m.slots m.sequence)

-- ---- the kind that the request names

-- the loaded client is another than the stored one, each has its own NAME for its master NAME, and on every bit set in the mask they agree
pub record Neighbour (s : Client) (c : ClientRecord) : Type 0 where
  pub own : BothOwn s c
  pub another : s.name ≡ c.name → ⊥
  pub alike : SameBits s.profile.mask s.name c.name

-- one of the sequence's clients, whose slot this is, is of that kind
pub record Gains (m : Master) : Type 0 where
  pub slot : ℕ
  pub one_of_eight : slot < slot_count
  pub of_sequence : is_used (record_at m slot) ≡ true
  pub neighbour : Neighbour (slot_at m slot) (record_at m slot)

pub record Neighbours : Type 0 where
  -- in edition 1 whoever passed before passes still, and whoever got another number than 9 gets it still
  pub nobody_loses :
      (m : Master) → m.state ≡ state.ready → m.sequence.edition ≡ first_edition → (number_before m ≡ name_differs → ⊥) → (apply m start).number ≡ number_before m
  -- in it whoever gets another number now, and so whoever passes now and did not before, got 9, and has a client of the kind that the request names
  pub who_gains :
      (m : Master) → Given m → m.state ≡ state.ready → m.sequence.edition ≡ first_edition → ((apply m start).number ≡ number_before m → ⊥)
      → (number_before m ≡ name_differs) × Gains m
  -- of that kind is every client of an accepted start, of either edition, that 01's rule does not take
  pub no_other :
      (m : Master) → Given m → (apply m start).number ≡ completed → (slot : ℕ) → slot < slot_count → is_used (record_at m slot) ≡ true
      → in_all_bits (slot_at m slot) (record_at m slot) ≡ false → Neighbour (slot_at m slot) (record_at m slot)
  -- and in edition 1 every client of that kind gains; a mask has 64 bits
  pub each :
      (s : Client) (c : ClientRecord) → s.profile.mask < 2 ^ 64 → Neighbour s c → (in_all_bits s c ≡ false) × (names_agree s c ≡ true)
