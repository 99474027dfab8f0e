-- 01, "Verification and playback": "Start, from ready: 7; then for each slot of the sequence, lowest first, 8, 9 and 10 before the next slot; then by
-- step 11; then by slot 12. NAMEs agree if they agree on every bit set in the loaded pool's mask." What follows there, "The master NAME must agree in all
-- 64 bits.", 02, request 2, has changed: "where the stored master NAME equals the stored client NAME, and the loaded one equals the loaded client NAME,
-- the mask applies to both. Otherwise all 64 bits count, as before." Request 11 has added to it by the sequence's edition.
use Rattle.std.specs.Prelude.{ℕ, Bool, not, ◌&&◌, ◌||◌, eqb, ltb, get_or}
use mathlib.Core.List.{List, [], ◌∷◌, ◌++◌, flat_map}
use Rattle.std.specs.Int.Bits.{bit_and}
use Rattle.std.specs.Cmp.Lexicographic.{pointwise}
use Rattle.octets.specs.{Pick.pick, declared.label.Label.Label}
use Rattle.octets.specs.Numbers.{completed, no_step, not_enabled, name_differs, label_differs, not_in_pool, not_ready}
use Rattle.profile.specs.{Profile.trigger, Profile.has_state, declared.Profile.Profile}
use Rattle.client.specs.Clients.{slot_count, ready_report, is_enabled, blank_slot}
use Rattle.client.specs.{Records.is_used, declared.Client.Client, declared.ClientRecord.ClientRecord}
use Rattle.sequence.specs.{Sequence.steps_of, Editions.second_edition, declared.Step.Step, declared.Sequence.Sequence}
use Rattle.playback.specs.Pairs.{pairs}

-- ---- a list of checks, each with its number

-- whether it holds, and the number that is given where it does not
abbrev pub Check : Type 0
Check = Bool × ℕ

-- the number of the first check that does not hold, and 0 where all hold
unfoldable pub first_failing : List Check → ℕ
first_failing [] = completed
first_failing (c ∷ cs) = let later : ℕ = first_failing cs in pick c.0 later c.1

-- ---- NAMEs: loaded, of the client that is attached in the slot, and stored, in the sequence's record of the client

-- "agree on every bit set in the .. mask"
abbrev pub agree_under : ℕ → ℕ → ℕ → Bool
agree_under mask a b = eqb (bit_and a mask) (bit_and b mask)

-- "where the stored master NAME equals the stored client NAME, and the loaded one equals the loaded client NAME"
abbrev pub both_own : Client → ClientRecord → Bool
both_own s c = eqb c.master c.name && eqb s.profile.master s.name

-- "the mask applies to both. Otherwise all 64 bits count, as before."
abbrev pub masters_agree : Bool → ℕ → ℕ → ℕ → Bool
masters_agree own mask loaded stored = pick own (agree_under mask loaded stored) (eqb loaded stored)

-- a rule of 9: whether the NAMEs of a client agree
abbrev pub Rule : Type 0
Rule = Client → ClientRecord → Bool

-- "NAMEs agree if they agree on every bit set in the loaded pool's mask.", and the master NAMEs agree
abbrev pub names_agree : Rule
names_agree s c =
    agree_under s.profile.mask s.name c.name && masters_agree (both_own s c) s.profile.mask s.profile.master c.master

-- 02, request 11: "the lowest 21 bits of the client's NAME, its identity number in ISO 11783-5"
abbrev pub identity_bits : ℕ
identity_bits = 0x1FFFFF

-- ".. agree too, no matter what the mask says"
abbrev pub identities_agree : Rule
identities_agree s c = agree_under identity_bits s.name c.name

-- "Stored sequences of edition 2 demand" both; "Edition 1 files keep the rule they have."
unfoldable pub rule_of : ℕ → Rule
rule_of edition s c = (not (eqb edition second_edition) || identities_agree s c) && names_agree s c

-- ---- labels

abbrev pub same_bytes : List ℕ → List ℕ → Bool
same_bytes a b = pointwise eqb a b

-- the length and every byte
unfoldable pub same_label : Label → Label → Bool
same_label a b = eqb a.length b.length && same_bytes a.bytes b.bytes

-- "10 a label differs": both are the version label and the configuration label
unfoldable pub labels_agree : Client → ClientRecord → Bool
labels_agree s c = same_label s.profile.version c.version && same_label s.profile.configuration c.configuration

-- ---- pools

-- the pool lists the function, with this state; a state is at most 63
unfoldable pub is_listed : Profile → ℕ → ℕ → Bool
is_listed pool function state = ltb state 64 && not (eqb (trigger pool function) 0) && has_state pool function state

-- in the pool loaded in the step's slot; above slot 7 there is none
unfoldable pub is_in_pool : List Client → Step → Bool
is_in_pool slots s = ltb s.slot slot_count && is_listed (get_or slots s.slot blank_slot).profile s.function s.state

-- ---- the checks of a start

-- "for each slot of the sequence": a slot whose client has a record in it; for any other there is no check
unfoldable pub of_sequence : ClientRecord → List Check → List Check
of_sequence c checks = pick (is_used c) checks []

-- "8 a client of the sequence is not enabled", "9 a NAME differs", "10 a label differs"
unfoldable pub client_checks : Rule → Client × ClientRecord → List Check
client_checks agree x = of_sequence x.1 ((is_enabled x.0, not_enabled) ∷ (agree x.0 x.1, name_differs) ∷ (labels_agree x.0 x.1, label_differs) ∷ [])

-- "11 function or state not in the loaded pool"
unfoldable pub step_checks : List Client → Step → List Check
step_checks slots s = (is_in_pool slots s, not_in_pool) ∷ []

-- "12 a client is not reporting ready"
unfoldable pub ready_checks : Client × ClientRecord → List Check
ready_checks x = of_sequence x.1 ((eqb x.0.report ready_report, not_ready) ∷ [])

-- "7; then for each slot of the sequence, lowest first, 8, 9 and 10 before the next slot; then by step 11; then by slot 12"
unfoldable pub checks_by : Rule → List Client → Sequence → List Check
checks_by agree slots q =
    (not (eqb q.count 0), no_step)
    ∷ flat_map (client_checks agree) (pairs slots q.records)
    ++ (flat_map (step_checks slots) (steps_of q)
    ++ flat_map ready_checks (pairs slots q.records))

-- by the rule of an edition
abbrev pub checks_of : ℕ → List Client → Sequence → List Check
checks_of edition slots q = checks_by (rule_of edition) slots q

unfoldable pub verify_by : ℕ → List Client → Sequence → ℕ
verify_by edition slots q = first_failing (checks_of edition slots q)

-- by that of the sequence's own
abbrev pub verify_of : List Client → Sequence → ℕ
verify_of slots q = verify_by q.edition slots q
