-- Every byte of the stored blocks is below 256.
use Prim.Native.Nat.{ℕ, zero, suc, ◌+◌, ◌-◌, ◌/◌, ◌<◌}
use native.Mathlib.Omega.{arith}
use mathlib.Core.Path.{◌≡◌}
use mathlib.Core.Bool.{true}
use mathlib.Core.List.{List, [], ◌∷◌, ◌++◌, map}
use lib.ListN.{length, take, drop}
use Rattle.octets.specs.Octets.{bytes_of}
use Rattle.octets.proofs.{Laws.Bytes}
use Rattle.arrays.specs.{Every.Every}
use Rattle.arrays.proofs.Every.{every_at, every_map, every_weaken}
use Rattle.client.specs.{Clients.slot_count, Records.blank_record, declared.ClientRecord.ClientRecord}
use Rattle.sequence.specs.Sequence.{steps_of}
use Rattle.sequence.specs.{declared.Step.Step, declared.Sequence.Sequence}
use Rattle.store.specs.Blocks.{content_bytes, check_at, client_blocks, step_blocks}
use Rattle.store.specs.Fields.{step_right}
use Rattle.store.specs.Stored.{client_bytes, step_bytes, slots_in, clients_in, joined, groups, contents_of, filled, sealed, sealed_from, stored_of}
use Rattle.store.specs.Legal.{RightRecord, Legal, FitsStep, IsByte, FitsRecord, Fits}
use Rattle.store.proofs.Lists.{every_append, every_take, every_drop, every_pad, every_two}
use Rattle.store.proofs.Items.{counted, first, named, names, version, fields, marked, valued, zeros}
use Rattle.store.proofs.Fields.{label_most, step_parts}
use Rattle.store.proofs.Recorded.{record_in, recorded}

-- every element of it is a byte
abbrev Octets : List ℕ → Type 0
Octets l = Every IsByte l

all_bytes : (l : List ℕ) → Octets l → Bytes l
all_bytes [] h k = omega arith
all_bytes (x ∷ l) h zero = h.0
all_bytes (x ∷ l) h (suc k) = all_bytes l h.1 k

number_bytes : (w v : ℕ) → Octets (bytes_of w v)
unfolding bytes_of
number_bytes zero v = tt
number_bytes (suc w) v = (omega arith, number_bytes w (v / 256))

joined_bytes : (l : List (List ℕ)) → Every Octets l → Octets (joined l)
joined_bytes [] h = tt
joined_bytes (x ∷ l) h = every_append IsByte x (joined l) h.0 (joined_bytes l h.1)

group_bytes : (blocks n : ℕ) (l : List (List ℕ)) → Every Octets l → Every Octets (groups blocks n l)
group_bytes zero n l h = tt
group_bytes (suc blocks) n l h = (joined_bytes (take n l) (every_take Octets n l h), group_bytes blocks n (drop n l) (every_drop Octets n l h))

sealed_bytes : (number : ℕ) (content : List ℕ) → Octets content → Octets (sealed number content)
unfolding sealed
sealed_bytes number content h =
    every_append IsByte (filled content) (bytes_of 4 (check_at (filled content) 0 number)) (every_pad IsByte 0 content_bytes content (omega arith) h)
    (number_bytes 4 (check_at (filled content) 0 number))

block_bytes : (number : ℕ) (contents : List (List ℕ)) → Every Octets contents → Octets (sealed_from number contents)
block_bytes number [] h = tt
block_bytes number (x ∷ l) h = every_append IsByte (sealed number x) (sealed_from (number + 1) l) (sealed_bytes number x h.0) (block_bytes (number + 1) l h.1)

-- ---- a client record, and a step

client_bytes_lem : (slot : ℕ) (r : ClientRecord) → slot < slot_count → RightRecord r → FitsRecord r → Octets (client_bytes slot r)
unfolding client_bytes
client_bytes_lem slot r h R F =
    let last : Octets (0 ∷ []) = omega arith in
    let start : Octets (first slot r) = omega (arith, label_most r.version.length R.version.length, label_most r.configuration.length R.configuration.length) in
    every_append IsByte (version slot r ++ r.configuration.bytes) (0 ∷ [])
    (every_append IsByte (version slot r) r.configuration.bytes
    (every_append IsByte (names slot r ++ r.version.bytes) (0 ∷ [])
    (every_append IsByte (names slot r) r.version.bytes
    (every_append IsByte (named slot r) (bytes_of 8 r.master)
    (every_append IsByte (first slot r) (bytes_of 8 r.name) start (number_bytes 8 r.name))
    (number_bytes 8 r.master)) F.version) last) F.configuration) last

step_bytes_lem : (x : Step) → step_right x ≡ true → FitsStep x → Octets (step_bytes x)
unfolding step_bytes
step_bytes_lem x e F =
    let p = step_parts x e in
    let start : Octets (fields x) = omega (arith, p.0, p.1, p.2, F.function) in
    let last : Octets zeros = omega arith in
    every_append IsByte (valued x) zeros
    (every_append IsByte (marked x) (bytes_of 4 x.value)
    (every_append IsByte (fields x) (bytes_of 4 x.mark) start (number_bytes 4 x.mark))
    (number_bytes 4 x.value)) last

-- ---- all of them

module _ (q : Sequence) (L : Legal q) (F : Fits q) where
  clients_bytes : Every Octets (clients_in q.records)
  clients_bytes =
      every_map _ Octets (slots_in q.records)
      (every_weaken
      (λ slot h.
      client_bytes_lem slot (record_in q slot) h.within h.right
      (every_at FitsRecord q.records slot blank_record (omega (arith, h.within, L.sound.slots)) F.records))
      (slots_in q.records) (recorded q L))

  steps_bytes : Every Octets (map step_bytes (steps_of q))
  steps_bytes =
      every_map step_bytes Octets (steps_of q) (every_two step_bytes_lem (steps_of q) L.steps F.steps)

  pub stored_bytes : Bytes (stored_of q)
  unfolding stored_of contents_of
  stored_bytes =
      let c : ℕ = length (slots_in q.records) in
      let n : ℕ = length (steps_of q) in
      let less : ℕ = q.edition - 1 in
      let contents : Every Octets (contents_of q) = (
        every_append IsByte (counted c n) (bytes_of 4 less) (every_append IsByte (bytes_of 4 c) (bytes_of 4 n) (number_bytes 4 c) (number_bytes 4 n)) (number_bytes 4 less),
        every_append Octets (groups (client_blocks c) 3 (clients_in q.records)) (groups (step_blocks n) 31 (map step_bytes (steps_of q)))
            (group_bytes (client_blocks c) 3 (clients_in q.records) clients_bytes)
            (group_bytes (step_blocks n) 31 (map step_bytes (steps_of q)) steps_bytes),
      ) in
      all_bytes (stored_of q) (block_bytes 1 (contents_of q) contents)
