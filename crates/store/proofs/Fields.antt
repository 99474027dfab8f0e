-- What is asked of the counts, of the edition, of a label, of a client record and of a step, one by one.
use Prim.Native.Nat.{ℕ, zero, suc, ◌+◌, ◌≤◌, ◌<◌}
use native.Mathlib.Numerals.{add-one}
use native.Mathlib.Omega.{arith}
use mathlib.Core.Path.{◌≡◌, refl, sym, ◌∙◌}
use mathlib.Core.Bool.{Bool, true, ◌&&◌, true≢false}
use mathlib.Core.List.{List}
use lib.Dec.{leb, ltb}
use borrow.Author.Tests.{leb-true, ltb-true, le-ltb, ne_eqb}
use Rattle.octets.proofs.Tests.{both}
use Rattle.pool.specs.{Ranges.label_right, StageTwo.character_right}
use Rattle.sequence.specs.Sequence.{by_distance}
use Rattle.sequence.specs.Editions.{is_edition}
use Rattle.sequence.specs.declared.Step.{Step}
use Rattle.store.specs.Below.{every_below}
use Rattle.store.specs.Blocks.{client_place}
use Rattle.store.specs.Fields.{most_mark, step_right}
use Rattle.store.specs.Loaded.{byte_at, client_right, client_blank, step_at, step_blank, counts_right}

-- "1 to 8 clients, 1 to 64 steps"
pub count_parts : (c n : ℕ) → counts_right c n ≡ true → (1 ≤ c) × (c ≤ 8) × (1 ≤ n) × (n ≤ 64)
count_parts c n h =
    let three = both (leb 1 c && leb c 8 && leb 1 n) (leb n 64) h in
    let two = both (leb 1 c && leb c 8) (leb 1 n) three.0 in
    let one = both (leb 1 c) (leb c 8) two.0 in
    (leb-true 1 c one.0, leb-true c 8 one.1, leb-true 1 n two.1, leb-true n 64 three.1)

-- no more than 8 and 64
pub counts : (c n : ℕ) → counts_right c n ≡ true → (c ≤ 8) × (n ≤ 64)
counts c n h = let parts = count_parts c n h in (parts.1, parts.3)

-- "an unknown edition": of the numbers that may stand in the block only 0 and 1 are known
pub edition_known : (less : ℕ) → is_edition (less + 1) ≡ ltb less 2
edition_known zero = refl
edition_known (suc zero) = refl
edition_known (suc (suc n)) =
    rw (ne_eqb (suc (suc n) + 1) 1 (λ e. omega arith), ne_eqb (suc (suc n) + 1) 2 (λ e. omega arith), le-ltb (suc (suc n)) 2 (omega arith))

pub edition_parts : (edition : ℕ) → is_edition edition ≡ true → (1 ≤ edition) × (edition ≤ 2)
edition_parts zero h = absurd (true≢false (sym h))
edition_parts (suc less) h =
    let small : less < 2 = ltb-true less 2 (sym (edition_known less) ∙ rw (add-one less) h) in
    (omega arith, omega arith)

pub label_most : (n : ℕ) → label_right n ≡ true → n ≤ 63
label_most n h = leb-true n 63 (both (leb 1 n) (leb n 63) h).1

-- ---- a client record at place p

pub client_parts :
    (s : List ℕ) (p : ℕ) → client_right s p ≡ true
    → (byte_at s p < 8) × (label_right (byte_at s (p + 1)) ≡ true) × (label_right (byte_at s (p + 2)) ≡ true)
    × (every_below (byte_at s (p + 1)) (λ k. character_right (byte_at s (p + 20 + k))) ≡ true)
unfolding client_right
client_parts s p h =
    let slot = ltb (byte_at s p) 8 in
    let version = label_right (byte_at s (p + 1)) in
    let configuration = label_right (byte_at s (p + 2)) in
    let three = both (slot && version && configuration) (every_below (byte_at s (p + 1)) (λ k. character_right (byte_at s (p + 20 + k)))) h in
    let two = both (slot && version) configuration three.0 in
    let one = both slot version two.0 in
    (ltb-true (byte_at s p) 8 one.0, one.1, two.1, three.1)

-- the fields and the fill of client record k
abbrev pub client_fit : List ℕ → ℕ → Bool
client_fit s k = client_right s (client_place k) && client_blank s (client_place k)

-- ---- a step

pub step_parts : (x : Step) → step_right x ≡ true → (x.slot < 8) × (x.state < 64) × (x.distance ≤ 1) × (x.mark ≤ most_mark (by_distance x))
step_parts x h =
    let slot = ltb x.slot 8 in
    let state = ltb x.state 64 in
    let kind = leb x.distance 1 in
    let mark = leb x.mark (most_mark (by_distance x)) in
    let three = both (slot && state && kind) mark h in
    let two = both (slot && state) kind three.0 in
    let one = both slot state two.0 in
    (ltb-true x.slot 8 one.0, ltb-true x.state 64 one.1, leb-true x.distance 1 two.1, leb-true x.mark (most_mark (by_distance x)) three.1)

pub slot_at : (s : List ℕ) (p : ℕ) → (step_at s p).slot ≡ byte_at s p
unfolding step_at
slot_at s p = refl

-- the fields and the fill of the step at place p
abbrev pub step_fit : List ℕ → ℕ → Bool
step_fit s p = step_right (step_at s p) && step_blank s p
