-- `store::storing::store` meets its contract.
use Rattle.std.proofs.Common.{◌≡◌, ℕ, ◌+◌, ◌-◌, ◌*◌, ◌<◌, ◌≤◌, List, [], length, get_or, take, drop, ap, ◌∙◌, arith, rules}
use Rattle.std.proofs.lemmas.List.{length-take, length-drop, take_all}
use Rattle.std.proofs.lemmas.List.Edits.{sets}
use Rattle.std.proofs.Math.Seq.{length-sets}
use borrow.Rule.Slice.PartMut.{put_mid}
use Rattle.sequence.specs.Sequence.{length_of}
use Rattle.sequence.specs.declared.Sequence.{Sequence}
use Rattle.store.specs.Blocks.{blocks_for}
use Rattle.store.specs.Stored.{slots_in, contents_of, sealed, sealed_from, stored_of, stored_in, store_bytes}
use Rattle.store.proofs.Slots.{slots_few}
use Rattle.store.proofs.Blocks.{block_stored}
use Rattle.store.proofs.Contents.{used_fits, block_room, stores_some, contents_count}
use Rattle.store.proofs.storing.store.Goals as goal

-- as many blocks as there are to be, of which b is one
blocks : (q : Sequence) (slots : List ℕ) (n m : ℕ) → slots ≡ slots_in q.records → n ≡ length_of q → m ≡ blocks_for (length slots) n → m ≡ blocks_for (length (slots_in q.records)) (length_of q)
blocks q slots n m e f g = rw (g, e, f)

module _ (q : Sequence) (b : ℕ) (h : b < blocks_for (length (slots_in q.records)) (length_of q)) where
  within : length_of q ≤ 64 → 512 * b + 512 ≤ 4096
  within most = block_room (length (slots_in q.records)) (length_of q) b h (slots_few q.records) most

  room : (n : ℕ) → 1 ≤ length_of q → store_bytes q ≤ n → 512 * b + 512 ≤ n
  room n some enough = let k = stores_some q (λ z. omega (arith, some)) in omega arith

pub slice_bounds-block-end : goal.slice_bounds-block-end
slice_bounds-block-end c =
    let q = c.args.q.now in
    let s = c.steps.ensures in
    let all = blocks q _ _ _ (c.slots-slots.ensures ∙ c.new-used.ensures) (ap length s.used ∙ s.as_many) c.blocks-b-end.ensures in
    let there = rw all at c.loop-b-test.true in
    let h : 512 * c.loop-b.b + 512 ≤ length c.args.out.now = room q c.loop-b.b there (length c.args.out.now) c.requires.0 c.requires.1 in
    search rules

pub seal-requires : goal.seal-requires
seal-requires c =
    let q = c.args.q.now in
    let l = c.loop-b in
    let s = c.steps.ensures in
    let all = blocks q _ _ _ (c.slots-slots.ensures ∙ c.new-used.ensures) (ap length s.used ∙ s.as_many) c.blocks-b-end.ensures in
    let there = rw all at c.loop-b-test.true in
    let h : 512 * l.b + 512 ≤ length c.args.out.now = room q l.b there (length c.args.out.now) c.requires.0 c.requires.1 in
    let few : length_of q ≤ 64 = omega arith in
    let part : length (take (512 * (l.b + 1) - 512 * l.b) (drop (512 * l.b) l.out)) ≡ 512 = simp (length-take, length-drop) (omega arith) in
    (ap length c.put_content.ensures.stored ∙ length-sets _ 0 (get_or (contents_of q) l.b []) ∙ part, rw c.used_bytes.ensures (used_fits _ _ l.b), omega (arith, within q l.b there few))

pub loop-b-preserved : goal.loop-b-preserved
loop-b-preserved c =
    let q = c.args.q.now in
    let l = c.loop-b in
    let s = c.steps.ensures in
    let same = c.slots-slots.ensures ∙ c.new-used.ensures in
    let n = ap length s.used ∙ s.as_many in
    let all = blocks q _ _ _ same n c.blocks-b-end.ensures in
    let there = rw all at c.loop-b-test.true in
    let h : 512 * l.b + 512 ≤ length c.args.out.now = room q l.b there (length c.args.out.now) c.requires.0 c.requires.1 in
    let width : 512 * (l.b + 1) - 512 * l.b ≡ 512 = omega arith in
    let part : length (take (512 * (l.b + 1) - 512 * l.b) (drop (512 * l.b) l.out)) ≡ 512 = simp (length-take, length-drop) (omega arith) in
    let fits : c.used_bytes.result ≤ 508 = rw c.used_bytes.ensures (used_fits _ _ l.b) in
    let used = c.put_content.ensures.width ∙ rw (c.used_bytes.ensures, same, n) in
    ap (put_mid (512 * l.b) (512 * (l.b + 1) - 512 * l.b) l.out) (c.seal.ensures ∙ ap (λ (k : List ℕ). sealed (l.b + 1) (take c.used_bytes.result k)) c.put_content.ensures.stored)
    ∙ block_stored c.args.out.now (contents_of q) l.b (rw (contents_count q s.as_many) there) c.used_bytes.result l.out _ h l.invariant used fits part _ width

pub returns : goal.returns
unfolding stored_in stored_of
returns c =
    let q = c.args.q.now in
    let l = c.loop-b in
    let s = c.steps.ensures in
    let all = blocks q _ _ _ (c.slots-slots.ensures ∙ c.new-used.ensures) (ap length s.used ∙ s.as_many) c.blocks-b-end.ensures in
    let through : length (contents_of q) ≤ l.b = omega (arith, contents_count q s.as_many, all) in
    l.invariant ∙ ap (λ (k : List (List ℕ)). sets c.args.out.now 0 (sealed_from 1 k)) (take_all l.b (contents_of q) through)
