-- `store::storing::put_content` meets its contract, by the number of the block.
use Rattle.std.proofs.Common.{◌≡◌, ◌-◌, ◌*◌, ◌≤◌, length, ap, ◌∙◌, refl, arith, rules}
use Rattle.std.proofs.lemmas.List.{length-take, length-drop}
use Rattle.sequence.specs.Sequence.{length_of}
use Rattle.store.proofs.Lists.{every_take, every_drop}
use Rattle.store.proofs.Slots.{slots_few, slots_small}
use Rattle.store.proofs.Contents.{used_clients, used_steps, first_stored, first_length, content_clients, content_steps}
use Rattle.store.proofs.storing.put_content.Goals as goal

pub overflow_cast-slots : goal.overflow_cast-slots
overflow_cast-slots c =
    let few : length c.args.slots.now ≤ 8 = rw c.requires.2 (slots_few c.args.q.now.records) in
    search rules

pub invariant_of-counts : goal.invariant_of-counts
invariant_of-counts c =
    let few : length c.args.slots.now ≤ 8 = rw c.requires.2 (slots_few c.args.q.now.records) in
    let s = c.steps-steps.ensures in
    let all : length c.steps-steps.result.now ≡ length_of c.args.q.now = ap length s.used ∙ s.as_many in
    record { few_clients = few; few_steps = omega arith }

pub returns-then-b-eq0-clause-stored : goal.returns-then-b-eq0-clause-stored
returns-then-b-eq0-clause-stored c =
    let a = c.args in
    let s = c.steps-steps.ensures in
    rw (c.put_u32-then-b-eq0-2.ensures, c.saturating_sub.ensures, c.put_u32-then-b-eq0.ensures, c.put_u32.ensures)
    (first_stored a.q.now s.as_many (length a.slots.now) (length c.steps-steps.result.now) a.b (ap length c.requires.2) (ap length s.used ∙ s.as_many) a.block.now c.if-b-eq0.true)

pub returns-then-b-eq0-clause-width : goal.returns-then-b-eq0-clause-width
returns-then-b-eq0-clause-width c = first_length c.args.q.now c.steps-steps.ensures.as_many c.args.b c.if-b-eq0.true

pub put_clients-requires-clause-within : goal.put_clients-requires-clause-within
put_clients-requires-clause-within c = rw c.requires.2 (every_take _ _ _ (every_drop _ _ _ (slots_small c.args.q.now.records)))

pub returns-then-b-clients-clause-stored : goal.returns-then-b-clients-clause-stored
returns-then-b-clients-clause-stored c =
    let a = c.args in
    let s = c.steps-steps.ensures in
    rw
    (content_clients a.q.now s.as_many (length a.slots.now) (length_of a.q.now) a.b (ap length c.requires.2) refl c.client_blocks-clients.result (c.min.result - 3 * (a.b - 1)) c.client_blocks-clients.ensures a.slots.now c.requires.2
    (omega arith) c.if-b-clients.true (omega arith))
    c.put_clients.ensures.stored

pub returns-then-b-clients-clause-width : goal.returns-then-b-clients-clause-width
returns-then-b-clients-clause-width c =
    let a = c.args in
    let s = c.steps-steps.ensures in
    rw (
      content_clients a.q.now s.as_many (length a.slots.now) (length_of a.q.now) a.b (ap length c.requires.2) refl c.client_blocks-clients.result (c.min.result - 3 * (a.b - 1)) c.client_blocks-clients.ensures a.slots.now c.requires.2
          (omega arith) c.if-b-clients.true (omega arith),
      c.put_clients.ensures.width,
      ← c.requires.2,
    )
    (used_clients (length a.slots.now) (length_of a.q.now) a.b _ c.client_blocks-clients.result (omega arith) c.client_blocks-clients.ensures c.if-b-clients.true (simp (length-take, length-drop) (omega arith)))

pub returns-clause-stored : goal.returns-clause-stored
returns-clause-stored c =
    let a = c.args in
    let s = c.steps-steps.ensures in
    let inside = rw (← c.requires.2) at c.requires.1 in
    let all : length c.steps-steps.result.now ≡ length_of a.q.now = ap length s.used ∙ s.as_many in
    let m = c.client_blocks-clients.result in
    rw (
      content_steps a.q.now s.as_many (length a.slots.now) (length_of a.q.now) a.b (ap length c.requires.2) refl m (c.min-2.result - 31 * (a.b - 1 - m)) c.client_blocks-clients.ensures
          c.if-b-clients.false inside (omega arith),
      ← s.used,
    )
    c.put_steps.ensures.stored

pub returns-clause-width : goal.returns-clause-width
returns-clause-width c =
    let a = c.args in
    let s = c.steps-steps.ensures in
    let inside = rw (← c.requires.2) at c.requires.1 in
    let all : length c.steps-steps.result.now ≡ length_of a.q.now = ap length s.used ∙ s.as_many in
    let m = c.client_blocks-clients.result in
    rw (
      content_steps a.q.now s.as_many (length a.slots.now) (length_of a.q.now) a.b (ap length c.requires.2) refl m (c.min-2.result - 31 * (a.b - 1 - m)) c.client_blocks-clients.ensures
          c.if-b-clients.false inside (omega arith),
      ← s.used,
      c.put_steps.ensures.width,
      ← c.requires.2,
    )
    (used_steps (length a.slots.now) (length_of a.q.now) a.b _ m (omega arith) c.client_blocks-clients.ensures c.if-b-clients.false (simp (length-take, length-drop) (omega arith)))
