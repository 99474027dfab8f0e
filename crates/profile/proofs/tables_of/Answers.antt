-- `profile::tables_of` meets its contract. The loop's invariant: the tables hold what the functions from here on say.
use Prim.Native.Nat.{ℕ, ◌+◌, ◌-◌, ◌≤◌, ◌<◌}
use native.Mathlib.Omega.{arith}
use mathlib.Core.Path.{◌≡◌, refl, sym, ap, ◌∙◌}
use mathlib.Core.List.{map}
use lib.ListN.{length, get_or, length-set}
use Rattle.pool.specs.Fields.{function_type, state_type, function_at, numbers_at}
use Rattle.pool.specs.StageTwo.{object_of, id_of, states_listed}
use Rattle.pool.proofs.Lists.{length_numbers}
use Rattle.octets.specs.Bits.{bits_of}
use Rattle.profile.proofs.Laws.{table_is, table_blank, table_more, trigger_end, trigger_next, states_end, states_next}
use Rattle.profile.proofs.tables_of.Goals as goal

pub loop-k-init : goal.loop-k-init
loop-k-init c =
    let a = c.args in
    let s = a.index.now.pool.now in
    let ps = a.index.now.places.now in
    let l = numbers_at 2 s a.list.at a.list.count in
    let past : length l ≤ a.list.count = omega (arith, length_numbers 2 s a.list.at a.list.count) in
    record {
      triggers = λ id h. table_blank id h ∙ sym (trigger_end s ps l a.list.count id past);
      sets = λ id h. table_blank id h ∙ sym (states_end s ps l a.list.count id past);
      long = refl;
      wide = refl;
    }

pub loop-k-preserved : goal.loop-k-preserved
unfolding id_of
loop-k-preserved c =
    let i = c.loop-k in
    let a = c.args in
    let s = a.index.now.pool.now in
    let ps = a.index.now.places.now in
    let l = numbers_at 2 s a.list.at a.list.count in
    let k : ℕ = i.k - 1 in
    let e : i.k ≡ k + 1 = omega arith in
    let h : k < length l = omega (arith, length_numbers 2 s a.list.at a.list.count) in
    let p : c.place_of-p.result ≡ object_of s ps function_type (get_or l k 0) = c.place_of-p.ensures.place ∙ ap (object_of s ps function_type) c.number.ensures in
    let key : c.id_at-id.result ≡ id_of s ps function_type (get_or l k 0) = c.id_at-id.ensures ∙ rw p in
    let value : c.trigger_at.result ≡ (function_at s (object_of s ps function_type (get_or l k 0))).trigger = c.trigger_at.ensures ∙ rw p in
    let bits : get_or a.sets.now k 0 ≡ bits_of (map (id_of s ps state_type) (states_listed s ps (get_or l k 0))) = c.requires k (omega arith) h in
    record {
      triggers =
          λ id b.
          table_more c.id_at-id.result c.trigger_at.result _ i.trigger i.invariant.long (omega arith) i.invariant.triggers id b
          ∙ sym (trigger_next s ps l k id h ∙ rw (← e, ← key, ← value));
      sets =
          λ id b.
          table_more c.id_at-id.result (get_or a.sets.now k 0) _ i.states i.invariant.wide (omega arith) i.invariant.sets id b
          ∙ sym (states_next s ps l k id h ∙ rw (← e, ← key, ← bits));
      long = simp length-set i.invariant.long;
      wide = simp length-set i.invariant.wide;
    }

pub returns : goal.returns
returns c =
    let i = c.loop-k in
    let e : i.k ≡ 0 = omega arith in
    record { trigger_value = table_is _ i.trigger i.invariant.long (rw e at i.invariant.triggers); states_value = table_is _ i.states i.invariant.wide (rw e at i.invariant.sets) }
