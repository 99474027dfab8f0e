-- `pool::stage_two::Index::states_fault` meets its contract. The loop's invariant: the answers and the sets are those of the functions from here on.
use Prim.Native.Nat.{ℕ, ◌+◌, ◌-◌, ◌≤◌, ◌<◌}
use native.Mathlib.Omega.{arith}
use mathlib.Core.Path.{◌≡◌, sym, ap, subst, ◌∙◌}
use lib.ListN.{length, get_or, length-set}
use borrow.Author.Rules.{rules}
use Rattle.pool.specs.Faults.{said}
use Rattle.pool.specs.Fields.{function_type, numbers_at}
use Rattle.pool.specs.StageTwo.{object_of, states_listed, states_absent, states_alike}
use Rattle.pool.specs.Search.Look.{set_of, Sets}
use Rattle.pool.proofs.Faults.{fault_end, fault_from, said_and}
use Rattle.pool.proofs.Lists.{length_numbers}
use Rattle.pool.proofs.Looks.{sets_none, sets_next}
use Rattle.pool.proofs.stage_two.Index.states_fault.Goals as goal

pub loop-k-init : goal.loop-k-init
loop-k-init c =
    let a = c.args in
    let s = a.self.now.pool.now in
    let ps = a.self.now.places.now in
    let l = numbers_at 2 s a.list.at a.list.count in
    let past : length l ≤ a.list.count = omega (arith, length_numbers 2 s a.list.at a.list.count) in
    record {
      absent = sym (fault_end (states_absent s ps 0x04) l a.list.count past);
      alike = sym (fault_end (states_alike s ps 0x07) l a.list.count past);
      sets = sets_none s ps l a.sets.now a.list.count past;
      long = search rules;
    }

pub loop-k-preserved : goal.loop-k-preserved
unfolding states_absent states_alike
loop-k-preserved c =
    let i = c.loop-k in
    let a = c.args in
    let s = a.self.now.pool.now in
    let ps = a.self.now.places.now in
    let l = numbers_at 2 s a.list.at a.list.count in
    let k : ℕ = i.k - 1 in
    let e : i.k ≡ k + 1 = omega arith in
    let h : k < length l = omega (arith, length_numbers 2 s a.list.at a.list.count) in
    let p : c.place_of-p.result ≡ object_of s ps function_type (get_or l k 0) = c.place_of-p.ensures.place ∙ ap (object_of s ps function_type) c.number.ensures in
    let four : said c.list_at-found.result.absent ≡ states_absent s ps 0x04 (get_or l k 0) = c.list_at-found.ensures.absent_value ∙ rw (c.states_of.ensures, p) in
    let seven : said c.list_at-found.result.alike ≡ states_alike s ps 0x07 (get_or l k 0) = c.list_at-found.ensures.alike_value ∙ rw (c.states_of.ensures, p) in
    let set : c.list_at-found.result.ids ≡ set_of s ps (states_listed s ps (get_or l k 0)) = c.list_at-found.ensures.ids_value ∙ rw (c.states_of.ensures, p) in
    record {
      absent = ap said c.and-absent.ensures ∙ said_and c.list_at-found.result.absent i.absent ∙ sym (fault_from (states_absent s ps 0x04) l k h ∙ rw (← four, ← e, ← i.invariant.absent));
      alike = ap said c.and-alike.ensures ∙ said_and c.list_at-found.result.alike i.alike ∙ sym (fault_from (states_alike s ps 0x07) l k h ∙ rw (← seven, ← e, ← i.invariant.alike));
      sets = sets_next s ps l i.sets k c.list_at-found.result.ids (omega arith) (subst (λ (j : ℕ). Sets s ps l i.sets j) e i.invariant.sets) set;
      long = simp length-set i.invariant.long;
    }

pub returns : goal.returns
returns c =
    let i = c.loop-k in
    let a = c.args in
    let s = a.self.now.pool.now in
    let ps = a.self.now.places.now in
    let e : i.k ≡ 0 = omega arith in
    record {
      verdict_value = ap said c.and.ensures ∙ said_and i.absent i.alike ∙ rw (i.invariant.absent, i.invariant.alike, e);
      sets = subst (λ (j : ℕ). Sets s ps (numbers_at 2 s a.list.at a.list.count) i.sets j) e i.invariant.sets;
    }
