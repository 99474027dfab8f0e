-- `pool::stage_one::stage_one` meets its contract. The loop's invariant is `Turn` of Base.antt: it holds after an object without a fault, and a state
use native.Mathlib.Omega.{arith}
use lib.ListN.{length}
use Rattle.std.specs.Prelude.{unwrap_or}
use mathlib.Core.Path.{◌≡◌, refl, sym, ap, subst, ◌∙◌}
use mathlib.Core.List.{append-nil}
use lib.Dec.{eqb}
use borrow.Author.Tests.{eqb-true}
use Rattle.octets.proofs.Tests.{both}
use Rattle.pool.specs.Fields.{kind_at, function_type, state_type}
use Rattle.pool.specs.declared.Verdict.{Verdict}
use Rattle.pool.specs.Faults.{code_number}
use Rattle.pool.specs.StageOne.{code_at, fault_at, stage_one}
use Rattle.pool.specs.Search.Index.{Within}
use Rattle.pool.proofs.Walk.{size_least, places_end}
use Rattle.pool.proofs.Faults.{code_not_zero, walk_end, walk_here}
use Rattle.pool.proofs.Within.{within_places}
use Rattle.pool.proofs.Base.{no_base, state_size, function_size, base_start, base_end, turn_next}
use Rattle.pool.proofs.stage_one.stage_one.Goals as goal

pub loop-at-init : goal.loop-at-init
loop-at-init c =
    record {
      turn = record {
        fault = refl;
        listed = refl;
        least = omega arith;
        few = omega arith;
        long = c.requires.1;
        met = base_start c.args.s.now;
        within = omega arith;
      };
      within = tt;
    }

-- a state without a fault
pub loop-at-preserved-then-right_state : goal.loop-at-preserved-then-right_state
loop-at-preserved-then-right_state c =
    let i = c.loop-at in
    let s = c.args.s.now in
    let right = both (eqb (code_at s i.at) 0) (eqb (kind_at s i.at) state_type) (sym c.right_state.ensures ∙ c.if-right_state.true) in
    let is : kind_at s i.at ≡ state_type = eqb-true _ _ right.1 in
    let next = turn_next s i.places i.count (unwrap_or i.base (length s)) i.at i.invariant.turn c.requires.0 (omega arith) (eqb-true _ _ right.0) in
    record { turn = rw (state_size s i.at is, no_base s i.at 1 (unwrap_or i.base (length s)) is) at next; within = i.invariant.within }

-- a function without a fault
pub loop-at-preserved-then-right_function : goal.loop-at-preserved-then-right_function
loop-at-preserved-then-right_function c =
    let i = c.loop-at in
    let s = c.args.s.now in
    let right = both (eqb (code_at s i.at) 0) (eqb (kind_at s i.at) function_type) (sym c.right_function.ensures ∙ c.if-right_function.true) in
    let is : kind_at s i.at ≡ function_type = eqb-true _ _ right.1 in
    let next = turn_next s i.places i.count (unwrap_or i.base (length s)) i.at i.invariant.turn c.requires.0 (omega arith) (eqb-true _ _ right.0) in
    record { turn = rw (function_size s i.at is, ← c.state_count.ensures, no_base s i.at 0 (unwrap_or i.base (length s)) is) at next; within = i.invariant.within }

-- a fault here is the first of the pool
pub returns-in-Err-clause-verdict_value : goal.returns-in-Err-clause-verdict_value
unfolding stage_one
returns-in-Err-clause-verdict_value c =
    let s = c.args.s.now in
    let at = c.loop-at.at in
    let e : code_at s at ≡ code_number c.in-Err.code = sym c.in-Err.ensures in
    rw (c.in-Err.ensures, c.name_at-object.ensures)
    (sym (c.loop-at.invariant.turn.fault ∙ walk_here (fault_at s) s at (omega arith) (λ z. code_not_zero c.in-Err.code (sym e ∙ z))))

pub loop-at-smaller : goal.loop-at-smaller
loop-at-smaller c =
    omega (arith, size_least c.args.s.now c.loop-at.at)

pub loop-at-preserved : goal.loop-at-preserved
loop-at-preserved c =
    let i = c.loop-at in
    let s = c.args.s.now in
    let right : code_at s i.at ≡ 0 = sym c.in_default.ensures in
    let next = turn_next s i.places i.count (unwrap_or i.base (length s)) i.at i.invariant.turn c.requires.0 (omega arith) right in
    record { turn = rw (c.size_at-size.ensures.value, c.base_from-base.ensures.place) next; within = c.base_from-base.ensures.within }

pub returns : goal.returns
unfolding stage_one
returns c =
    let i = c.loop-at in
    let s = c.args.s.now in
    let fine_one = sym (i.invariant.turn.fault ∙ walk_end (fault_at s) s i.at (omega arith)) in
    let listed = rw (places_end s i.at (omega arith), append-nil) at i.invariant.turn.listed in record {
      verdict_value = fine_one;
      walks = record {
        few = i.invariant.turn.few;
        listed = listed;
        within = subst (Within s) (sym listed) (within_places s (ap (λ (v : Verdict). v.code) (sym fine_one)));
        base = sym (i.invariant.turn.met ∙ base_end s i.at (unwrap_or i.base (length s)) i.invariant.turn.within (omega arith));
        reached = i.invariant.turn.within;
      };
      within = i.invariant.within;
    }
