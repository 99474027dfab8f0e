-- What is known of an object at which stage one finds no fault, and of every object of an accepted pool.
use Prim.Native.Nat.{ℕ, ◌+◌, ◌≤◌, ◌<◌}
use native.Mathlib.Nat.{lt_of_not-le}
use native.Mathlib.Decide.{dec_le}
use native.Mathlib.Omega.{arith}
use mathlib.Core.Path.{◌≡◌, refl, sym, ap, ◌∙◌, subst}
use mathlib.Core.List.{List}
use mathlib.Core.Bool.{Bool, true, false, not, ◌&&◌}
use lib.ListN.{length}
use lib.Dec.{ltb, eqb}
use borrow.Author.Tests.{le-ltb, lt-ltb, eq-eqb, ltb-true, ltb-false, eqb-true, not-true, not-false}
use Rattle.octets.specs.Pick.{pick}
use Rattle.pool.specs.declared.Verdict.{Verdict}
use Rattle.pool.specs.declared.Head.{Head}
use Rattle.pool.specs.declared.Head.TheVariants.{Base, Function, State}
use Rattle.pool.specs.Verdicts.{verdict, first, first_fault}
use Rattle.pool.specs.Fields.{kind_at, base_type, state_type, base_at, function_at, state_at, head_at, fixed_of, size_at, places_from}
use Rattle.pool.specs.Ranges.{label_right, head_right}
use Rattle.pool.specs.StageOne.{code_of, bytes_left, is_base, faults_at, code_at, fault_at, stage_one}
use Rattle.pool.specs.StageTwo.{stage_two}
use Rattle.pool.specs.Pool.{verdict_of}
use Rattle.pool.proofs.Faults.{first_fault_lem, walk_here, walk_next}
use Rattle.pool.proofs.Walk.{size_least}
use Rattle.pool.proofs.Labels.{code_late, right_where}
use Rattle.std.specs.Prelude.{Ok}
use Rattle.objects.specs.Objects.{is_at, labels_right, kind_right}
use Rattle.objects.proofs.Limits.{and_l, and_r}

-- ---- where an object is found

pub record IsAt (s : List ℕ) (at : ℕ) : Type 0 where
  pub short : length s ≤ 16384
  pub within : at < length s
  pub right : code_at s at ≡ 0

pub is_at_lem : (s : List ℕ) (at : ℕ) → is_at s at ≡ true → IsAt s at
unfolding is_at
is_at_lem s at e =
    let short : Bool = not (ltb 16384 (length s)) in
    let within : Bool = ltb at (length s) in
    let right : Bool = eqb (code_at s at) 0 in
    let a : (short && within) ≡ true = and_l (short && within) right e in
    record {
      short = ltb-false 16384 (length s) (not-true (ltb 16384 (length s)) (and_l short within a));
      within = ltb-true at (length s) (and_r short within a);
      right = eqb-true (code_at s at) 0 (and_r (short && within) right e);
    }

pub at_is : (s : List ℕ) (at : ℕ) → IsAt s at → is_at s at ≡ true
unfolding is_at
at_is s at i = rw (le-ltb 16384 (length s) i.short, lt-ltb at (length s) i.within, eq-eqb (code_at s at) 0 i.right)

-- ---- an object at which stage one finds no fault

no_wrong : (a b : Bool) → (a ≡ true → b ≡ true) → (a && not b) ≡ false
no_wrong true true h = refl
no_wrong true false h = sym (h refl)
no_wrong false b h = refl

pub record Passed (s : List ℕ) (at : ℕ) : Type 0 where
  pub kind : kind_at s at ≤ 2
  pub room : at + size_at s at ≤ length s
  pub right : kind_right (Ok (head_at s at)) ≡ true

module _ (s : List ℕ) (at : ℕ) where
  base_here : kind_at s at ≡ 0 → head_at s at ≡ Base (base_at s at)
  unfolding head_at pick
  base_here e = rw (eq-eqb (kind_at s at) 0 e)

  function_here : kind_at s at ≡ 1 → head_at s at ≡ Function (function_at s at)
  unfolding head_at pick
  function_here e = rw (e)

  state_here : kind_at s at ≡ 2 → head_at s at ≡ State (state_at s at)
  unfolding head_at pick
  state_here e = rw (e)

  pub by_kind : (P : Head → Type 0) → kind_at s at ≤ 2 → (kind_at s at ≡ 0 → P (Base (base_at s at))) → (kind_at s at ≡ 1 → P (Function (function_at s at))) → (kind_at s at ≡ 2 → P (State (state_at s at))) → P (head_at s at)
  by_kind P h b f t =
      elim (dec_le (kind_at s at) 0) [
        | yes y ↦ let e : kind_at s at ≡ 0 = omega arith in subst P (sym (base_here e)) (b e)
        | no n ↦
            elim (dec_le (kind_at s at) 1) [
              | yes y ↦ let e : kind_at s at ≡ 1 = omega (arith, lt_of_not-le n) in subst P (sym (function_here e)) (f e)
              | no m ↦ let e : kind_at s at ≡ 2 = omega (arith, lt_of_not-le m) in subst P (sym (state_here e)) (t e)
            ]
      ]

  pub passed : code_at s at ≡ 0 → Passed s at
  unfolding faults_at
  passed e =
      let three = code_late (ltb (bytes_left s at) 3) 0xFE _ e in
      let known = code_late (ltb state_type (kind_at s at)) 0x00 _ three.1 in
      let fixed = code_late (ltb (bytes_left s at) (fixed_of (kind_at s at))) 0xFE _ known.1 in
      let n = code_late (is_base s at && not (label_right (base_at s at).n)) 0x08 _ fixed.1 in
      let m = code_late (is_base s at && not (label_right (base_at s at).m)) 0x0A _ n.1 in
      let cut = code_late (ltb (bytes_left s at) (size_at s at)) 0xFE _ m.1 in
      let ranges = code_late (not (head_right (head_at s at))) 0xFE _ cut.1 in
      let k : kind_at s at ≤ state_type = ltb-false state_type (kind_at s at) known.0 in
      let labels : labels_right (head_at s at) ≡ true =
      by_kind (λ h. labels_right h ≡ true) k
      (λ z.
      let base = eq-eqb (kind_at s at) base_type z in
      rw (right_where (is_base s at) (label_right (base_at s at).n) base n.0, right_where (is_base s at) (label_right (base_at s at).m) base m.0))
      (λ z. refl)
      (λ z. refl) in
      record {
        kind = k;
        room = omega (arith, ltb-false (bytes_left s at) (size_at s at) cut.0, ltb-false (bytes_left s at) 3 three.0);
        right = rw (labels, not-false (head_right (head_at s at)) ranges.0);
      }

  -- and where all of this holds, it finds none
  pub no_fault : Passed s at → code_at s at ≡ 0
  unfolding faults_at code_of pick
  no_fault p =
      let three : ltb (bytes_left s at) 3 ≡ false = le-ltb (bytes_left s at) 3 (omega (arith, p.room, size_least s at)) in
      let known : ltb state_type (kind_at s at) ≡ false = le-ltb state_type (kind_at s at) p.kind in
      let fixed : ltb (bytes_left s at) (fixed_of (kind_at s at)) ≡ false = le-ltb (bytes_left s at) (fixed_of (kind_at s at)) (omega (arith, p.room)) in
      let cut : ltb (bytes_left s at) (size_at s at) ≡ false = le-ltb (bytes_left s at) (size_at s at) (omega (arith, p.room)) in
      let labels : labels_right (head_at s at) ≡ true = and_l (labels_right (head_at s at)) (head_right (head_at s at)) p.right in
      let ranges : head_right (head_at s at) ≡ true = and_r (labels_right (head_at s at)) (head_right (head_at s at)) p.right in
      let both : is_base s at ≡ true → (label_right (base_at s at).n && label_right (base_at s at).m) ≡ true =
      λ b. rw (base_here (eqb-true (kind_at s at) base_type b)) at labels in
      let x : Bool = label_right (base_at s at).n in
      let y : Bool = label_right (base_at s at).m in
      let n : (is_base s at && not x) ≡ false = no_wrong (is_base s at) x (λ b. and_l x y (both b)) in
      let m : (is_base s at && not y) ≡ false = no_wrong (is_base s at) y (λ b. and_r x y (both b)) in
      rw (three, known, fixed, n, m, cut, ranges)

-- ---- an accepted pool, from a place on

pub record Fine (s : List ℕ) (at : ℕ) : Type 0 where
  pub short : length s ≤ 16384
  pub rest : (first_fault (fault_at s) (places_from s at)).code ≡ 0

first_code : (v later : Verdict) → (first v later).code ≡ 0 → v.code ≡ 0
first_code v later e =
    elim (dec_le v.code 0) [
      | yes y ↦ omega arith
      | no n ↦ ap (λ (w : Verdict). w.code) (sym (first_fault_lem v later (λ z. n (omega arith)))) ∙ e
    ]

pub accepted : (s : List ℕ) → (verdict_of s).code ≡ 0 → Fine s 0
unfolding verdict_of stage_one pick
accepted s e = go (ltb 16384 (length s)) refl e
  where
    go : (b : Bool) → ltb 16384 (length s) ≡ b → (pick b (verdict 255 65535) (first (stage_one s) (stage_two s))).code ≡ 0 → Fine s 0
    go true t z = absurd (omega arith)
    go false t z = record { short = ltb-false 16384 (length s) t; rest = first_code (stage_one s) (stage_two s) z }

module _ (s : List ℕ) (at : ℕ) (h : at < length s) (f : Fine s at) where
  pub fine_here : IsAt s at
  fine_here =
      record {
        short = f.short;
        within = h;
        right =
            elim (dec_le (code_at s at) 0) [
              | yes y ↦ omega arith
              | no n ↦ ap (λ (v : Verdict). v.code) (sym (walk_here (fault_at s) s at h (λ z. n (omega arith)))) ∙ f.rest
            ];
      }

  pub fine_next : Fine s (at + size_at s at)
  fine_next = record { short = f.short; rest = ap (λ (v : Verdict). v.code) (sym (walk_next (fault_at s) s at h fine_here.right)) ∙ f.rest }
