-- Steps that leave in order, one at a tick, each not before it is ready. `ready j t` says that step j is ready at tick t; once
-- ready, it stays so. No events here, no counters: only who leaves when.
use mathlib.Core.Path.{◌≡◌, refl, sym, subst}
use mathlib.Core.Logic.{◌⊎◌, inl, inr, ◌↔◌}
use mathlib.Core.Bool.{Bool, true, false}
use mathlib.Core.List.{List, [], ◌∷◌, ◌++◌}
use Prim.Native.Nat.{ℕ, zero, suc, ◌+◌, ◌-◌, ◌≤◌, ◌<◌, max}
use native.Mathlib.Nat.{eq-or-lt_of_le}
use native.Mathlib.Decide.{dec_le}
use native.Mathlib.Omega.{arith}
use lib.Dec.{T}
use lib.ListN.{length, get_or, length-append, get_or-append}
use lib.Seq.{get_or-append_seam}
use Rattle.ticks.specs.Queue.{before}

-- the ticks at which steps left, in order: one more, t, if the test passes
abbrev pub push : Bool → ℕ → List ℕ → List ℕ
push true t l = l ++ (t ∷ [])
push false t l = l

before_push : (l : List ℕ) (x i : ℕ) → i ≤ length l → before (l ++ (x ∷ [])) i ≡ before l i
before_push l x zero h = refl
before_push l x (suc i) h = get_or-append l (x ∷ []) 0 i h

module _ (ready : ℕ → ℕ → Bool) where
  -- who has left after t ticks
  abbrev pub gone : ℕ → List ℕ
  gone zero = []
  gone (suc t) = push (ready (length (gone t)) (suc t)) (suc t) (gone t)

  pub record FirstReady (j t : ℕ) : Type 0 where
    pub numbered : 1 ≤ t
    pub reaching : T (ready j t)
    pub first : (u : ℕ) → 1 ≤ u → u < t → ¬ T (ready j u)

  -- step i left at tick x: the first at which it was ready and the step before it had left
  pub record Left (l : List ℕ) (i x t : ℕ) : Type 0 where
    pub due : ℕ
    pub due_is : FirstReady i due
    pub at : x ≡ max (suc (before l i)) due
    pub past : x ≤ t

  -- what holds after t ticks
  pub record Inv (t : ℕ) (l : List ℕ) : Type 0 where
    pub each : (i : ℕ) → i < length l → Left l i (get_or l i 0) t
    pub last : before l (length l) ≤ t
    -- the next step is ready and still waits: only where one left at this very tick
    pub waits : T (ready (length l) t) → before l (length l) ≡ t

  pub record Max (i t : ℕ) : Type 0 where
    pub none_later : (j : ℕ) → j ≤ i → (d : ℕ) × FirstReady j d × (d + (i - j) ≤ t)
    pub one_of_them : (j : ℕ) × (j ≤ i) × ((d : ℕ) × FirstReady j d × (d + (i - j) ≡ t))

  first_unique : (j t u : ℕ) → FirstReady j t → FirstReady j u → t ≡ u
  first_unique j t u p q = go (dec_le t u) (dec_le u t)
    where
      go : Dec (t ≤ u) → Dec (u ≤ t) → t ≡ u
      go (yes a) (yes b) = omega arith
      go (yes a) (no b) = absurd (q.first t p.numbered (omega arith) p.reaching)
      go (no a) b = absurd (p.first u q.numbered (omega arith) q.reaching)

  module _ (stays : (j t u : ℕ) → t ≤ u → T (ready j t) → T (ready j u)) where
    Found : ℕ → ℕ → Type 0
    Found j t = (d : ℕ) × FirstReady j d × (d ≤ suc t)

    -- a step that is ready was first ready at some tick
    find : (j t : ℕ) → T (ready j (suc t)) → Found j t
    unfolding Found
    find j zero r = (1, record { numbered = omega arith; reaching = r; first = λ u a b. absurd (omega arith) }, omega arith)
    find j (suc t) r = go (ready j (suc t)) refl (find j t)
      where
        go : (b : Bool) → ready j (suc t) ≡ b → (T (ready j (suc t)) → (d : ℕ) × FirstReady j d × (d ≤ suc t)) → (d : ℕ) × FirstReady j d × (d ≤ suc (suc t))
        go true e k = let f = k (subst T (sym e) tt) in (f.0, f.1, omega arith)
        go false e k =
            (suc (suc t), record { numbered = omega arith; reaching = r; first = λ u a b w. subst T e (stays j u (suc t) (omega arith) w) }, omega arith)

    module _ (t : ℕ) (l : List ℕ) (inv : Inv t l) where
      longer : length (l ++ (suc t ∷ [])) ≡ suc (length l)
      longer = simp length-append (omega arith)

      -- the step that leaves now
      now : T (ready (length l) (suc t)) → Left l (length l) (suc t) (suc t)
      unfolding Found
      now r = go (find (length l) t r)
        where
          go : (d : ℕ) × FirstReady (length l) d × (d ≤ suc t) → Left l (length l) (suc t) (suc t)
          go f = record { due = f.0; due_is = f.1; at = at' (eq-or-lt_of_le f.2); past = omega arith }
            where
              at' : (f.0 ≡ suc t) ⊎ (f.0 < suc t) → suc t ≡ max (suc (before l (length l))) f.0
              at' (inl e) = omega (arith, inv.last)
              at' (inr h) = omega (arith, inv.waits (stays (length l) f.0 t (omega arith) f.1.reaching))

      left_push : (i x y : ℕ) → i ≤ length l → Left l i x y → y ≤ suc t → Left (l ++ (suc t ∷ [])) i x (suc t)
      left_push i x y h p k = record { due = p.due; due_is = p.due_is; at = rw (before_push l (suc t) i h) p.at; past = omega (arith, p.past) }

      each_push : T (ready (length l) (suc t)) → (i : ℕ) → i < suc (length l) → Left (l ++ (suc t ∷ [])) i (get_or (l ++ (suc t ∷ [])) i 0) (suc t)
      each_push r i h = go (eq-or-lt_of_le h)
        where
          go : (suc i ≡ suc (length l)) ⊎ (suc i < suc (length l)) → Left (l ++ (suc t ∷ [])) i (get_or (l ++ (suc t ∷ [])) i 0) (suc t)
          go (inl e) =
              let q : i ≡ length l = omega arith in
              rw q (rw (get_or-append_seam l (suc t) [] 0) (left_push (length l) (suc t) (suc t) (omega arith) (now r) (omega arith)))
          go (inr k) =
              let q : i < length l = omega arith in
              rw (get_or-append l (suc t ∷ []) 0 i q) (left_push i (get_or l i 0) t (omega arith) (inv.each i q) (omega arith))

      pub inv_suc : Inv (suc t) (push (ready (length l) (suc t)) (suc t) l)
      inv_suc = go (ready (length l) (suc t)) refl
        where
          go : (b : Bool) → ready (length l) (suc t) ≡ b → Inv (suc t) (push b (suc t) l)
          go true e =
              record {
                each = λ i h. each_push (subst T (sym e) tt) i (subst (λ (n : ℕ). i < n) longer h);
                last = rw longer (rw (get_or-append_seam l (suc t) [] 0) (omega arith));
                waits = λ w. rw longer (get_or-append_seam l (suc t) [] 0);
              }
          go false e =
              record {
                each = λ i h. let p = inv.each i h in record { due = p.due; due_is = p.due_is; at = p.at; past = omega (arith, p.past) };
                last = omega (arith, inv.last);
                waits = λ w. absurd (subst T e w);
              }

    pub inv_gone : (t : ℕ) → Inv t (gone t)
    inv_gone zero = record { each = λ i h. absurd (omega arith); last = omega arith; waits = λ w. refl }
    inv_gone (suc t) = inv_suc t (gone t) (inv_gone t)

  max_zero : (x d : ℕ) → FirstReady 0 d → x ≡ max 1 d → Max 0 x
  max_zero x d f e =
      record {
        none_later = λ j h. (d, (let q : 0 ≡ j = omega arith in rw q at f), omega arith);
        one_of_them = (0, omega arith, (d, f, omega (arith, f.numbered)));
      }

  max_suc : (i x b d : ℕ) → FirstReady (suc i) d → x ≡ max (suc b) d → Max i b → Max (suc i) x
  max_suc i x b d f e m = record { none_later = λ j h. lower j (eq-or-lt_of_le h); one_of_them = one (dec_le (suc b) d) }
    where
      lower : (j : ℕ) → (j ≡ suc i) ⊎ (j < suc i) → (u : ℕ) × FirstReady j u × (u + (suc i - j) ≤ x)
      lower j (inl q) = (d, rw q f, omega arith)
      lower j (inr k) = let p = m.none_later j (omega arith) in (p.0, p.1, omega (arith, p.2))

      one : Dec (suc b ≤ d) → (j : ℕ) × (j ≤ suc i) × ((u : ℕ) × FirstReady j u × (u + (suc i - j) ≡ x))
      one (yes h) = (suc i, omega arith, (d, f, omega arith))
      one (no h) = let p = m.one_of_them in (p.0, omega (arith, p.1), (p.2.0, p.2.1, omega (arith, p.1, p.2.2)))

  -- each step that has left did so at the latest of the ticks
  pub left_max : (t : ℕ) (l : List ℕ) → Inv t l → (i : ℕ) → i < length l → Max i (get_or l i 0)
  left_max t l inv zero h = let p = inv.each zero h in max_zero (get_or l zero 0) p.due p.due_is p.at
  left_max t l inv (suc i) h =
      let p = inv.each (suc i) h in
      max_suc i (get_or l (suc i) 0) (get_or l i 0) p.due p.due_is p.at (left_max t l inv i (omega arith))

  max_le : (i t u : ℕ) → Max i t → Max i u → t ≤ u
  max_le i t u m n =
      let p = m.one_of_them in
      let q = n.none_later p.0 p.1 in
      omega (arith, p.2.2, q.2, first_unique p.0 p.2.0 q.0 p.2.1 q.1)

  module _ (stays : (j t u : ℕ) → t ≤ u → T (ready j t) → T (ready j u)) (t : ℕ) (l : List ℕ) (inv : Inv t l) where
    -- a step that has not left: the latest of its ticks, if they are all there, is still to come
    not_gone : (i x : ℕ) → length l ≤ i → Max i x → x ≤ t → ⊥
    not_gone i x h m k =
        let q = m.none_later (length l) h in
        go (length l) refl q.1.numbered (inv.waits (stays (length l) q.0 t (omega (arith, q.2)) q.1.reaching)) (omega (arith, q.2))
      where
        go : {d : ℕ} (n : ℕ) → length l ≡ n → 1 ≤ d → before l n ≡ t → d ≤ t → ⊥
        go zero e a w b = omega arith
        go (suc n) e a w b =
            let p = (left_max t l inv n (omega arith)).one_of_them in
            let r = m.none_later p.0 (omega (arith, p.1)) in
            omega (arith, p.1, p.2.2, r.2, first_unique p.0 p.2.0 r.0 p.2.1 r.1)

    pub gone_iff : (i x : ℕ) → ((i < length l) × (get_or l i 0 ≡ x)) ↔ (Max i x × (x ≤ t))
    gone_iff i x = (to, from (dec_le (suc i) (length l)))
      where
        to : (i < length l) × (get_or l i 0 ≡ x) → Max i x × (x ≤ t)
        to p = (rw p.1 at (left_max t l inv i p.0), omega (arith, (inv.each i p.0).past))

        from : Dec (i < length l) → Max i x × (x ≤ t) → (i < length l) × (get_or l i 0 ≡ x)
        from (yes h) p = let m = left_max t l inv i h in (h, omega (arith, max_le i x (get_or l i 0) p.0 m, max_le i (get_or l i 0) x m p.0))
        from (no h) p = absurd (not_gone i x (omega arith) p.0 p.1)
