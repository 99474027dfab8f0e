-- The entries of a log that began a step, when one entry more comes.
use mathlib.Core.Path.{◌≡◌, refl, sym, ap, ◌∙◌}
use mathlib.Core.Bool.{Bool, true, false, ◌||◌, cond}
use mathlib.Core.List.{List, [], ◌∷◌, ◌++◌, append-nil, append_assoc}
use native.Mathlib.Omega.{arith}
use lib.ListN.{length}
use Rattle.arrays.specs.Arrays.{some, those}
use Rattle.arrays.specs.Every.{Every}
use Rattle.arrays.proofs.Every.{every_weaken}
use Rattle.recording.specs.Promises.{start_of}
use Rattle.recording.specs.declared.Taken.{Taken}
use Rattle.history.specs.Steps.{Entry, is_accepted, FirstOf, beginnings, step_from, is_first}
use Rattle.history.proofs.Lists.{first_still}

-- what a message that begins a step settles of it
abbrev pub start_in : Entry → Taken
start_in x = start_of (record { step = step_from x 0; tan = x.message.tan; status = 0 })

abbrev pub First : List Entry → Entry → Type 0
First log b = FirstOf (is_accepted b.slot b.message.tan) log b

pub none_some : (p : Entry → Bool) (l : List Entry) → those p l ≡ [] → some p l ≡ false
none_some p [] e = refl
none_some p (x ∷ l) e = go (p x) e (none_some p l)
  where
    go : (b : Bool) → cond b (x ∷ those p l) (those p l) ≡ [] → (those p l ≡ [] → some p l ≡ false) → (b || some p l) ≡ false
    go true z k = let w = ap length z in absurd (omega arith)
    go false z k = k z

beginnings_more :
    (earlier log : List Entry) (x : Entry) → beginnings earlier (log ++ x ∷ []) ≡ beginnings earlier log ++ beginnings (earlier ++ log) (x ∷ [])
beginnings_more earlier [] x = ap (λ (l : List Entry). beginnings l (x ∷ [])) (sym (append-nil earlier))
beginnings_more earlier (y ∷ log) x =
    go (is_first earlier y)
    (beginnings_more (earlier ++ y ∷ []) log x
    ∙ ap (λ (l : List Entry). beginnings (earlier ++ y ∷ []) log ++ beginnings l (x ∷ [])) (append_assoc earlier (y ∷ []) log))
  where
    go :
        (b : Bool)
        → beginnings (earlier ++ y ∷ []) (log ++ x ∷ []) ≡ beginnings (earlier ++ y ∷ []) log ++ beginnings (earlier ++ y ∷ log) (x ∷ [])
        → cond b (y ∷ beginnings (earlier ++ y ∷ []) (log ++ x ∷ [])) (beginnings (earlier ++ y ∷ []) (log ++ x ∷ []))
        ≡ cond b (y ∷ beginnings (earlier ++ y ∷ []) log) (beginnings (earlier ++ y ∷ []) log) ++ beginnings (earlier ++ y ∷ log) (x ∷ [])
    go true e = ap (λ (l : List Entry). y ∷ l) e
    go false e = e

module _ (log : List Entry) (x : Entry) where
  pub begins_none : is_first log x ≡ false → beginnings [] (log ++ x ∷ []) ≡ beginnings [] log
  begins_none n = beginnings_more [] log x ∙ rw n (append-nil (beginnings [] log))

  pub begins_one : is_first log x ≡ true → beginnings [] (log ++ x ∷ []) ≡ beginnings [] log ++ x ∷ []
  begins_one n = beginnings_more [] log x ∙ rw n

  pub firsts_still : Every (First log) (beginnings [] log) → Every (First (log ++ x ∷ [])) (beginnings [] log)
  firsts_still h = every_weaken (λ b f. first_still (is_accepted b.slot b.message.tan) log x b f) (beginnings [] log) h
