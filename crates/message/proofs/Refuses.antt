-- What read refuses: the test of a message that a table holds is the table of the tests.
use mathlib.Core.Path.{◌≡◌, refl, ap, ◌∙◌}
use mathlib.Core.Bool.{Bool, true, false, ◌&&◌, and-false}
use mathlib.Core.List.{List, [], ◌∷◌, map}
use Prim.Native.Nat.{ℕ, ◌+◌, ◌-◌, ◌%◌, ◌≤◌, ◌<◌, min}
use native.Mathlib.Omega.{arith}
use lib.Dec.{leb, eqb}
use lib.ListN.{length}
use borrow.Author.Tests.{le-leb, lt-leb, eq-eqb, ne_eqb, leb-true, leb-false}
use Rattle.octets.specs.Pick.{pick}
use Rattle.octets.specs.Numbers.{completed, wrong_value}
use Rattle.message.specs.Fields.{byte, entry}
use Rattle.message.specs.Layout.{form_of, client_rows, master_rows, from_client, from_master, client_side, master_side, layout_of}
use Rattle.message.specs.Messages.{read_of}
use Rattle.message.specs.Promises.{client_takes, master_takes, Refuses}
use Rattle.message.specs.declared.forms.Form.{Form}
use Rattle.message.specs.Messages.{Reading}
use Rattle.message.specs.declared.Message.{Message}
use Rattle.message.specs.declared.Message.TheVariants.{Nothing}

-- a function of a choice, and of the row that a table has for a code
pick_map : {A B : Type 0} (f : A → B) (b : Bool) (x y : A) → f (pick b x y) ≡ pick b (f x) (f y)
unfolding pick
pick_map f true x y = refl
pick_map f false x y = refl

entry_map : {A B : Type 0} (f : A → B) (code : ℕ) (rows : List (ℕ × A)) (none : A) → f (entry code rows none) ≡ entry code (map (λ (row : ℕ × A). (row.0, f row.1)) rows) (f none)
entry_map f code [] none = refl
entry_map f code (row ∷ rows) none = pick_map f (eqb code row.0) row.1 (entry code rows none) ∙ rw (entry_map f code rows none)

small : (x : ℕ) → leb (x % 64) 63 ≡ true
small x = le-leb (x % 64) 63 (omega arith)

-- a pool of 8 to 16,384 bytes makes a message of 9 to 16,385
pool_length : (n : ℕ) → (eqb (1 + min (n - 1) 16384) n && (leb 8 (n - 1) && leb (n - 1) 16384)) ≡ (leb 9 n && leb n 16385)
pool_length n = go (leb 9 n) (leb n 16385) refl refl
  where
    go : (a b : Bool) → leb 9 n ≡ a → leb n 16385 ≡ b → (eqb (1 + min (n - 1) 16384) n && (leb 8 (n - 1) && leb (n - 1) 16384)) ≡ (a && b)
    go true true p q =
        let h : 9 ≤ n = leb-true 9 n p in
        let k : n ≤ 16385 = leb-true n 16385 q in
        let e : eqb (1 + min (n - 1) 16384) n ≡ true = eq-eqb (1 + min (n - 1) 16384) n (omega arith) in
        let f : leb 8 (n - 1) ≡ true = le-leb 8 (n - 1) (omega arith) in
        let g : leb (n - 1) 16384 ≡ true = le-leb (n - 1) 16384 (omega arith) in
        rw (e, f, g)
    go true false p q =
        let k : 16385 < n = leb-false n 16385 q in
        let e : eqb (1 + min (n - 1) 16384) n ≡ false = ne_eqb (1 + min (n - 1) 16384) n (λ same. omega arith) in
        rw e
    go false b p q =
        let h : n < 9 = leb-false 9 n p in
        let f : leb 8 (n - 1) ≡ false = lt-leb 8 (n - 1) (omega arith) in
        rw (f, and-false)

module _ (s : List ℕ) where
  form : Message → Form
  form m = form_of m (byte 3 s % 64) (length s - 1)

  fits : Message → Bool
  fits m = eqb (form m).length (length s) && (form m).allowed

  client : fits (from_client (byte 1 s) s) ≡ entry (byte 1 s) (client_takes s) false
  unfolding from_client fits form
  client = entry_map fits (byte 1 s) (client_rows s) Nothing ∙ rw (small (byte 3 s), pool_length (length s), and-false (eqb 8 (length s)))

  master : fits (from_master (byte 1 s) s) ≡ entry (byte 1 s) (master_takes s) false
  unfolding from_master fits form
  master = entry_map fits (byte 1 s) (master_rows s) Nothing ∙ rw (small (byte 3 s), and-false (eqb 8 (length s)))

pub refuses : Refuses
unfolding read_of layout_of fits form
refuses side s =
    pick_map (λ (r : Reading). r.number) (fits s (layout_of side s)) _ _
    ∙ ap (λ (b : Bool). pick b completed wrong_value)
    (entry_map (fits s) side ((client_side, from_client (byte 1 s) s) ∷ (master_side, from_master (byte 1 s) s) ∷ []) Nothing ∙ rw (client s, master s, and-false (eqb 8 (length s))))
