-- What a call does, whichever it is: refused, or done.
use mathlib.Core.Path.{◌≡◌, refl}
use lib.Dec.{eqb}
use borrow.Author.Tests.{ne_eqb, eqb-true, eqb-false}
use Rattle.octets.specs.Pick.{pick}
use Rattle.master.specs.declared.Master.{Master}
use Rattle.master.specs.Call.{Call, number_of, outcome_of, leaves_of}
use Rattle.events.proofs.Choices.{chosen_by}

module _ (m : Master) (c : Call) where
  pub number_is : (outcome_of m c).number ≡ number_of c
  unfolding outcome_of
  number_is = refl

  pub same_master : ((outcome_of m c).number ≡ 0 → ⊥) → (outcome_of m c).master ≡ m
  unfolding pick outcome_of
  same_master h = rw (ne_eqb (number_of c) 0 h)

  pub same_lent : ((outcome_of m c).number ≡ 0 → ⊥) → leaves_of c ≡ c.lent
  unfolding pick outcome_of leaves_of
  same_lent h = rw (ne_eqb (number_of c) 0 h)

  pub after_is : (outcome_of m c).number ≡ 0 → (outcome_of m c).master ≡ c.after
  unfolding pick outcome_of
  after_is z = rw z

  pub count_is : (outcome_of m c).number ≡ 0 → (outcome_of m c).count ≡ c.count
  unfolding pick outcome_of
  count_is z = rw z

  pub written_is : (outcome_of m c).number ≡ 0 → leaves_of c ≡ c.written
  unfolding pick outcome_of leaves_of
  written_is z = rw z

  -- what holds of the master, and of the master after the call where it is done, holds of the master that is given back
  pub either_way : (P : Master → Type 0) → ((number_of c ≡ 0 → ⊥) → P m) → (number_of c ≡ 0 → P c.after) → P (outcome_of m c).master
  unfolding outcome_of
  either_way P p q = chosen_by P (eqb (number_of c) 0) c.after m (λ t. q (eqb-true (number_of c) 0 t)) (λ t. p (eqb-false (number_of c) 0 t))
