-- What holds of every call, by the shape of its record and by its row.
use Prim.Native.Nat.{ℕ}
use mathlib.Core.Path.{◌≡◌, refl, sym, ◌∙◌}
use mathlib.Core.Bool.{true, true≢false}
use borrow.Author.Tests.{leb-true}
use Rattle.octets.specs.Numbers.{wrong_state, not_stored}
use Rattle.octets.proofs.Tests.{pick_both}
use Rattle.recording.proofs.Steps.{both}
use Rattle.master.specs.declared.Master.{Master}
use Rattle.master.specs.Call.{Call, refusal, number_of, outcome_of}
use Rattle.events.specs.Events.{Event, call_of, apply}
use Rattle.events.specs.Demand1.{RefusedSame, is_among, InTable, while_inactive, Inactive}
use Rattle.events.specs.Order.{Ordered}
use Rattle.events.proofs.Choices.{chosen_by}
use Rattle.events.proofs.Calls.{same_master, same_lent}
use Rattle.events.proofs.Rows.{Named, row}
use Rattle.events.proofs.Examples.{reached}

pub refused_same : RefusedSame
refused_same m e h = (same_master m (call_of m e) h, same_lent m (call_of m e) h)

pub ordered : Ordered
unfolding refusal outcome_of
ordered m e = refl

-- ---- the table

in_row : (m : Master) (e : Event) → Named m e (apply m e).number
unfolding outcome_of
in_row m e = (row m e).number

pub in_table : InTable
in_table = record {
  call = λ m e. (both _ _ (in_row m e)).0;
  reached = reached;
  table = λ m e. leb-true (apply m e).number not_stored (both (is_among (apply m e).number (call_of m e).numbers) _ (in_row m e)).1;
}

-- ---- while the master is inactive

abbrev Barred : ℕ → Type 0
Barred n = is_among n while_inactive ≡ true

barred : (c : Call) → c.barred ≡ true → Barred (number_of c)
unfolding refusal
barred c b =
    pick_both Barred _ refl (pick_both Barred _ refl (pick_both Barred _ refl
    (chosen_by Barred _ wrong_state c.own (λ _. refl) (λ f. absurd (true≢false (sym b ∙ f))))))

pub inactive : Inactive
unfolding outcome_of
inactive m e s h = barred (call_of m e) ((row m e).inactive s h)
