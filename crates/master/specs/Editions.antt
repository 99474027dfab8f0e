-- 02, request 11, "Two rules for who may replay": the sequence's edition is set in ready. "Refusals: an unknown edition gives 17".
use Rattle.std.specs.Prelude.{ℕ, not, [], ◌∷◌, eqb}
use Rattle.octets.specs.Pick.{pick}
use Rattle.octets.specs.Numbers.{completed, wrong_state, no_step, not_stored}
use Rattle.sequence.specs.{Sequence.length_of, Editions.is_edition, Editions.with_edition, declared.Sequence.Sequence}
use Rattle.master.specs.declared.Master.{Master}
use Rattle.master.specs.Call.{Call, bare}
use Rattle.master.specs.States.{is_ready, with_sequence}

-- 7 with no sequence, then "an unknown edition gives 17"
unfoldable pub unset : Sequence → ℕ → ℕ
unset q edition = pick (eqb (length_of q) 0) no_step (pick (is_edition edition) completed not_stored)

-- nothing changes but the sequence's edition
unfoldable pub edition_call : Master → ℕ → Call
edition_call m edition =
    bare (completed ∷ wrong_state ∷ no_step ∷ not_stored ∷ []) (not (is_ready m)) (unset m.sequence edition)
    (with_sequence m (with_edition m.sequence edition))
