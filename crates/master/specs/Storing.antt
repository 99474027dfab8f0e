-- 02, request 1: "Both in ready only." Storing writes the sequence's blocks, loading replaces the sequence by the one that blocks say.
use Rattle.std.specs.Prelude.{ℕ, false, not, List, [], ◌∷◌, eqb}
use Rattle.octets.specs.Pick.{pick}
use Rattle.octets.specs.Numbers.{completed, too_short, wrong_state, no_step, check_wrong, not_stored}
use Rattle.sequence.specs.{Sequence.length_of, declared.Sequence.Sequence}
use Rattle.store.specs.Stored.{store_bytes, stored_in}
use Rattle.store.specs.Loaded.{load_number, loaded_of}
use Rattle.master.specs.declared.Master.{Master}
use Rattle.master.specs.Call.{Call, bare}
use Rattle.master.specs.States.{is_ready, with_sequence}

-- "with no sequence, storing gives 7"
unfoldable pub unstored : Sequence → ℕ
unstored q = pick (eqb (length_of q) 0) no_step completed

-- "1 where fewer bytes are lent than the sequence's blocks"; the count is the bytes written
unfoldable pub store_call : Master → List ℕ → Call
store_call m out = record {
  numbers = completed ∷ too_short ∷ wrong_state ∷ no_step ∷ [];
  lent = out;
  needs = store_bytes m.sequence;
  wrong = false;
  absent = false;
  barred = not (is_ready m);
  own = unstored m.sequence;
  code = 0;
  object = 0;
  after = m;
  count = store_bytes m.sequence;
  written = stored_in m.sequence out;
}

-- "Refusals: 16 .., 17 .., after number 2, in that order"; nothing changes but the sequence
unfoldable pub load_call : Master → List ℕ → Call
load_call m blocks =
    bare (completed ∷ wrong_state ∷ check_wrong ∷ not_stored ∷ []) (not (is_ready m)) (load_number blocks) (with_sequence m (loaded_of blocks).sequence)
