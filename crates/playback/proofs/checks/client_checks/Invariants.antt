-- `playback::checks::client_checks` meets its contract: the clients that are left decide.
use mathlib.Core.Path.{◌≡◌}
use mathlib.Core.List.{flat_map}
use Rattle.std.specs.Slice.Iter.{iter_rest}
use Rattle.std.specs.Iterator.Adapters.{zip_first, zip_second}
use Rattle.playback.specs.Pairs.{pairs}
use Rattle.playback.specs.Verification.{first_failing, rule_of, client_checks}
use Rattle.playback.proofs.checks.client_checks.Given as goal

abbrev pub invariant-loop-client : goal.invariant-loop-client
invariant-loop-client l =
    first_failing (flat_map (client_checks (rule_of l.sequence.edition)) (pairs l.slots l.sequence.records))
    ≡ first_failing (flat_map (client_checks (rule_of l.sequence.edition)) (pairs (iter_rest (zip_first l.client-iterator)) (iter_rest (zip_second l.client-iterator))))
