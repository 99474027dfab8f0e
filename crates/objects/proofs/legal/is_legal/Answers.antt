-- `objects::legal::is_legal` meets its contract: its result is what the definition makes of what the callees return.
use Rattle.std.proofs.Common.{rules, ◌≡◌, nat_eq}
use borrow.Author.Tests.{tests}
use Rattle.std.proofs.lemmas.Iterator.{YieldsList-from_slice}
use Rattle.std.proofs.lemmas.Iterator.Adapters.{YieldsList-from_skip}
use Rattle.std.proofs.lemmas.Iterator.Search.{all_from_yields_List}
use Rattle.objects.specs.Objects.{legal, blank_from}
use Rattle.objects.proofs.legal.is_legal.Goals as goal

pub returns : goal.returns
unfolding legal
returns c =
    let o = c.args.object.now in
    let p = c.parts_of-parts.result in
    let version : c.all.result ≡ blank_from p.version o.version =
    all_from_yields_List (λ x. nat_eq x 0) _ _ _ c.all.ensures.ran (YieldsList-from_skip p.version (YieldsList-from_slice o.version cc) cc) (λ x b q k. search (rules, tests)) in
    let configuration : c.all-2.result ≡ blank_from p.configuration o.configuration =
    all_from_yields_List (λ x. nat_eq x 0) _ _ _ c.all-2.ensures.ran (YieldsList-from_skip p.configuration (YieldsList-from_slice o.configuration cc) cc) (λ x b q k. search (rules, tests)) in
    let list : c.all-3.result ≡ blank_from p.list o.list =
    all_from_yields_List (λ x. nat_eq x 0) _ _ _ c.all-3.ensures.ran (YieldsList-from_skip p.list (YieldsList-from_slice o.list cc) cc) (λ x b q k. search (rules, tests)) in
    rw (version, configuration, list, c.kind_right.ensures, c.parts_of-parts.ensures)
