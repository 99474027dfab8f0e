-- `playback::Playback::matched` meets its contract.
use mathlib.Core.Path.{◌≡◌}
use borrow.Author.Rules.{rules}
use lib.ListN.{length}
use Rattle.playback.proofs.Answering.{matched, matched_within}
use Rattle.playback.proofs.Playback.matched.Goals as goal

pub returns-clause-number : goal.returns-clause-number
returns-clause-number c = let a = c.args in matched a.self.now a.sequence.now a.slot a.reply _ _ c.left.ensures c.find.ensures

pub returns-clause-within : goal.returns-clause-within
returns-clause-within c =
    let a = c.args in
    let n : length a.self.now.commands ≡ 64 = search rules in
    matched_within a.self.now a.sequence.now a.slot a.reply _ _ c.left.ensures c.find.ensures n
