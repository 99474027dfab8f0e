-- `master::Master::reply`: an answer that matches none leaves the master.
use Rattle.std.proofs.Common.{rules}
use Rattle.master.proofs.Reading.{unanswered}
use Rattle.master.proofs.Master.reply.Goals as goal

pub returns-in_err-answer-clause-unmatched : goal.returns-in_err-answer-clause-unmatched
returns-in_err-answer-clause-unmatched c =
    let same = unanswered _ _ _ _ c.in_err-answer.field-0.0 c.answer.new.self c.in_err-answer.ensures in
    search rules
