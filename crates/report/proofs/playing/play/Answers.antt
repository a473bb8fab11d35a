use Rattle.std.proofs.Common.{ap}
use Rattle.report.proofs.Whole.{plays_into}
use Rattle.report.proofs.playing.play.Goals as goal

pub returns-clause-plays : goal.returns-clause-plays
returns-clause-plays c =
    plays_into _ _ _ _ _ (rw c.new-account.ensures c.schedule.ensures)
    (ap (λ a. a.state) c.new-account.ensures) c.in_ok-refusals.ensures.played

pub returns-clause-schedule : goal.returns-clause-schedule
returns-clause-schedule c =
    rw (c.in_ok-refusals.ensures.schedule, c.new-account.ensures) c.schedule.ensures
