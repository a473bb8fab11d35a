use Rattle.report.proofs.schedule.schedule.Goals as goal

pub returns : goal.returns
returns c = simp (c.on-2.ensures.rider, c.on-2.ensures.below, c.on.ensures.below)
