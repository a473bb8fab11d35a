use Rattle.book.proofs.Outcomes.{handed_on, posted, posted_already, posting_refused}
use Rattle.book.proofs.book.Book.post.Goals as goal

pub returns-in_err-dated-clause-is : goal.returns-in_err-dated-clause-is
returns-in_err-dated-clause-is c =
    λ s t opened. handed_on c.from_residual.result _ c.from_residual.ensures.0
    c.from_residual.ensures.1 (posting_refused c.self.view_is _ _ _ s t opened
    c.in_err-dated.ensures.refused)

pub returns-clause-is : goal.returns-clause-is
returns-clause-is c =
    λ s t opened. posted c.self.view_is _ _ _ s t opened c.in_ok-dated.ensures.refused
    c.in_ok-dated.ensures.place c.get.ensures c.if-is_some.ensures c.in_ok-dated.ensures.made
    c.self.invariant.room c.store.ensures

pub returns-then-is_some-clause-is : goal.returns-then-is_some-clause-is
returns-then-is_some-clause-is c =
    λ s t opened. posted_already c.self.view_is _ _ _ s t opened c.in_ok-dated.ensures.refused
    c.in_ok-dated.ensures.place c.get.ensures c.if-is_some.ensures
