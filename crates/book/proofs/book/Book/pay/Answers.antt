use Rattle.std.proofs.Common.{refl}
use Rattle.book.proofs.Outcomes.{handed_on}
use Rattle.book.proofs.Payments.{no_room_to_pay, paid, payment_refused}
use Rattle.book.proofs.book.Book.pay.Goals as goal

pub returns-in_err-line-clause-is : goal.returns-in_err-line-clause-is
returns-in_err-line-clause-is c =
    λ s t opened. handed_on c.from_residual.result _ c.from_residual.ensures.0
    c.from_residual.ensures.1 (payment_refused {b = c.args.self.now} refl _ s t opened _
    c.in_err-line.ensures)

pub returns-then-room-eq0-clause-is : goal.returns-then-room-eq0-clause-is
returns-then-room-eq0-clause-is c =
    λ s t opened. no_room_to_pay c.self.view_is _ s t opened c.in_ok-line.ensures refl
    c.room.ensures c.if-room-eq0.true

pub returns-clause-is : goal.returns-clause-is
returns-clause-is c =
    λ s t opened. paid c.self.view_is _ s t opened c.in_ok-line.ensures refl c.room.ensures
    c.if-room-eq0.false c.append.ensures
