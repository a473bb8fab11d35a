use Rattle.book.proofs.LateCharges.{charge_refused, charged, charged_already, no_room_to_charge}
use Rattle.book.proofs.Outcomes.{handed_on}
use Rattle.book.proofs.book.Book.charge_late.Goals as goal

pub returns-then-room-eq0-clause-is : goal.returns-then-room-eq0-clause-is
returns-then-room-eq0-clause-is c =
    λ s t opened. no_room_to_charge c.self.view_is _ s t opened c.room.ensures c.if-room-eq0.true

pub returns-in_err-line-clause-is : goal.returns-in_err-line-clause-is
returns-in_err-line-clause-is c =
    λ s t opened. handed_on c.from_residual.result _ c.from_residual.ensures.0
    c.from_residual.ensures.1 (charge_refused c.self.view_is _ s t opened c.room.ensures
    c.if-room-eq0.false (rw c.all.ensures at c.in_err-line.ensures))

pub returns-then-number-self-clause-is : goal.returns-then-number-self-clause-is
returns-then-number-self-clause-is c =
    λ s t opened. charged_already c.self.view_is _ s t opened c.room.ensures c.if-room-eq0.false
    (rw c.all.ensures at c.in_ok-line.ensures) c.if-number-self.true

pub returns-clause-is : goal.returns-clause-is
returns-clause-is c =
    λ s t opened. charged c.self.view_is _ s t opened c.room.ensures c.if-room-eq0.false
    (rw c.all.ensures at c.in_ok-line.ensures) c.if-number-self.false c.append_charge.ensures
