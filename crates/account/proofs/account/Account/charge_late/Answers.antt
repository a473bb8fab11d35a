use Rattle.std.proofs.Common.{refl}
use Rattle.account.proofs.Entered.{unopened}
use Rattle.account.proofs.account.Account.charge_late.Goals as goal

pub returns-in-NotOpened : goal.returns-in-NotOpened
returns-in-NotOpened g c = unopened _ c.self.view_is _ c.in-NotOpened.is refl
