use Rattle.std.proofs.Common.{refl}
use Rattle.account.proofs.Entered.{opened_already, unopened}
use Rattle.account.proofs.Openings.{opening_refused, opens}
use Rattle.account.proofs.Settlements.{settled_already, settlement_refused}
use Rattle.account.proofs.account.Account.enter.Goals as goal

pub returns-in_err-leap-in-Open-NotOpened : goal.returns-in_err-leap-in-Open-NotOpened
returns-in_err-leap-in-Open-NotOpened g c =
    let arm = c.in-Open-NotOpened in
    opening_refused c.self.view_is arm.is-1 arm.leap
    (record { increase = arm.increase; first = arm.first; last = arm.last }) arm.is-0
    c.from_residual.ensures.0 c.from_residual.ensures.1
    c.in_err-leap-in-Open-NotOpened.ensures.refused

pub returns-in_ok-leap-in-Open-NotOpened : goal.returns-in_ok-leap-in-Open-NotOpened
returns-in_ok-leap-in-Open-NotOpened g c =
    let arm = c.in-Open-NotOpened in
    let told = c.in_ok-leap-in-Open-NotOpened.ensures in
    opens c.self.view_is arm.is-1 arm.leap (record
    { increase = arm.increase; first = arm.first; last = arm.last }) arm.is-0
    told.refused told.leap told.terms c.begin.ensures.is c.begin.ensures.room

pub returns-in-Open-Running : goal.returns-in-Open-Running
returns-in-Open-Running g c =
    opened_already _ c.self.view_is _ (rw c.in-Open-Running.is-1 refl) c.in-Open-Running.is-0

pub returns-in-Open-Settled : goal.returns-in-Open-Settled
returns-in-Open-Settled g c =
    opened_already _ c.self.view_is _ (rw c.in-Open-Settled.is-1 refl) c.in-Open-Settled.is-0

pub returns-in-Post-NotOpened : goal.returns-in-Post-NotOpened
returns-in-Post-NotOpened g c =
    unopened _ c.self.view_is _ c.in-Post-NotOpened.is-1 (rw c.in-Post-NotOpened.is-0 refl)

pub returns-in-Correct-NotOpened : goal.returns-in-Correct-NotOpened
returns-in-Correct-NotOpened g c =
    unopened _ c.self.view_is _ c.in-Correct-NotOpened.is-1 (rw c.in-Correct-NotOpened.is-0 refl)

pub returns-in-Close-NotOpened : goal.returns-in-Close-NotOpened
returns-in-Close-NotOpened g c =
    unopened _ c.self.view_is _ c.in-Close-NotOpened.is-1 (rw c.in-Close-NotOpened.is-0 refl)

pub returns-in-Pay-NotOpened : goal.returns-in-Pay-NotOpened
returns-in-Pay-NotOpened g c =
    unopened _ c.self.view_is _ c.in-Pay-NotOpened.is-1 (rw c.in-Pay-NotOpened.is-0 refl)

pub returns-in-Settle-NotOpened : goal.returns-in-Settle-NotOpened
returns-in-Settle-NotOpened g c =
    unopened _ c.self.view_is _ c.in-Settle-NotOpened.is-1 (rw c.in-Settle-NotOpened.is-0 refl)

pub returns-in_err-settlement-in-Settle-Running : goal.returns-in_err-settlement-in-Settle-Running
returns-in_err-settlement-in-Settle-Running g c =
    let arm = c.in-Settle-Running in
    settlement_refused _ c.self.view_is (rw arm.is-1 refl)
    (record { final_increase = arm.final_increase; interest = arm.interest }) arm.is-0
    c.from_residual-in_err-settlement-in-Settle-Running.ensures.0
    c.from_residual-in_err-settlement-in-Settle-Running.ensures.1
    c.in_err-settlement-in-Settle-Running.ensures.refused

pub returns-in_err-settlement_terms-in-Settle-Settled :
    goal.returns-in_err-settlement_terms-in-Settle-Settled
returns-in_err-settlement_terms-in-Settle-Settled g c =
    let arm = c.in-Settle-Settled in
    settlement_refused _ c.self.view_is (rw arm.is-1 refl)
    (record { final_increase = arm.final_increase; interest = arm.interest }) arm.is-0
    c.from_residual-in_err-settlement_terms-in-Settle-Settled.ensures.0
    c.from_residual-in_err-settlement_terms-in-Settle-Settled.ensures.1
    c.in_err-settlement_terms-in-Settle-Settled.ensures.refused

pub returns-in_ok-settlement_terms-in-Settle-Settled :
    goal.returns-in_ok-settlement_terms-in-Settle-Settled
returns-in_ok-settlement_terms-in-Settle-Settled g c =
    let arm = c.in-Settle-Settled in
    settled_already _ c.self.view_is (rw arm.is-1 refl)
    (record { final_increase = arm.final_increase; interest = arm.interest }) arm.is-0
    c.in_ok-settlement_terms-in-Settle-Settled.ensures.refused (rw arm.is-1 refl)
