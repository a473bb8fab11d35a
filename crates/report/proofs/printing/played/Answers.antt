use Rattle.std.proofs.Common.{◌≡◌, ◌++◌, string_bytes}
use Rattle.report.specs.Rows.{refusals_text}
use Rattle.report.proofs.Whole.{charged_is_printed}
use Rattle.report.proofs.printing.played.Goals as goal

pub returns : goal.returns
returns c =
    let first : string_bytes c.write_refusals.new.text ≡ string_bytes c.new-text.result ++
    refusals_text c.in_ok-account.refusals.items = rw
    (← c.deref.ensures.value) c.in_ok-write_refusals.ensures in
    charged_is_printed _ _ (string_bytes c.new-text.result) (string_bytes
    c.write_refusals.new.text) (string_bytes c.write_charges.new.text) _ _ _ _ _
    c.in_ok-account.ensures.plays c.in_ok-account.ensures.schedule c.new-text.ensures.bytes first
    c.in_ok-write_charges.ensures.rows c.in_ok-write_charges.ensures.after
    c.in_ok-write_account.ensures
