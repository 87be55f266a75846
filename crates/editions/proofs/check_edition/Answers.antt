-- `editions::check_edition` meets its contract: the part's number, or the settings'.
use Rattle.std.proofs.Common.{rules, ◌≡◌}
use Rattle.std.specs.declared.result.Result.TheVariants.{Err}
use Rattle.answer.proofs.Answering.{is_row}
use Rattle.editions.proofs.Numbering.{by_part, with_settings_lem}
use Rattle.editions.proofs.check_edition.Goals as goal

pub returns-in_err-check_record : goal.returns-in_err-check_record
returns-in_err-check_record c =
    let a = c.args in
    let is : c.from_residual.result ≡ Err c.in_err-check_record.field-0.0 = search rules in
    rw is (by_part a.edition a.bytes.now a.mounting a.finite c.in_err-check_record.ensures (is_row _))

pub returns : goal.returns
returns c =
    let a = c.args in
    with_settings_lem a.edition a.bytes.now a.mounting a.finite c.in_ok-check_record.ensures c.if-not-edition.false c.settings_at.ensures c.check.ensures
