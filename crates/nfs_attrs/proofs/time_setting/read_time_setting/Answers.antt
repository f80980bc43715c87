use Rattle.std.proofs.Common.{rules, sym, ◌∙◌}
use Rattle.nfs_xdr.specs.Reading.{Gives}
use Rattle.nfs_attrs.specs.declared.time_setting.TimeSetting.{TimeSetting}
use Rattle.nfs_attrs.specs.Encoding.{IsTimeSetting}
use Rattle.nfs_attrs.specs.Reading.{time_setting_at}
use Rattle.nfs_attrs.proofs.Finds.{found_there, none_there, finds_time_setting}
use Rattle.nfs_attrs.proofs.time_setting.read_time_setting.Goals as goal

pub returns-in_err-setting-clause-reads : goal.returns-in_err-setting-clause-reads
returns-in_err-setting-clause-reads c =
    let gives : Gives (λ (x : TimeSetting). x) c.args.input.now c.args.input.now c.from_residual.result (time_setting_at c.args.input.now) = search rules in
    none_there IsTimeSetting time_setting_at c.args.input.now c.from_residual.result finds_time_setting c.from_residual.ensures.0 gives

pub returns-clause-reads : goal.returns-clause-reads
returns-clause-reads c =
    found_there IsTimeSetting time_setting_at c.rest.result.now c.args.input.now c.in_ok-setting.setting c.in_ok-setting.rest finds_time_setting c.rest.ensures.bytes c.rest.ensures.all (sym c.time_setting_of.ensures ∙ c.in_ok-setting.was)
