use Rattle.nfs_xdr.proofs.Finding.{once}
use Rattle.nfs_attrs.specs.Encoding.{IsMoment, IsFileType, IsFattr, IsPostOpAttr, IsPreAttr, IsPreOpAttr, IsWcc, IsTimeSetting, IsSattr}
use Rattle.nfs_attrs.specs.Reading.{moment_at, file_type_at, fattr_at, post_op_attr_at, pre_attr_at, pre_op_attr_at, wcc_at, time_setting_at, sattr_at}
use Rattle.nfs_attrs.proofs.Finds.{finds_moment, finds_file_type, finds_fattr, finds_post_op_attr, finds_pre_attr, finds_pre_op_attr, finds_wcc, finds_time_setting, finds_sattr}
use Rattle.nfs_attrs.proofs.laws.attributes_are_encoded_once.Goals as goal

pub returns : goal.returns
returns c = record {
  moment = once IsMoment moment_at finds_moment;
  file_type = once IsFileType file_type_at finds_file_type;
  fattr = once IsFattr fattr_at finds_fattr;
  post_op_attr = once IsPostOpAttr post_op_attr_at finds_post_op_attr;
  pre_attr = once IsPreAttr pre_attr_at finds_pre_attr;
  pre_op_attr = once IsPreOpAttr pre_op_attr_at finds_pre_op_attr;
  wcc = once IsWcc wcc_at finds_wcc;
  time_setting = once IsTimeSetting time_setting_at finds_time_setting;
  sattr = once IsSattr sattr_at finds_sattr;
}
