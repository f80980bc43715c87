use Rattle.nfs_attrs.proofs.Finds.{finds_moment, finds_file_type, finds_fattr, finds_post_op_attr, finds_pre_attr, finds_pre_op_attr, finds_wcc, finds_time_setting, finds_sattr}
use Rattle.nfs_attrs.proofs.laws.attributes_are_found.Goals as goal

pub returns : goal.returns
returns c = record {
  moment = finds_moment;
  file_type = finds_file_type;
  fattr = finds_fattr;
  post_op_attr = finds_post_op_attr;
  pre_attr = finds_pre_attr;
  pre_op_attr = finds_pre_op_attr;
  wcc = finds_wcc;
  time_setting = finds_time_setting;
  sattr = finds_sattr;
}
