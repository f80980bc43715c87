use Rattle.nfs_exports.proofs.Lists.{lists_pushed, lists_same, on_err}
use Rattle.nfs_exports.proofs.export_table.push_to.Goals as goal

pub returns-in_err-push-clause-err : goal.returns-in_err-push-clause-err
returns-in_err-push-clause-err c = on_err _ _ (lists_same _ _ _ _ c.requires c.index_mut.ensures.value c.in_err-push.ensures.items)

pub returns-clause-ok : goal.returns-clause-ok
returns-clause-ok c = lists_pushed _ _ _ _ _ c.requires c.index_mut.ensures.value c.in_ok-push.ensures.items
