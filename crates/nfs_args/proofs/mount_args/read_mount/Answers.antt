use Rattle.std.proofs.Common.{subst, ◌∙◌}
use Rattle.nfs_xdr.specs.Reading.{AreBytes}
use Rattle.nfs_args.specs.Encoding.{IsMountArgsOf}
use Rattle.nfs_args.specs.Reading.{mount_args_at}
use Rattle.nfs_args.proofs.Finds.{finds_mount_args, found_there, none_there}
use Rattle.nfs_args.proofs.mount_args.read_mount.Goals as goal

pub returns-in-Ok-clause-read : goal.returns-in-Ok-clause-read
returns-in-Ok-clause-read c =
    found_there (IsMountArgsOf c.args.proc) (mount_args_at c.args.proc) c.new-ahead.result c.args.input c.in-Ok.args c.mount_args_of.new.input (finds_mount_args c.args.proc) (subst AreBytes c.rest.ensures.all c.rest.ensures.bytes) (c.new-ahead.ensures ∙ c.rest.ensures.all) c.in-Ok.ensures

pub returns-in-Err-clause-unreadable : goal.returns-in-Err-clause-unreadable
returns-in-Err-clause-unreadable c is =
    none_there (IsMountArgsOf c.args.proc) (mount_args_at c.args.proc) c.new-ahead.result c.args.input c.in-Err.field-0 (finds_mount_args c.args.proc) (c.new-ahead.ensures ∙ c.rest.ensures.all) c.in-Err.ensures
