use Rattle.nfs_xdr.proofs.Finding.{once}
use Rattle.nfs_args.specs.Encoding.{IsArgsOf, IsMountArgsOf}
use Rattle.nfs_args.specs.Reading.{args_at, mount_args_at}
use Rattle.nfs_args.proofs.Finds.{finds_args, finds_mount_args}
use Rattle.nfs_args.proofs.laws.arguments_are_found.Goals as goal

pub returns : goal.returns
returns c = record {
  nfs = finds_args;
  nfs_once = λ p. once (IsArgsOf p) (args_at p) (finds_args p);
  mount = finds_mount_args;
  mount_once = λ p. once (IsMountArgsOf p) (mount_args_at p) (finds_mount_args p);
}
