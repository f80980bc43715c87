use Rattle.std.proofs.Common.{refl}
use Rattle.std.specs.Fmt.{digits}
use Rattle.nfs_mount.proofs.examples.example_mounts.Goals as goal

pub returns : goal.returns
unfolding digits
returns c = record {
  mounted = refl;
  no_such_path = refl;
  another_host = refl;
  unmounted = refl;
  all_unmounted = refl;
  oldest = refl;
  none_new = refl;
  granted = refl;
  denied = refl;
  unknown = refl;
  long = refl;
  root = refl;
  status = refl;
  dump = refl;
  export = refl;
}
