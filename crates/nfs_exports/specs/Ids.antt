-- By which ids a caller is judged (exports(5), "User ID Mapping").
use Rattle.std.specs.Prelude.{ℕ, List, [], map, nat_eq, if◌then◌else◌}
use Rattle.nfs_rpc.specs.AuthSys.{Credential}
use Rattle.nfs_exports.specs.declared.options.Options.{Options}
use Rattle.nfs_exports.specs.declared.options.Squash.{Squash}
use Rattle.nfs_exports.specs.declared.options.Squash.TheVariants.{No, Root, All}

-- a user, its group, and more groups that it is in
pub record Ids : Type 0 where
  pub uid : ℕ
  pub gid : ℕ
  pub gids : List ℕ

-- the anonymous id in place of 0
abbrev pub unless_root : ℕ → ℕ → ℕ
unless_root anonymous id = if nat_eq id 0 then anonymous else id

abbrev pub squash_as : Squash → Options → Credential → Ids
-- nobody's ids are mapped
squash_as No options cred = record { uid = cred.uid; gid = cred.gid; gids = cred.gids }
-- uid 0 and gid 0, wherever it stands
squash_as Root options cred = record {
  uid = unless_root options.anonuid cred.uid;
  gid = unless_root options.anongid cred.gid;
  gids = map (unless_root options.anongid) cred.gids;
}
-- everybody's, and no more groups are left
squash_as All options cred = record { uid = options.anonuid; gid = options.anongid; gids = [] }

-- the ids that the options leave to a caller
abbrev pub squash : Options → Credential → Ids
squash options cred = squash_as options.squash options cred
