use Rattle.std.proofs.Common.{◌<◌, ◌≤◌, bytes_eq, ap, subst, ◌∙◌}
use Rattle.std.specs.Prelude.{is_none}
use Rattle.std.proofs.lemmas.Bool.Decides.{Decides-at, Decides-like}
use Rattle.nfs_inodes.specs.declared.limits.Limits.{Limits}
use Rattle.nfs_inodes.specs.Tree.{Volume}
use Rattle.nfs_inodes.specs.Reading.{index_where}
use Rattle.nfs_inodes.proofs.Tests.{unnamed, none_reported}
use Rattle.nfs_inodes.proofs.tree.Tree.may_add_volume.Goals as goal

pub returns : goal.returns
returns c = Decides-at c.is_none.result (is_none (index_where (λ (v : Volume). bytes_eq v.path c.args.path.now) c.args.self.now.volumes))
    (none_reported c.volume_named.result c.is_none.result c.is_none.ensures ∙ ap is_none c.volume_named.ensures)
    (Decides-like (is_none (index_where (λ (v : Volume). bytes_eq v.path c.args.path.now) c.args.self.now.volumes))
    (λ fresh. record {
      few = subst (λ k. k < 64) c.volumes.ensures c.if-volumes-ge-MAX_VOLUMES.false;
      short = c.if-path-gt-MAX_VOLUME_PATH_BYTES.false;
      fresh = fresh;
      number = subst (λ k. k < 18446744073709551615) c.next_number.ensures c.if-next_number-ge18446744073709551615.false;
      bytes = c.if-max_bytes-gt-MAX_VOLUME_BYTES.false;
      files = c.if-max_files-lt1.false;
      many = subst (λ (l : Limits). c.args.max_files ≤ l.files) c.limits.ensures c.if-max_files-limits.false;
    })
    (λ may. may.fresh)
    (unnamed c.args.path.now c.args.self.now.volumes))
