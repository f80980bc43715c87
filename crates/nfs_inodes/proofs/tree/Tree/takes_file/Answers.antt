use Rattle.std.proofs.Common.{◌<◌, ◌≤◌, ap, subst, ◌∙◌}
use Rattle.std.proofs.lemmas.Bool.Decides.{Decides-like}
use Rattle.nfs_inodes.specs.declared.limits.Limits.{Limits}
use Rattle.nfs_inodes.specs.Tree.{Tree}
use Rattle.nfs_inodes.proofs.tree.Tree.takes_file.Goals as goal

pub returns : goal.returns
returns c = Decides-like c.takes_entry.result
    (λ entry. record {
      entry = entry;
      number = subst (λ n. n < 18446744073709551615) (c.next.ensures ∙ ap (λ (t : Tree). t.next) c.self.view_is) c.if-next-ge18446744073709551615.false;
      room = c.has_room.ensures.0 c.if-not-has_room.false;
      large = subst (λ (l : Limits). c.args.size ≤ l.file_size) c.limits.ensures c.if-size-limits.false;
    })
    (λ takes. takes.entry)
    c.takes_entry.ensures
