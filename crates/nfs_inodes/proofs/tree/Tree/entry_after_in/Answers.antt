use Rattle.std.proofs.Common.{ℕ, ap, ◌∙◌}
use Rattle.nfs_inodes.specs.Reading.{first_after, listing}
use Rattle.nfs_inodes.specs.Views.{kind_seen}
use Rattle.nfs_inodes.proofs.Readers.{listed_seen}
use Rattle.nfs_inodes.proofs.tree.Tree.entry_after_in.Goals as goal

pub returns : goal.returns
returns c = c.after_cookie.ensures ∙ ap (first_after c.args.cookie)
    (ap (listing c.number.result.0) c.node.ensures ∙ ap (λ (n : ℕ). listing n (kind_seen c.args.dir.now)) c.number.ensures ∙ listed_seen c.args.self.now c.args.dir.now c.requires)
