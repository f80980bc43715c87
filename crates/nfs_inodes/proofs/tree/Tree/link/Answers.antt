use Rattle.std.proofs.Common.{List, ℕ, ◌≢◌, refl, sym, subst, ap, ◌∙◌}
use Rattle.std.specs.Prelude.{All}
use Rattle.nfs_inodes.specs.Tree.{Tree, Entry, entries_in}
use Rattle.nfs_inodes.specs.Changes.{after_link}
use Rattle.nfs_inodes.proofs.Steps.{takes_entry, fresh_at, takes_link, stored_agree_after_link, stored_view_after_link, may_link}
use Rattle.nfs_inodes.proofs.tree.Tree.link.Goals as goal

pub link-requires-clause-dir : goal.link-requires-clause-dir
link-requires-clause-dir c = takes_entry c.self.inside.files c.self.inside.volumes.items c.args.dir.0 c.args.name.now c.self.invariant
    (may_link c.self.inside.files c.self.inside.volumes.items c.args.number.0 c.args.dir.0 c.args.name.now c.args.name.now c.args.self.now c.self.view_is refl c.requires).enter

pub link-requires-clause-fresh : goal.link-requires-clause-fresh
link-requires-clause-fresh c = fresh_at c.self.inside.files c.self.inside.volumes.items c.args.self.now c.self.view_is c.args.dir.0 c.in_ok-name.name c.requires.enter.dir c.requires.enter.at_dir.0
    (subst (λ (name : List ℕ). All (λ (e : Entry). e.name ≢ name) (entries_in c.requires.enter.dir.kind)) (sym c.in_ok-name.ensures.bytes) c.requires.enter.fresh)

pub link-requires-clause-file : goal.link-requires-clause-file
link-requires-clause-file c = takes_link c.self.inside.files c.self.inside.volumes.items c.args.number.0 c.args.dir.0 c.args.name.now c.self.invariant
    (may_link c.self.inside.files c.self.inside.volumes.items c.args.number.0 c.args.dir.0 c.args.name.now c.args.name.now c.args.self.now c.self.view_is refl c.requires)

pub invariant_of-self-2 : goal.invariant_of-self-2
invariant_of-self-2 c = stored_agree_after_link c.self.inside.files c.self.inside.volumes.items c.args.number.0 c.args.dir.0 c.in_ok-name.name c.self.invariant
    (may_link c.self.inside.files c.self.inside.volumes.items c.args.number.0 c.args.dir.0 c.in_ok-name.name c.args.name.now c.args.self.now c.self.view_is c.in_ok-name.ensures.bytes c.requires)
    c.args.now c.link.new.files c.in_ok-link.ensures.ok

pub returns-clause-ok : goal.returns-clause-ok
returns-clause-ok c = stored_view_after_link c.self.inside.files c.self.inside.volumes.items c.args.number.0 c.args.dir.0 c.in_ok-name.name c.self.invariant
    (may_link c.self.inside.files c.self.inside.volumes.items c.args.number.0 c.args.dir.0 c.in_ok-name.name c.args.name.now c.args.self.now c.self.view_is c.in_ok-name.ensures.bytes c.requires)
    c.args.now c.link.new.files c.in_ok-link.ensures.ok
    ∙ ap (λ (t : Tree). after_link t c.args.number.0 c.args.dir.0 c.in_ok-name.name c.args.now) c.self.view_is
    ∙ ap (λ name. after_link c.args.self.now c.args.number.0 c.args.dir.0 name c.args.now) c.in_ok-name.ensures.bytes
