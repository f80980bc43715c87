use Rattle.std.proofs.Common.{None, ◌≡◌, List, ℕ, [], ◌∷◌, ◌++◌, length, sym, subst, ap, ◌∙◌}
use Rattle.nfs_handles.specs.declared.number.Number.{Number}
use Rattle.nfs_inodes.specs.Tree.{Tree}
use Rattle.nfs_inodes.specs.declared.stored_volume.StoredVolume.{StoredVolume}
use Rattle.std.specs.Prelude.{if◌then◌else◌}
use Rattle.nfs_inodes.specs.Tree.{Directory, is_directory}
use Rattle.nfs_inodes.specs.Changes.{Makes, after_add_volume, new_file}
use Rattle.nfs_inodes.specs.Conditions.{MayAddVolume}
use Rattle.nfs_inodes.specs.Counts.{Agrees, CountedVolume, tree_in}
use Rattle.nfs_inodes.specs.Storage.{counted_tree_of, file_of, kind_of, counted_volume_of}
use Rattle.nfs_inodes.proofs.Steps.{unchanged, stored_agree_after_add_volume, stored_view_after_add_volume, may_found, bounded, root_file}
use Rattle.nfs_inodes.proofs.tree.Tree.add_volume.Goals as goal

abbrev the_share : goal.After-append → StoredVolume
the_share c = record { path = c.in_ok-path.path; max_bytes = c.args.max_bytes; max_files = c.args.max_files; root = c.in_ok-root.root; bytes = 0; files = 1 }

may : (c : goal.After-append) → MayAddVolume (tree_in (counted_tree_of c.self.inside.limits c.self.inside.files c.self.inside.volumes.items)) c.in_ok-path.path.items c.args.max_bytes c.args.max_files
may c = may_found c.self.inside.files c.self.inside.volumes.items c.args.max_bytes c.args.max_files c.in_ok-path.path.items c.args.path.now c.args.self.now c.self.view_is c.in_ok-path.ensures c.requires

its_root : (c : goal.After-append) → file_of 0 c.new-stored_file.result ≡ new_file (length c.self.inside.volumes.items) (Directory c.self.inside.files.next 3 []) c.args.given.now None 0 c.args.now
its_root c = root_file (file_of 0 c.new-stored_file.result) c.len.result (length c.self.inside.volumes.items) c.new-parent.result.0 c.self.inside.files.next c.args.given.now c.args.now (kind_of c.in_ok-node.node)
    (c.len.ensures ∙ c.reserve.new.self.ok.0 ∙ ap length c.reserve.ensures.items) (ap (λ (n : Number). n.0) c.new-parent.ensures ∙ c.next.ensures) c.in_ok-node.ensures c.new-stored_file.ensures.file

its_links : (c : goal.After-append) → c.new-stored_file.result.nlink ≡ 2
its_links c = c.new-stored_file.ensures.nlink ∙ ap (λ k. if is_directory k then 2 else 1) c.in_ok-node.ensures

is_counted : (c : goal.After-append) → counted_volume_of (the_share c) ≡ record { volume = record { path = c.in_ok-path.path.items; max_bytes = c.args.max_bytes; max_files = c.args.max_files; root = c.self.inside.files.next }; bytes = 0; files = 1 }
is_counted c = ap (counted_at c.in_ok-path.path.items c.args.max_bytes c.args.max_files) c.in_ok-root.ensures.number
  where
    counted_at : List ℕ → ℕ → ℕ → ℕ → CountedVolume
    counted_at path max_bytes max_files root = record { volume = record { path = path; max_bytes = max_bytes; max_files = max_files; root = root }; bytes = 0; files = 1 }

pub invariant_of-self-in_err-root : goal.invariant_of-self-in_err-root
invariant_of-self-in_err-root c = unchanged c.self.inside.files c.add.new.self c.self.inside.volumes.items c.reserve.new.self.items c.in_err-root.ensures.err c.reserve.ensures.items c.self.invariant

pub invariant_of-self-2 : goal.invariant_of-self-2
invariant_of-self-2 c = subst (λ (n : List StoredVolume). Agrees (counted_tree_of c.self.inside.limits c.add.new.self n)) (sym (c.append.ensures ∙ ap (λ l. l ++ the_share c ∷ []) c.reserve.ensures.items))
    (stored_agree_after_add_volume c.self.inside.files c.self.inside.volumes.items c.in_ok-path.path.items c.args.max_bytes c.args.max_files c.args.given.now c.args.now c.self.invariant (may c)
    c.new-stored_file.result (its_root c) (its_links c) (bounded c.ranges.max_bytes) (bounded c.ranges.max_files) c.add.new.self c.in_ok-root.ensures.adds (the_share c) (is_counted c))

pub returns-clause-ok : goal.returns-clause-ok
returns-clause-ok c =
    subst (λ (n : List StoredVolume). Makes c.args.self.now (λ tag. after_add_volume c.args.self.now c.args.path.now c.args.max_bytes c.args.max_files c.args.given.now tag c.args.now) (tree_in (counted_tree_of c.self.inside.limits c.add.new.self n))) (sym (c.append.ensures ∙ ap (λ l. l ++ the_share c ∷ []) c.reserve.ensures.items))
    (subst (λ (path : List ℕ). Makes c.args.self.now (λ tag. after_add_volume c.args.self.now path c.args.max_bytes c.args.max_files c.args.given.now tag c.args.now) (tree_in (counted_tree_of c.self.inside.limits c.add.new.self (c.self.inside.volumes.items ++ the_share c ∷ [])))) c.in_ok-path.ensures
    (subst (λ (t : Tree). Makes t (λ tag. after_add_volume t c.in_ok-path.path.items c.args.max_bytes c.args.max_files c.args.given.now tag c.args.now) (tree_in (counted_tree_of c.self.inside.limits c.add.new.self (c.self.inside.volumes.items ++ the_share c ∷ [])))) c.self.view_is
    (stored_view_after_add_volume c.self.inside.files c.self.inside.volumes.items c.in_ok-path.path.items c.args.max_bytes c.args.max_files c.args.given.now c.args.now c.self.invariant (may c)
    c.new-stored_file.result (its_root c) (its_links c) (bounded c.ranges.max_bytes) (bounded c.ranges.max_files) c.add.new.self c.in_ok-root.ensures.adds (the_share c) (is_counted c))))
