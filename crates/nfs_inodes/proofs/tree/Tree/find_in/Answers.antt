use Rattle.std.proofs.Common.{◌≡◌, ℕ, bytes_eq, option_map, List, Some, sym, ap, ◌∙◌}
use Rattle.std.specs.List.{find}
use Rattle.nfs_inodes.specs.Tree.{Entry}
use Rattle.nfs_inodes.specs.Reading.{number_under, listing}
use Rattle.nfs_inodes.specs.Views.{kind_seen}
use Rattle.nfs_inodes.proofs.Lookups.{found_shown}
use Rattle.nfs_inodes.proofs.Readers.{listed_seen}
use Rattle.nfs_inodes.proofs.tree.Tree.find_in.Goals as goal

pub unreachable-requires : goal.unreachable-requires
unreachable-requires c =
    let t = c.args.self.now in
    let dir = c.args.dir.now in
    let is : number_under t dir.attributes.fileid c.args.name.now ≡ Some c.in-Some.number.0 =
    ap (λ (l : List Entry). option_map (λ (e : Entry). e.number) (find (λ (e : Entry). bytes_eq e.name c.args.name.now) l))
    (sym (listed_seen t dir c.requires) ∙ ap (λ (n : ℕ). listing n (kind_seen dir)) (sym c.number.ensures) ∙ ap (listing c.number.result.0) (sym c.node.ensures))
    ∙ sym c.in-Some.ensures in
    found_shown t c.law.ensures dir.attributes.fileid c.in-Some.number.0 c.args.name.now is c.in-None-view.ensures.none
