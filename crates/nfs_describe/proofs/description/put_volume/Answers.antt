use Rattle.std.proofs.Common.{◌≡◌, ◌++◌, [], slice_get, Some, sym, ap, ◌∙◌, rules}
use Rattle.std.specs.List.{flat_map}
use Rattle.nfs_inodes.specs.Reading.{attributes_at}
use Rattle.nfs_inodes.specs.Tree.{Volume, on_some}
use Rattle.nfs_inodes.specs.Views.{volume_seen}
use Rattle.nfs_describe.specs.Lines.{export_line}
use Rattle.nfs_describe.specs.Texts.{files_text, place_times, root_text, lent, volume_text}
use Rattle.nfs_describe.proofs.Outputs.{takes_as, takes_last, takes_then}
use Rattle.nfs_describe.proofs.description.put_volume.Goals as goal

pub returns : goal.returns
returns g c =
    let has = g.O.Output.has in
    let d = c.args.described in
    let v = volume_seen c.in-Some.volume in
    let root = root_text v (attributes_at d.tree.now v.root) in
    let exports = flat_map export_line c.patterns.result.now in
    let files = files_text d.form d.tree.now [] c.args.walk.now in
    let times = flat_map (place_times d.form d.tree.now) (lent c.as_slice.result.now) in
    let here : slice_get d.tree.now.volumes c.args.place ≡ Some v = search rules in
    let parts : ((root ++ exports) ++ files) ++ times ≡ volume_text d.form d.tree.now d.table.now c.args.place v c.args.walk.now = search rules in
    takes_as has c.args.out.now c.put_times.new.out c.put_times.result (((root ++ exports) ++ files) ++ times) _
    (parts ∙ ap (λ o. on_some o [] (λ (u : Volume). volume_text d.form d.tree.now d.table.now c.args.place u c.args.walk.now)) (sym here))
    (takes_last has c.args.out.now c.put_files.new.out c.put_times.new.out c.put_times.result ((root ++ exports) ++ files) times
    (takes_then has c.args.out.now c.put_exports.new.out c.put_files.new.out (root ++ exports) files
    (takes_then has c.args.out.now c.put_root.new.out c.put_exports.new.out root exports c.in_ok-put_root.ensures c.in_ok-put_exports.ensures)
    c.in_ok-firsts.ensures.written)
    c.put_times.ensures)
