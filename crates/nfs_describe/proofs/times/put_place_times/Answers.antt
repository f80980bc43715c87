use Rattle.std.proofs.Common.{◌≡◌, rules}
use Rattle.nfs_describe.specs.Lines.{path_text}
use Rattle.nfs_describe.specs.Texts.{file_times, place_times}
use Rattle.nfs_describe.proofs.Outputs.{takes_as}
use Rattle.nfs_describe.proofs.times.put_place_times.Goals as goal

pub returns-in-Some : goal.returns-in-Some
returns-in-Some g c =
    let text = file_times (path_text c.args.form c.as_slice.result.now) c.in-Some.attributes in
    let is : text ≡ place_times c.args.form c.args.tree.now c.args.place.now = search rules in
    takes_as g.O.Output.has c.args.out.now c.put_file_times.new.out c.put_file_times.result text _ is c.put_file_times.ensures
