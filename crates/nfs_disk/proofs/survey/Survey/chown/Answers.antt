use Rattle.std.proofs.Common.{◌≡◌, length, rules}
use Rattle.nfs_disk.specs.Surveys.{owned_by}
use Rattle.nfs_disk.proofs.Owning.{all_done, one_more}
use Rattle.nfs_disk.proofs.survey.Survey.chown.Goals as goal

pub loop-found-preserved : goal.loop-found-preserved
loop-found-preserved c =
    let found = c.args.self.now.found in
    let begins : c.deref_mut-found-items.result.now ≡ found.items = search rules in
    one_more (owned_by c.args.uid c.args.gid) found.items c.deref_mut-found-items.result.now c.loop-found.found-items c.loop-found.found-index _ begins c.loop-found-test.true c.loop-found.invariant

pub returns-clause-found : goal.returns-clause-found
returns-clause-found c =
    let found = c.args.self.now.found in
    let begins : c.deref_mut-found-items.result.now ≡ found.items = search rules in
    let long : length found.items ≡ found.len = search rules in
    all_done (owned_by c.args.uid c.args.gid) found.items c.deref_mut-found-items.result.now c.loop-found.found-items c.loop-found.found-index found.len begins long c.loop-found-test.false c.loop-found.invariant
