use Rattle.std.proofs.Common.{◌≡◌, ◌∷◌, ◌++◌, Ok, rules, subst}
use Rattle.nfs_load.specs.Descriptions.{LineDone}
use Rattle.nfs_load.specs.Loadings.{SoFar, number_after}
use Rattle.nfs_load.proofs.loading.Loading.take_file.Goals as goal

pub returns-in-Ok : goal.returns-in-Ok
returns-in-Ok c =
    let count : c.saturating_add-self-inside.result ≡ number_after c.args.self.now.count = search rules in
    λ digits encodes. (count, subst (λ (s : SoFar). LineDone s.described (c.args.begin.now ++ 32 ∷ digits) (Ok tt) c.take_file_line.new.described) c.self.view_is (c.in-Ok.ensures.done digits encodes))
