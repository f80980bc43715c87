use Rattle.std.proofs.Common.{[], ◌∙◌}
use Rattle.std.proofs.lemmas.Result.{on_err_weaker, on_ok_weaker}
use Rattle.nfs_saving.proofs.Saved.{described, saved, tried}
use Rattle.nfs_saving.proofs.saving.save_to.Goals as goal

pub returns-clause-saved : goal.returns-clause-saved
returns-clause-saved g c =
    let named = g.F.SavedFile.named in
    let server = c.args.server.now in
    let written = c.in_ok-describe_server.ensures.written in
    let describes = described c.args.key server c.in_ok-key.key written.0 c.in_ok-key.ensures written.1 in
    let same = c.describe_server.ensures.kept ∙ c.begin.ensures.kept in
    on_ok_weaker c.replace.result (λ replaced. (
      written.0,
      saved c.args.key server written.0 (named c.args.file.now) (named c.describe_server.new.file) (named c.replace.new.file) describes same
          (replaced written.0 (written.2 [] c.in_ok-part.ensures.empty)),
    )) c.replace.ensures.replaced

pub returns-clause-refused : goal.returns-clause-refused
returns-clause-refused g c =
    let named = g.F.SavedFile.named in
    let server = c.args.server.now in
    let written = c.in_ok-describe_server.ensures.written in
    let describes = described c.args.key server c.in_ok-key.key written.0 c.in_ok-key.ensures written.1 in
    let same = c.describe_server.ensures.kept ∙ c.begin.ensures.kept in
    on_err_weaker c.replace.result
    (λ refused. tried c.args.key server written.0 (named c.args.file.now) (named c.describe_server.new.file) (named c.replace.new.file) describes same
    (refused written.0 (written.2 [] c.in_ok-part.ensures.empty))) c.replace.ensures.refused
