use Rattle.std.proofs.Common.{◌≡◌, [], Some, refl, ap, ◌∙◌, rules}
use Rattle.nfs_saving.specs.Saving.{IsDigest}
use Rattle.nfs_saving.proofs.Saved.{described, on_err, saved, tried}
use Rattle.nfs_saving.proofs.saving.save_changed_to.Goals as goal

pub returns-then-eq-clause-digest : goal.returns-then-eq-clause-digest
returns-then-eq-clause-digest g c =
    let server = c.args.server.now in
    let written = c.in_ok-describe_server.ensures.written in
    let digest = c.finish-part.ensures written.0 (written.2 [] (c.new-out.ensures c.in_ok-begin.ensures.empty)) in
    let same : c.args.saved.now ≡ Some c.finish-part.result.1 = search rules in
    record {
      text = written.0;
      describes = described c.args.key server c.in_ok-key.key written.0 c.in_ok-key.ensures written.1;
      digest_is = same ∙ ap Some digest.1;
    }

pub returns-then-eq-clause-done : goal.returns-then-eq-clause-done
returns-then-eq-clause-done g c =
    let server = c.args.server.now in
    let written = c.in_ok-describe_server.ensures.written in
    let digest = c.finish-part.ensures written.0 (written.2 [] (c.new-out.ensures c.in_ok-begin.ensures.empty)) in
    let same : c.args.saved.now ≡ Some c.finish-part.result.1 = search rules in (
      record {
        text = written.0;
        describes = described c.args.key server c.in_ok-key.key written.0 c.in_ok-key.ensures written.1;
        digest_is = same ∙ ap Some digest.1;
      },
      refl,
      c.remove.ensures ∙ c.describe_server.ensures.kept ∙ c.begin.ensures.kept,
    )

pub returns-in_err-replace-clause-refused : goal.returns-in_err-replace-clause-refused
returns-in_err-replace-clause-refused g c =
    let named = g.F.SavedFile.named in
    let server = c.args.server.now in
    let written = c.in_ok-describe_server.ensures.written in
    let digest = c.finish-part.ensures written.0 (written.2 [] (c.new-out.ensures c.in_ok-begin.ensures.empty)) in
    let describes = described c.args.key server c.in_ok-key.key written.0 c.in_ok-key.ensures written.1 in
    on_err c.from_residual-in_err-replace.result _ (
      refl,
      tried c.args.key server written.0 (named c.args.file.now) (named c.describe_server.new.file) (named c.replace.new.file) describes
          (c.describe_server.ensures.kept ∙ c.begin.ensures.kept) (c.in_err-replace.ensures.refused written.0 digest.0),
    )

pub returns-clause-done : goal.returns-clause-done
returns-clause-done g c =
    let named = g.F.SavedFile.named in
    let server = c.args.server.now in
    let written = c.in_ok-describe_server.ensures.written in
    let digest = c.finish-part.ensures written.0 (written.2 [] (c.new-out.ensures c.in_ok-begin.ensures.empty)) in
    let describes = described c.args.key server c.in_ok-key.key written.0 c.in_ok-key.ensures written.1 in (
      written.0,
      saved c.args.key server written.0 (named c.args.file.now) (named c.describe_server.new.file) (named c.replace.new.file) describes
          (c.describe_server.ensures.kept ∙ c.begin.ensures.kept) (c.in_ok-replace.ensures.replaced written.0 digest.0),
      ap Some digest.1,
    )
