use Rattle.std.proofs.Common.{◌∷◌, ◌++◌, Some, Err, subst, sym}
use Rattle.nfs_load.specs.declared.cause.Cause.TheVariants.{NoServer}
use Rattle.nfs_load.specs.declared.refusal.Refusal.TheVariants.{Fault}
use Rattle.nfs_load.specs.Descriptions.{LineDone}
use Rattle.nfs_load.proofs.FileLines.{goes_on, no_server}
use Rattle.nfs_load.proofs.loading.take_file_line.Goals as goal

pub returns-in-Some-clause-done : goal.returns-in-Some-clause-done
returns-in-Some-clause-done c = λ digits encodes. subst (λ old. LineDone old (c.args.begin.now ++ 32 ∷ digits) c.take_file_with.result (Some c.take_file_with.new.loaded)) (sym c.in-Some.is)
    (goes_on c.args.begin.now digits c.args.content c.file_fields.result c.in-Some.loaded c.take_file_with.result c.take_file_with.new.loaded c.requires.begins c.file_fields.ensures encodes
    (c.take_file_with.ensures.done digits encodes))

pub returns-in-None-clause-done : goal.returns-in-None-clause-done
returns-in-None-clause-done c = λ digits encodes. subst (λ old. LineDone old (c.args.begin.now ++ 32 ∷ digits) (Err (Fault NoServer)) c.args.described.now) (sym c.in-None.is)
    (no_server c.args.begin.now digits c.args.content c.args.described.now c.requires.begins encodes)
