use Rattle.std.proofs.Common.{ℕ, Some, subst}
use Rattle.std.specs.Prelude.{Ok}
use Rattle.nfs_args.specs.Results.{IsCommitted, committed_text}
use Rattle.nfs_args.specs.declared.answer.NfsAnswer.TheVariants as answer
use Rattle.nfs_attrs.specs.Encoding.{IsWcc}
use Rattle.nfs_attrs.specs.declared.wcc.Wcc.{Wcc}
use Rattle.nfs_procs.proofs.Encoded.{granted_encoded}
use Rattle.nfs_procs.specs.Doing.{no_change}
use Rattle.nfs_procs.specs.Performing.{AppendsAnswer}
use Rattle.nfs_xdr.proofs.Writing.{appends_then}
use Rattle.nfs_procs.proofs.commit.write_granted.Goals as goal

pub returns : goal.returns
returns c =
    let shown : Wcc → ℕ → Type 0 = λ file verifier. AppendsAnswer (answer.Commit (Ok (record { file = file; verifier = verifier }))) c.args.out.now c.write_committed.new.out in
    subst (shown (no_change (Some c.args.file.now))) c.verifier_of.ensures (subst (λ file. shown file c.verifier_of.result) c.change.ensures (record {
      text = appends_then _ _ _ _ _ c.u32.ensures.text c.write_committed.ensures.text;
      encoded = granted_encoded answer.Commit IsCommitted IsWcc committed_text _ c.write_committed.ensures.encoded;
    }))
