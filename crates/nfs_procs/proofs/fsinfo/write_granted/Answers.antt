use Rattle.std.proofs.Common.{subst}
use Rattle.std.specs.Prelude.{Ok}
use Rattle.nfs_args.specs.Results.{IsServerLimits, server_limits_text}
use Rattle.nfs_args.specs.declared.answer.NfsAnswer.TheVariants as answer
use Rattle.nfs_attrs.specs.Encoding.{IsPostOpAttr}
use Rattle.nfs_procs.proofs.Encoded.{granted_encoded}
use Rattle.nfs_procs.specs.Performing.{AppendsAnswer}
use Rattle.nfs_xdr.proofs.Writing.{appends_then}
use Rattle.nfs_procs.proofs.fsinfo.write_granted.Goals as goal

pub returns : goal.returns
returns c = subst (λ value. AppendsAnswer (answer.Fsinfo (Ok value)) c.args.out.now c.write_server_limits.new.out) c.server_limits.ensures (record {
  text = appends_then _ _ _ _ _ c.u32.ensures.text c.write_server_limits.ensures.text;
  encoded = granted_encoded answer.Fsinfo IsServerLimits IsPostOpAttr server_limits_text _ c.write_server_limits.ensures.encoded;
})
