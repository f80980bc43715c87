use Rattle.std.proofs.Common.{refl, subst}
use Rattle.std.specs.Int.{w32, to_be_bytes}
use Rattle.nfs_args.specs.Results.{IsEmpty, empty_text}
use Rattle.nfs_args.specs.declared.answer.NfsAnswer.TheVariants as answer
use Rattle.nfs_attrs.specs.Encoding.{IsFattr}
use Rattle.nfs_procs.proofs.Encoded.{denied_encoded, failed_encoded}
use Rattle.nfs_xdr.specs.Written.{Appends}
use Rattle.nfs_procs.proofs.getattr.write_denied.Goals as goal

pub returns : goal.returns
returns c = record {
  text = subst (λ n. Appends (to_be_bytes w32 n) c.args.out.now c.u32.new.self) c.status.ensures c.u32.ensures.text;
  encoded = denied_encoded answer.Getattr IsFattr IsEmpty _ _ (failed_encoded IsEmpty empty_text c.args.rule tt c.status.result tt c.status.ensures refl c.u32.ensures.encoded (record { text_is = refl }));
}
