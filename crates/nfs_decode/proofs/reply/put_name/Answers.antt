use Rattle.std.proofs.Common.{◌++◌, codes, subst}
use Rattle.nfs_words.specs.Texts.{Puts}
use Rattle.nfs_words.proofs.Texts.{puts_then}
use Rattle.nfs_decode.proofs.reply.put_name.Goals as goal

pub returns : goal.returns
returns c = subst (λ name. Puts (codes "  " ++ name ++ codes ": ") c.args.out.now c.put-3.new.self) c.name_of.ensures
    (puts_then (codes "  " ++ c.name_of.result.now) (codes ": ") _ _ _ (puts_then (codes "  ") c.name_of.result.now _ _ _ c.put.ensures c.put-2.ensures) c.put-3.ensures)
