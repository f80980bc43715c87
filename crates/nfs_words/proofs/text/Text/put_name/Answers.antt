use Rattle.nfs_words.specs.Texts.{name_byte}
use Rattle.nfs_words.proofs.Texts.{puts_more}
use Rattle.nfs_words.proofs.text.Text.put_name.Goals as goal

pub loop-byte-preserved : goal.loop-byte-preserved
loop-byte-preserved c = puts_more name_byte c.args.name.now c.loop-byte.byte-index c.args.self.now _ _ c.loop-byte-test.true c.loop-byte.invariant c.put_byte.ensures
