use Rattle.nfs_words.proofs.Texts.{puts_then}
use Rattle.nfs_words.proofs.text.Text.put_field.Goals as goal

pub returns : goal.returns
returns c = puts_then _ _ _ _ _ c.put.ensures c.put_number.ensures
