use Rattle.std.proofs.Common.{take}
use Rattle.nfs_words.specs.Texts.{Puts, name_text}
use Rattle.nfs_words.proofs.text.Text.put_name.Given as goal

abbrev pub invariant-loop-byte : goal.invariant-loop-byte
invariant-loop-byte l = Puts (name_text (take l.byte-index l.name)) l.fn.self l.self
