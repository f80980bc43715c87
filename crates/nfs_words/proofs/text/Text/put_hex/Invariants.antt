use Rattle.std.proofs.Common.{take}
use Rattle.nfs_words.specs.Texts.{Puts, hex_text}
use Rattle.nfs_words.proofs.text.Text.put_hex.Given as goal

abbrev pub invariant-loop-byte : goal.invariant-loop-byte
invariant-loop-byte l = Puts (hex_text (take l.byte-index l.bytes)) l.fn.self l.self
