use Rattle.std.proofs.Common.{◌≡◌}
use Rattle.nfs_text.specs.Chunks.{chunks, chunks_left}
use Rattle.nfs_exports.specs.Settings.{nothing, with_words}
use Rattle.nfs_exports.proofs.options.parse_options.Given as goal

abbrev pub invariant-loop-word : goal.invariant-loop-word
invariant-loop-word l = with_words l.settings (chunks_left l.word-iterator) ≡ with_words nothing (chunks 44 l.text)
