use Rattle.std.proofs.Common.{arith}
use Rattle.nfs_source.proofs.OpenLines.{text_length}
use Rattle.nfs_source.proofs.open_line.DecodedLine.len.Goals as goal

pub returns : goal.returns
returns c = omega (arith, text_length c.args.self.now.words.items c.args.self.now.content c.args.self.now.case, c.saturating_mul-digits.ensures, c.len.ensures, c.len-2.ensures, c.saturating_add.ensures, c.saturating_add-2.ensures)
