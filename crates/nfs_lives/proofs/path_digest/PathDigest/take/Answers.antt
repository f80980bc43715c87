use Rattle.std.proofs.Common.{sym, ap, ◌∙◌}
use Rattle.std.specs.Prelude.{option_map}
use Rattle.nfs_lives.specs.Rows.{row_seen}
use Rattle.nfs_lives.proofs.Fed.{taken_row, taken_none}
use Rattle.nfs_lives.proofs.path_digest.PathDigest.take.Goals as goal

pub returns-in-Some : goal.returns-in-Some
returns-in-Some c = λ lines h.
    taken_row c.args.self.now.digest c.feed.new.digest lines c.args.line.now (row_seen c.in-Some.row)
    (sym c.read_row.ensures ∙ ap (option_map row_seen) c.in-Some.is) c.feed.ensures h

pub returns-in_default : goal.returns-in_default
returns-in_default c = λ lines h.
    taken_none c.args.self.now.digest lines c.args.line.now (sym c.read_row.ensures ∙ ap (option_map row_seen) c.in_default.is) h
