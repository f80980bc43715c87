use Rattle.std.proofs.Common.{refl, sym, ◌∙◌}
use Rattle.nfs_entries.proofs.Cases.{flipped}
use Rattle.nfs_entries.proofs.Keys.{keyed, unkeyed}
use Rattle.nfs_entries.proofs.directory_entries.row_named.Goals as goal

pub returns-in-Some-clause-found : goal.returns-in-Some-clause-found
returns-in-Some-clause-found c = record {
  row = (c.in-Some.field-0-1.now, c.in-Some.kept.now);
  at_row = c.in-Some.ensures.entry;
  named = flipped c.in-Some.field-0-1.now c.args.name.now ∙ keyed _ c.args.rows.now.entries _ (sym c.in-Some.ensures.key);
  kept_is = refl;
}

pub returns-in-None-clause-none : goal.returns-in-None-clause-none
returns-in-None-clause-none c = λ i r at. flipped r.0 c.args.name.now ∙ unkeyed _ c.args.rows.now.entries (sym c.in-None.ensures.key) i r at
