use Rattle.std.proofs.Common.{◌∙◌}
use Rattle.std.proofs.lemmas.Bool.Decides.{not_from_Decides}
use Rattle.nfs_conditions.proofs.Names.{no_entry, its_entry}
use Rattle.nfs_conditions.proofs.entries.entry.Goals as goal

pub returns-then-not-is_name : goal.returns-then-not-is_name
returns-then-not-is_name c = no_entry c.args.tree.now c.law.ensures c.args.dir.0 c.args.name.now (not_from_Decides c.is_name.result c.is_name.ensures c.if-not-is_name.true)

pub returns : goal.returns
returns c = c.lookup.ensures ∙ its_entry c.args.dir.0 c.args.name.now (c.is_name.ensures.0 c.if-not-is_name.false) c.args.tree.now
