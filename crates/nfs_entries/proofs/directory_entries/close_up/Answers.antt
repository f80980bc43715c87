use Rattle.std.proofs.Common.{rules}
use Rattle.std.proofs.lemmas.Fn.{filter_same}
use Rattle.nfs_entries.specs.Listing.{is_live}
use Rattle.nfs_entries.proofs.directory_entries.close_up.Goals as goal

pub returns-clause-items : goal.returns-clause-items
returns-clause-items c = filter_same _ (is_live c.args.rows.now.entries) _ (λ x b f' k. search rules) _ _ c.retain.ensures.filtered
