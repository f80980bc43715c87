use Rattle.nfs_args.specs.Pages.{IsEntry, entry_text, IsEntryPlus, entry_plus_text}
use Rattle.nfs_args.proofs.Chains.{page_head_written}
use Rattle.nfs_args.proofs.dir_page.write_page_head.Goals as goal

pub returns-clause-entries : goal.returns-clause-entries
returns-clause-entries c = page_head_written IsEntry entry_text _ c.args.verifier c.write_post_op_attr.ensures.encoded c.u64.ensures.encoded

pub returns-clause-entries_plus : goal.returns-clause-entries_plus
returns-clause-entries_plus c = page_head_written IsEntryPlus entry_plus_text _ c.args.verifier c.write_post_op_attr.ensures.encoded c.u64.ensures.encoded
