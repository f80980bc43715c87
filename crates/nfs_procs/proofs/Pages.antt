-- Entries of a directory, after what stands in front of them.
use Rattle.std.proofs.Common.{◌++◌, List}
use Rattle.std.specs.Int.{w32, to_be_bytes}
use Rattle.std.specs.Prelude.{Ok}
use Rattle.nfs_args.specs.Chains.{AreEncoded, links_text}
use Rattle.nfs_args.specs.Pages.{BeginsPage, IsEntry, IsEntryPlus, IsPage, IsPagePlus, entry_text, entry_plus_text, page_end_text, page_head_text, page_text, page_plus_text}
use Rattle.nfs_args.specs.declared.answer.NfsAnswer.TheVariants as answer
use Rattle.nfs_args.specs.declared.entry.Entry.{Entry}
use Rattle.nfs_args.specs.declared.entry_plus.EntryPlus.{EntryPlus}
use Rattle.nfs_args.specs.declared.dir_page.DirPage.{DirPage}
use Rattle.nfs_attrs.specs.Encoding.{IsPostOpAttr}
use Rattle.nfs_procs.proofs.Encoded.{granted_encoded}
use Rattle.nfs_procs.specs.Performing.{AppendsAnswer}
use Rattle.nfs_xdr.proofs.Writing.{appends_then}
use Rattle.nfs_xdr.specs.Written.{Written, Appends}

-- READDIR
pub page_written : (page : DirPage (List Entry)) (a b c d : Written) → Appends (to_be_bytes w32 0) a b → Appends (page_head_text page.attributes page.verifier) b c
    → Appends (links_text entry_text page.entries ++ page_end_text page.eof) c d → BeginsPage IsEntry entry_text page.attributes page.verifier → AreEncoded IsEntry entry_text page.entries
    → AppendsAnswer (answer.Readdir (Ok page)) a d
page_written page a b c d status head entries begins encoded = record {
  text = appends_then _ _ a b d status (appends_then _ _ b c d head entries);
  encoded = granted_encoded answer.Readdir IsPage IsPostOpAttr page_text page (begins page.entries page.eof encoded);
}

-- READDIRPLUS
pub page_plus_written : (page : DirPage (List EntryPlus)) (a b c d : Written) → Appends (to_be_bytes w32 0) a b → Appends (page_head_text page.attributes page.verifier) b c
    → Appends (links_text entry_plus_text page.entries ++ page_end_text page.eof) c d → BeginsPage IsEntryPlus entry_plus_text page.attributes page.verifier → AreEncoded IsEntryPlus entry_plus_text page.entries
    → AppendsAnswer (answer.Readdirplus (Ok page)) a d
page_plus_written page a b c d status head entries begins encoded = record {
  text = appends_then _ _ a b d status (appends_then _ _ b c d head entries);
  encoded = granted_encoded answer.Readdirplus IsPagePlus IsPostOpAttr page_plus_text page (begins page.entries page.eof encoded);
}
