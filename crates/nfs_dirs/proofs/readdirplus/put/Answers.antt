use Rattle.std.proofs.Common.{Some, None, sym, ap, ◌∙◌}
use Rattle.nfs_args.specs.Chains.{chained_text}
use Rattle.nfs_args.specs.Pages.{IsEntryPlus, entry_plus_text}
use Rattle.nfs_args.specs.declared.entry_plus.EntryPlus.{EntryPlus}
use Rattle.nfs_inodes.specs.Views.{entry_seen}
use Rattle.nfs_dirs.proofs.Shown.{shown, shown_encoded, reported_living, reported_hidden, reported_gone}
use Rattle.nfs_xdr.specs.Written.{Appends}
use Rattle.nfs_dirs.proofs.readdirplus.put.Goals.{then-searchable+in_default, else-searchable}
use Rattle.nfs_dirs.proofs.readdirplus.put.Goals as goal

pub returns-in-Some-clause-text : goal.returns-in-Some-clause-text
returns-in-Some-clause-text c =
    reported_living c.args.tree.now (entry_seen c.args.entry.now) (λ e. Appends (chained_text entry_plus_text e) c.args.out.now c.write_entry_file.new.out) c.args.searchable c.in-Some.file.attributes.fileid c.attributes-attributes.result c.new.result
    c.if-searchable.true c.in-Some.ensures.number (c.in-Some.ensures.some.0 ∙ ap Some (sym c.attributes-attributes.ensures)) (c.handle-handle.ensures ∙ ap Some (sym c.new.ensures))
    (shown (entry_seen c.args.entry.now) (Some c.attributes-attributes.result) (Some c.new.result) _ _ _ c.put.ensures.text c.write_entry_file.ensures.text)

pub returns-in-Some-clause-encoded : goal.returns-in-Some-clause-encoded
returns-in-Some-clause-encoded c =
    reported_living c.args.tree.now (entry_seen c.args.entry.now) (λ (e : EntryPlus). IsEntryPlus e (entry_plus_text e)) c.args.searchable c.in-Some.file.attributes.fileid c.attributes-attributes.result c.new.result
    c.if-searchable.true c.in-Some.ensures.number (c.in-Some.ensures.some.0 ∙ ap Some (sym c.attributes-attributes.ensures)) (c.handle-handle.ensures ∙ ap Some (sym c.new.ensures))
    (shown_encoded (entry_seen c.args.entry.now) (Some c.attributes-attributes.result) (Some c.new.result) c.put.ensures.encoded c.write_entry_file.ensures.encoded)

pub returns-clause-text : goal.returns-clause-text
returns-clause-text c = let written = shown (entry_seen c.args.entry.now) None None _ _ _ c.put.ensures.text c.write_entry_file-2.ensures.text in elim c.if-searchable.branch [
  | then-searchable+in_default w ↦ reported_gone c.args.tree.now (entry_seen c.args.entry.now) (λ e. Appends (chained_text entry_plus_text e) c.args.out.now c.write_entry_file-2.new.out) c.args.searchable w.if-searchable.true (w.in_default.ensures.none) written
  | else-searchable w ↦ reported_hidden c.args.tree.now (entry_seen c.args.entry.now) (λ e. Appends (chained_text entry_plus_text e) c.args.out.now c.write_entry_file-2.new.out) c.args.searchable w.if-searchable.false written
]

pub returns-clause-encoded : goal.returns-clause-encoded
returns-clause-encoded c = let encoded = shown_encoded (entry_seen c.args.entry.now) None None c.put.ensures.encoded c.write_entry_file-2.ensures.encoded in elim c.if-searchable.branch [
  | then-searchable+in_default w ↦ reported_gone c.args.tree.now (entry_seen c.args.entry.now) (λ (e : EntryPlus). IsEntryPlus e (entry_plus_text e)) c.args.searchable w.if-searchable.true (w.in_default.ensures.none) encoded
  | else-searchable w ↦ reported_hidden c.args.tree.now (entry_seen c.args.entry.now) (λ (e : EntryPlus). IsEntryPlus e (entry_plus_text e)) c.args.searchable w.if-searchable.false encoded
]
