use Rattle.std.proofs.Common.{List, ℕ, ap, subst, ◌∙◌}
use Rattle.std.specs.List.{flat_map}
use Rattle.nfs_xdr.specs.Known.{Grows, GrowsByPart}
use Rattle.nfs_inodes.specs.Tree.{entries_in}
use Rattle.nfs_inodes.specs.Views.{entries_left, entry_seen, kind_seen}
use Rattle.nfs_load.specs.Listings.{entry_line, file_line, view_text}
use Rattle.nfs_load.proofs.Entries.{all_after, first_of}
use Rattle.nfs_load.proofs.Writes.{WritesBut, on_err, part_of_first, goes_on, broken_off}
use Rattle.nfs_load.proofs.listing.write_file.Goals as goal

pub returns-in_err-write_all-clause-part : goal.returns-in_err-write_all-clause-part
returns-in_err-write_all-clause-part g c = on_err c.from_residual.result
    (part_of_first (g.W.ByteOut.contents c.args.out.now) (g.W.ByteOut.contents c.write_all.new.out) (file_line c.args.file.now.attributes) (flat_map entry_line (entries_in (kind_seen c.args.file.now)))
    (subst (λ (l : List ℕ). GrowsByPart (g.W.ByteOut.contents c.args.out.now) l (g.W.ByteOut.contents c.write_all.new.out)) (c.as_slice.ensures.value ∙ c.put_file.ensures ∙ ap file_line c.attributes.ensures) c.in_err-write_all.ensures.part))

pub put_entry-requires : goal.put_entry-requires
put_entry-requires g c = first_of (entry_seen c.in-Some.entry) (entries_left c.next.new.self) (entries_left c.loop-entry.entries) c.in-Some.ensures.steps c.loop-entry.invariant.short

pub loop-entry-preserved : goal.loop-entry-preserved
loop-entry-preserved g c = record {
  written = goes_on (g.W.ByteOut.contents c.args.out.now) (g.W.ByteOut.contents c.loop-entry.out) (g.W.ByteOut.contents c.write_all-in-Some.new.out)
      (view_text c.args.file.now) (entry_line (entry_seen c.in-Some.entry)) (flat_map entry_line (entries_left c.next.new.self))
      (subst (λ es. WritesBut (g.W.ByteOut.contents c.args.out.now) (view_text c.args.file.now) (flat_map entry_line es) (g.W.ByteOut.contents c.loop-entry.out)) c.in-Some.ensures.steps c.loop-entry.invariant.written)
      (subst (λ (l : List ℕ). Grows (g.W.ByteOut.contents c.loop-entry.out) l (g.W.ByteOut.contents c.write_all-in-Some.new.out)) (c.as_slice-in-Some.ensures.value ∙ c.put_entry.ensures) c.in_ok-write_all-2.ensures.ok);
  short = all_after (entry_seen c.in-Some.entry) (entries_left c.next.new.self) (entries_left c.loop-entry.entries) c.in-Some.ensures.steps c.loop-entry.invariant.short;
  alive = c.in_ok-write_all-2.ensures.alive ∙ c.loop-entry.invariant.alive;
}

pub returns-in_err-write_all-2-clause-part : goal.returns-in_err-write_all-2-clause-part
returns-in_err-write_all-2-clause-part g c = on_err c.from_residual-in_err-write_all-2.result
    (broken_off (g.W.ByteOut.contents c.args.out.now) (g.W.ByteOut.contents c.loop-entry.out) (g.W.ByteOut.contents c.write_all-in-Some.new.out)
    (view_text c.args.file.now) (entry_line (entry_seen c.in-Some.entry)) (flat_map entry_line (entries_left c.next.new.self))
    (subst (λ es. WritesBut (g.W.ByteOut.contents c.args.out.now) (view_text c.args.file.now) (flat_map entry_line es) (g.W.ByteOut.contents c.loop-entry.out)) c.in-Some.ensures.steps c.loop-entry.invariant.written)
    (subst (λ (l : List ℕ). GrowsByPart (g.W.ByteOut.contents c.loop-entry.out) l (g.W.ByteOut.contents c.write_all-in-Some.new.out)) (c.as_slice-in-Some.ensures.value ∙ c.put_entry.ensures) c.in_err-write_all-2.ensures.part))
