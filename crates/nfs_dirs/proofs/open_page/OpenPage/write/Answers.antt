use Rattle.std.proofs.Common.{◌+◌, ◌-◌, true, min, [], ◌++◌, ap, ◌∙◌, arith}
use Rattle.std.proofs.Math.Nat.{min-eq_left}
use Rattle.nfs_args.specs.Chains.{chained_text}
use Rattle.nfs_args.specs.Pages.{IsEntry, entry_text}
use Rattle.nfs_args.specs.declared.entry.Entry.{Entry}
use Rattle.nfs_args.specs.Sizes.{max_page}
use Rattle.nfs_inodes.specs.Views.{entry_seen}
use Rattle.nfs_dirs.specs.Opening.{left_in}
use Rattle.nfs_dirs.specs.Pages.{page_head_bytes, entry_bytes, entry_reported, entries_text, EntriesEncoded, fits}
use Rattle.nfs_dirs.specs.Walk.{left_of}
use Rattle.nfs_dirs.proofs.Opened.{first_within, left_begins}
use Rattle.nfs_dirs.proofs.Shown.{each_push}
use Rattle.nfs_dirs.proofs.Sizes.{few_entries, narrows_fits, fits_more, fits_no_more, links_push}
use Rattle.nfs_dirs.proofs.Walks.{walk_begun, walk_cut_off, walk_ended, walked_on}
use Rattle.nfs_dirs.proofs.open_page.OpenPage.write.Goals as goal

pub loop-entry-init : goal.loop-entry-init
loop-entry-init c =
    let p = c.args.self in
    let bound = p.room + page_head_bytes in
    let x = entry_seen c.in-Some.first in
    let whole = min-eq_left c.requires.bound in
    let le = first_within p c.in-Some.first c.in-Some.is 0 c.requires.open.large in (
      walk_begun (fits bound) entry_bytes entries_text EntriesEncoded (λ e. chained_text entry_text (entry_reported e)) (min bound max_page) (left_in p) c.args.out.now x p.rest (left_begins p c.in-Some.first c.in-Some.is)
          (fits_more bound p.room [] x (omega (arith, whole)) (omega (arith, le))) (links_push entry_text entry_reported [] x)
          (p.room - c.entry_bytes.result) (omega (arith, whole, le, c.entry_bytes.ensures.bytes)) c.put.new.out c.put.ensures.text (omega (arith, le, c.entry_bytes.ensures.bytes, c.put.ensures.room, c.requires.bound, c.requires.room))
          (each_push (λ (e : Entry). IsEntry e (entry_text e)) entry_reported [] x tt c.put.ensures.encoded),
      omega arith,
    )

pub cut_off-requires : goal.cut_off-requires
cut_off-requires c = let w = c.loop-entry.invariant.0 in omega (arith, w.has_room)

pub returns-then-room-bytes : goal.returns-then-room-bytes
returns-then-room-bytes c =
    let w = c.loop-entry.invariant.0 in
    let bound = c.args.self.room + page_head_bytes in
    let x = entry_seen c.in-Some-next.entry in
    walk_cut_off (fits bound) (narrows_fits bound) entries_text EntriesEncoded (left_in c.args.self) w.entries w.fit c.args.out.now c.loop-entry.out c.cut_off.new.out w.text_is w.encoded
    x (left_of c.next.new.self) (w.left_are ∙ ap (λ l. w.entries ++ l) c.in-Some-next.ensures)
    (fits_no_more bound c.loop-entry.room w.entries x w.room_is (omega (arith, c.if-room-bytes.true, c.entry_bytes-bytes.ensures.bytes)))
    c.loop-entry.given w.given_is c.loop-entry.invariant.1 c.cut_off.result c.cut_off.ensures

pub put-requires-in-Some-next-clause-room : goal.put-requires-in-Some-next-clause-room
put-requires-in-Some-next-clause-room c = let w = c.loop-entry.invariant.0 in omega (arith, w.has_room, c.if-room-bytes.false, c.entry_bytes-bytes.ensures.bytes)

pub put-requires-in-Some-next-clause-bound : goal.put-requires-in-Some-next-clause-bound
put-requires-in-Some-next-clause-bound c =
    let w = c.loop-entry.invariant.0 in
    let whole = min-eq_left c.requires.bound in
    omega (arith, w.room_is, whole, c.requires.bound, c.if-room-bytes.false, c.entry_bytes-bytes.ensures.bytes)

pub overflow_add-given : goal.overflow_add-given
overflow_add-given c =
    let w = c.loop-entry.invariant.0 in
    let few = few_entries w.entries in
    let whole = min-eq_left c.requires.bound in
    omega (arith, few, w.given_is, w.room_is, whole, c.requires.bound)

pub loop-entry-preserved : goal.loop-entry-preserved
loop-entry-preserved c =
    let w = c.loop-entry.invariant.0 in
    let bound = c.args.self.room + page_head_bytes in
    let x = entry_seen c.in-Some-next.entry in (
      walked_on (fits bound) entry_bytes entries_text EntriesEncoded (λ e. chained_text entry_text (entry_reported e)) (min bound max_page) (left_in c.args.self) c.args.out.now c.loop-entry.listed
          c.loop-entry.room c.loop-entry.given c.loop-entry.out w x c.next.new.self c.in-Some-next.ensures (links_push entry_text entry_reported w.entries x)
          (fits_more bound c.loop-entry.room w.entries x w.room_is (omega (arith, c.if-room-bytes.false, c.entry_bytes-bytes.ensures.bytes)))
          (c.loop-entry.room - c.entry_bytes-bytes.result) (omega (arith, c.if-room-bytes.false, c.entry_bytes-bytes.ensures.bytes)) c.put-in-Some-next.new.out c.put-in-Some-next.ensures.text (omega (arith, c.put-in-Some-next.ensures.room))
          (each_push (λ (e : Entry). IsEntry e (entry_text e)) entry_reported w.entries x w.encoded c.put-in-Some-next.ensures.encoded),
      omega arith,
    )

pub write_page_end-requires-2 : goal.write_page_end-requires-2
write_page_end-requires-2 c = let w = c.loop-entry.invariant.0 in omega (arith, w.has_room)

pub returns : goal.returns
returns c =
    let w = c.loop-entry.invariant.0 in
    let bound = c.args.self.room + page_head_bytes in
    walk_ended (fits bound) (narrows_fits bound) entries_text EntriesEncoded (left_in c.args.self) w.entries w.fit c.args.out.now c.loop-entry.out c.write_page_end-2.new.out w.text_is w.encoded
    (w.left_are ∙ ap (λ l. w.entries ++ l) c.in_default-next.ensures) c.write_page_end-2.ensures (record { given = c.loop-entry.given; eof = true }) (ap (λ n. record { given = n; eof = true }) w.given_is)
