use Rattle.std.proofs.Common.{◌+◌, ◌-◌, true, min, [], ◌++◌, refl, sym, ap, ◌∙◌, arith}
use Rattle.std.proofs.Math.Nat.{min-eq_left}
use Rattle.std.proofs.lemmas.List.Sums.{sum_by-cons, sum_by_push}
use Rattle.nfs_args.specs.Chains.{chained_text}
use Rattle.nfs_args.specs.Pages.{IsEntryPlus, entry_plus_text}
use Rattle.nfs_args.specs.declared.entry_plus.EntryPlus.{EntryPlus}
use Rattle.nfs_args.specs.Sizes.{max_page}
use Rattle.nfs_inodes.specs.Views.{entry_seen}
use Rattle.nfs_dirs.specs.Opening.{left_in}
use Rattle.nfs_dirs.specs.Pages.{page_head_bytes, entry_bytes, plus_bytes, entry_plus_reported, entries_plus_text, EntriesPlusEncoded, fits_plus}
use Rattle.nfs_dirs.specs.Walk.{left_of}
use Rattle.nfs_dirs.proofs.Opened.{first_within, left_begins}
use Rattle.nfs_dirs.proofs.Shown.{each_push}
use Rattle.nfs_dirs.proofs.Sizes.{all_bytes, few_entries_plus, named_within, narrows_fits_plus, fits_plus_more, no_room, above_named, links_push}
use Rattle.nfs_dirs.proofs.Walks.{walk_begun, walk_cut_off, walk_ended, walked_on}
use Rattle.nfs_dirs.proofs.open_page.OpenPagePlus.write.Goals as goal

pub loop-entry-init : goal.loop-entry-init
loop-entry-init c =
    let p = c.args.self.page in
    let searchable = c.args.self.searchable in
    let t = c.args.tree.now in
    let bound = p.room + page_head_bytes in
    let x = entry_seen c.in-Some.first in
    let whole = min-eq_left c.requires.bound in
    let le = first_within p c.in-Some.first c.in-Some.is (plus_bytes searchable) c.requires.open.large in
    let sum = sum_by-cons entry_bytes x [] in (
      walk_begun (fits_plus c.args.dircount bound searchable) (all_bytes searchable) (entries_plus_text t searchable) (EntriesPlusEncoded t searchable) (λ e. chained_text entry_plus_text (entry_plus_reported t searchable e))
          (min bound max_page) (left_in p) c.args.out.now x p.rest (left_begins p c.in-Some.first c.in-Some.is)
          (fits_plus_more c.args.dircount bound searchable p.room [] x (omega (arith, whole)) 0 (entry_bytes x) refl (omega arith) le refl) (links_push entry_plus_text (entry_plus_reported t searchable) [] x)
          (p.room - (c.entry_bytes-named.result + c.plus_bytes-beside.result)) (omega (arith, whole, le, c.entry_bytes-named.ensures.bytes, c.plus_bytes-beside.ensures.bytes)) c.put.new.out c.put.ensures.text
          (omega (arith, le, c.entry_bytes-named.ensures.bytes, c.plus_bytes-beside.ensures.bytes, c.put.ensures.room, c.requires.bound, c.requires.room))
          (each_push (λ (e : EntryPlus). IsEntryPlus e (entry_plus_text e)) (entry_plus_reported t searchable) [] x tt c.put.ensures.encoded),
      omega (arith, sum, c.entry_bytes-named.ensures.bytes),
      omega arith,
    )

pub cut_off-requires : goal.cut_off-requires
cut_off-requires c = let w = c.loop-entry.invariant.0 in omega (arith, w.has_room)

pub returns-then-room-bytes : goal.returns-then-room-bytes
returns-then-room-bytes c =
    let w = c.loop-entry.invariant.0 in
    let bound = c.args.self.page.room + page_head_bytes in
    let searchable = c.args.self.searchable in
    let x = entry_seen c.in-Some-next.entry in
    walk_cut_off (fits_plus c.args.dircount bound searchable) (narrows_fits_plus c.args.dircount bound searchable) (entries_plus_text c.args.tree.now searchable) (EntriesPlusEncoded c.args.tree.now searchable)
    (left_in c.args.self.page) w.entries w.fit c.args.out.now c.loop-entry.out c.cut_off.new.out w.text_is w.encoded
    x (left_of c.next.new.self) (w.left_are ∙ ap (λ l. w.entries ++ l) c.in-Some-next.ensures)
    (no_room c.args.dircount bound searchable c.loop-entry.room w.entries x w.room_is (omega (arith, c.if-room-bytes.true, c.entry_bytes-bytes.ensures.bytes, c.plus_bytes-beside.ensures.bytes)))
    c.loop-entry.given w.given_is c.loop-entry.invariant.2 c.cut_off.result c.cut_off.ensures

pub overflow_add-named : goal.overflow_add-named
overflow_add-named c =
    let w = c.loop-entry.invariant.0 in
    let within = named_within c.args.self.searchable w.entries in
    let whole = min-eq_left c.requires.bound in
    omega (arith, within, c.loop-entry.invariant.1, w.room_is, whole, c.requires.bound, c.if-room-bytes.false)

pub cut_off-requires-then-is_above : goal.cut_off-requires-then-is_above
cut_off-requires-then-is_above c = let w = c.loop-entry.invariant.0 in omega (arith, w.has_room)

pub returns-then-is_above : goal.returns-then-is_above
returns-then-is_above c =
    let w = c.loop-entry.invariant.0 in
    let bound = c.args.self.page.room + page_head_bytes in
    let searchable = c.args.self.searchable in
    let x = entry_seen c.in-Some-next.entry in
    walk_cut_off (fits_plus c.args.dircount bound searchable) (narrows_fits_plus c.args.dircount bound searchable) (entries_plus_text c.args.tree.now searchable) (EntriesPlusEncoded c.args.tree.now searchable)
    (left_in c.args.self.page) w.entries w.fit c.args.out.now c.loop-entry.out c.cut_off-then-is_above.new.out w.text_is w.encoded
    x (left_of c.next.new.self) (w.left_are ∙ ap (λ l. w.entries ++ l) c.in-Some-next.ensures)
    (above_named c.args.dircount bound searchable c.loop-entry.room w.entries x w.room_is c.loop-entry.given (c.loop-entry.named + c.entry_bytes-bytes.result) w.given_is
    (omega (arith, c.loop-entry.invariant.1, c.entry_bytes-bytes.ensures.bytes)) (sym c.is_above.ensures ∙ c.if-is_above.true))
    c.loop-entry.given w.given_is c.loop-entry.invariant.2 c.cut_off-then-is_above.result c.cut_off-then-is_above.ensures

pub put-requires-in-Some-next-clause-room : goal.put-requires-in-Some-next-clause-room
put-requires-in-Some-next-clause-room c =
    let w = c.loop-entry.invariant.0 in
    omega (arith, w.has_room, c.if-room-bytes.false, c.entry_bytes-bytes.ensures.bytes, c.plus_bytes-beside.ensures.bytes)

pub put-requires-in-Some-next-clause-bound : goal.put-requires-in-Some-next-clause-bound
put-requires-in-Some-next-clause-bound c =
    let w = c.loop-entry.invariant.0 in
    let whole = min-eq_left c.requires.bound in
    omega (arith, w.room_is, whole, c.requires.bound, c.if-room-bytes.false, c.entry_bytes-bytes.ensures.bytes)

pub overflow_add-named-in-Some-next : goal.overflow_add-named-in-Some-next
overflow_add-named-in-Some-next c =
    let w = c.loop-entry.invariant.0 in
    let within = named_within c.args.self.searchable w.entries in
    let whole = min-eq_left c.requires.bound in
    omega (arith, within, c.loop-entry.invariant.1, w.room_is, whole, c.requires.bound, c.if-room-bytes.false)

pub overflow_add-given : goal.overflow_add-given
overflow_add-given c =
    let w = c.loop-entry.invariant.0 in
    let few = few_entries_plus c.args.self.searchable w.entries in
    let whole = min-eq_left c.requires.bound in
    omega (arith, few, w.given_is, w.room_is, whole, c.requires.bound)

pub loop-entry-preserved : goal.loop-entry-preserved
loop-entry-preserved c =
    let w = c.loop-entry.invariant.0 in
    let bound = c.args.self.page.room + page_head_bytes in
    let searchable = c.args.self.searchable in
    let t = c.args.tree.now in
    let x = entry_seen c.in-Some-next.entry in
    let sum = sum_by_push entry_bytes w.entries x in (
      walked_on (fits_plus c.args.dircount bound searchable) (all_bytes searchable) (entries_plus_text t searchable) (EntriesPlusEncoded t searchable) (λ e. chained_text entry_plus_text (entry_plus_reported t searchable e))
          (min bound max_page) (left_in c.args.self.page) c.args.out.now c.loop-entry.listed c.loop-entry.room c.loop-entry.given c.loop-entry.out w
          x c.next.new.self c.in-Some-next.ensures (links_push entry_plus_text (entry_plus_reported t searchable) w.entries x)
          (fits_plus_more c.args.dircount bound searchable c.loop-entry.room w.entries x w.room_is c.loop-entry.given (c.loop-entry.named + c.entry_bytes-bytes.result) w.given_is
          (omega (arith, c.loop-entry.invariant.1, c.entry_bytes-bytes.ensures.bytes)) (omega (arith, c.if-room-bytes.false, c.entry_bytes-bytes.ensures.bytes, c.plus_bytes-beside.ensures.bytes)) (sym c.is_above.ensures ∙ c.if-is_above.false))
          (c.loop-entry.room - (c.entry_bytes-bytes.result + c.plus_bytes-beside.result)) (omega (arith, c.if-room-bytes.false, c.entry_bytes-bytes.ensures.bytes, c.plus_bytes-beside.ensures.bytes))
          c.put-in-Some-next.new.out c.put-in-Some-next.ensures.text (omega (arith, c.put-in-Some-next.ensures.room))
          (each_push (λ (e : EntryPlus). IsEntryPlus e (entry_plus_text e)) (entry_plus_reported t searchable) w.entries x w.encoded c.put-in-Some-next.ensures.encoded),
      omega (arith, sum, c.loop-entry.invariant.1, c.entry_bytes-bytes.ensures.bytes),
      omega arith,
    )

pub write_page_end-requires-2 : goal.write_page_end-requires-2
write_page_end-requires-2 c = let w = c.loop-entry.invariant.0 in omega (arith, w.has_room)

pub returns : goal.returns
returns c =
    let w = c.loop-entry.invariant.0 in
    let bound = c.args.self.page.room + page_head_bytes in
    let searchable = c.args.self.searchable in
    walk_ended (fits_plus c.args.dircount bound searchable) (narrows_fits_plus c.args.dircount bound searchable) (entries_plus_text c.args.tree.now searchable) (EntriesPlusEncoded c.args.tree.now searchable)
    (left_in c.args.self.page) w.entries w.fit c.args.out.now c.loop-entry.out c.write_page_end-2.new.out w.text_is w.encoded
    (w.left_are ∙ ap (λ l. w.entries ++ l) c.in_default-next.ensures) c.write_page_end-2.ensures (record { given = c.loop-entry.given; eof = true }) (ap (λ n. record { given = n; eof = true }) w.given_is)
