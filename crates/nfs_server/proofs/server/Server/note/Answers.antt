use Rattle.std.proofs.Common.{◌≡◌, true, not, ◌&&◌, ap, sym, subst, ◌∙◌}
use Rattle.std.specs.Prelude.{if◌then◌else◌}
use Rattle.nfs_rpc.specs.Records.{fragment}
use Rattle.nfs_server.specs.Entries.{entry_text}
use Rattle.nfs_server.specs.Fits.{Held}
use Rattle.nfs_server.specs.InMemory.{event_of, held}
use Rattle.nfs_server.specs.Notes.{with_entry}
use Rattle.nfs_server.specs.Retransmissions.{is_refused}
use Rattle.nfs_server.proofs.server.Server.note.Goals as goal

pub returns-then-not-wants_memory : goal.returns-then-not-wants_memory
returns-then-not-wants_memory c =
    let inside = c.self.inside in
    let entry = fragment true (entry_text (event_of c.args.event) c.args.reply.now.reply) in
    let old : Held = held inside.kept inside.table inside.tree inside.mounts inside.line inside.notes in
    let is_noted : c.args.is_noted && not (is_refused inside.line) ≡ true = ap (λ b. b && not (is_refused inside.line)) c.if-is_noted.true ∙ ap not (sym c.wants_memory.ensures ∙ c.if-not-wants_memory.true) in
    let added = c.add.ensures ∙ ap (λ reply. with_entry (fragment true (entry_text (event_of c.args.event) reply)) inside.notes) c.bytes.ensures in
    subst (λ (h : Held). record old { notes = c.add.new.self } ≡ record h { notes = if c.args.is_noted && not (is_refused h.line) then with_entry entry h.notes else h.notes }) c.self.view_is
    (ap (λ notes. record old { notes = notes }) (added ∙ sym (ap (λ b. if b then with_entry entry inside.notes else inside.notes) is_noted)))
