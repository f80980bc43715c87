use Rattle.std.proofs.Common.{◌≡◌, Some, OnOk, subst}
use Rattle.nfs_server.specs.Entries.{journal_text}
use Rattle.nfs_server.specs.Fits.{Held, History, Fits}
use Rattle.nfs_server.specs.InMemory.{held}
use Rattle.nfs_server.proofs.Settling.{all_lasts}
use Rattle.nfs_server.proofs.server.Server.settle.Goals as goal

pub returns-clause-lasts : goal.returns-clause-lasts
returns-clause-lasts g c =
    let inside = c.self.inside in
    let old : Held = held inside.kept inside.table inside.tree inside.mounts inside.line inside.notes in
    let before = g.J.JournalOut.lasting c.args.journal.now in
    let after = g.J.JournalOut.lasting c.settle.new.journal in
    subst (λ (h : Held). OnOk c.settle.result ((history : History) → Fits history h → before ≡ Some history.lasting → after ≡ Some (journal_text history.done))) c.self.view_is
    (all_lasts c.settle.result old before after c.settle.ensures.grows c.settle.ensures.lost.1)
