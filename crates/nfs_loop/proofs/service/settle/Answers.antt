use Rattle.std.proofs.Common.{Option, Some, subst, sym, ℕ, List}
use Rattle.nfs_loop.specs.Journals.{JournalGoes, SettlesBy, journal_of}
use Rattle.nfs_loop.proofs.Beside.{room_settled}
use Rattle.nfs_loop.proofs.Settling.{settle_goes}
use Rattle.nfs_loop.proofs.service.settle.Goals as goal

pub returns-in-Some-clause-goes : goal.returns-in-Some-clause-goes
returns-in-Some-clause-goes g c =
    let lasting = g.J.JournalOut.lasting in let failed = g.J.JournalOut.failed in
    let old = c.args.server.now in let new = c.settle.new.self in let after = c.settle.new.journal in
    subst (λ o. (noted : Option (List ℕ)) × SettlesBy noted old new × JournalGoes (journal_of lasting failed o) noted (Some (record { lasting = lasting after; failed = failed after }))) (sym c.in-Some.is)
    (settle_goes lasting failed old new c.in-Some.journal after c.settle.result c.settle.ensures.ok c.settle.ensures.grows c.settle.ensures.lost c.settle.ensures.failed c.settle.ensures.idle c.settle.ensures.err c.settle.ensures.stays)

pub returns-in-Some-clause-room : goal.returns-in-Some-clause-room
returns-in-Some-clause-room g c =
    room_settled g.J.JournalOut.lasting g.J.JournalOut.failed c.args.server.now c.settle.new.self c.settle.new.journal c.settle.result c.settle.ensures.ok c.settle.ensures.lost c.settle.ensures.failed c.settle.ensures.err
