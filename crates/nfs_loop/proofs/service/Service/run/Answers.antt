use Rattle.std.proofs.Common.{[], OnOk, refl, subst}
use Rattle.nfs_lines.specs.Queued.{is_full}
use Rattle.nfs_loop.specs.Journals.{IsSettled, journal_of}
use Rattle.nfs_loop.proofs.Changing.{passed, quiet}
use Rattle.nfs_loop.proofs.Repeating.{another_round, run_over}
use Rattle.nfs_loop.proofs.Reporting.{accounts_same}
use Rattle.nfs_loop.proofs.service.Service.run.Goals as goal

pub loop-left-init : goal.loop-left-init
loop-left-init g c = record { rounds = ([], (refl, refl, refl)); settled = c.requires.settled; watched = c.requires.watched }

pub loop-left-preserved : goal.loop-left-preserved
loop-left-preserved g c = record {
  rounds = another_round g.L.Link.outgoing g.L.Link.incoming g.L.Link.reports _ _ _ _ _ _ _ _ _ _ c.loop-left.invariant.rounds c.wait.ensures c.round.ensures.round;
  settled = subst (λ r. OnOk r (IsSettled (journal_of g.J.JournalOut.lasting g.J.JournalOut.failed c.round.new.journal) c.round.new.server)) c.in-Ok.is c.round.ensures.settled;
  watched = c.round.ensures.watched;
}

pub returns-in-Err : goal.returns-in-Err
returns-in-Err g c = record { goes = run_over g.L.Link.outgoing g.L.Link.incoming g.L.Link.reports _ _ _ _ _ _ _ _ (is_full c.loop-left.lines.denied.queue) c.loop-left.invariant.rounds (quiet g.L.Link.outgoing g.L.Link.incoming _ _ _ c.wait.ensures); watched = c.loop-left.invariant.watched }

pub returns-in-Err-round : goal.returns-in-Err-round
returns-in-Err-round g c = record {
  goes = run_over g.L.Link.outgoing g.L.Link.incoming g.L.Link.reports _ _ _ _ _ _ _ _ (is_full c.round.new.lines.denied.queue)
      (another_round g.L.Link.outgoing g.L.Link.incoming g.L.Link.reports _ _ _ _ _ _ _ _ _ _ c.loop-left.invariant.rounds c.wait.ensures c.round.ensures.round)
      (passed g.L.Link.outgoing g.L.Link.incoming _ _ _ _ _ _ _ c.finish.ensures.lines (accounts_same _ _ c.finish.ensures.reported));
  watched = c.round.ensures.watched;
}

pub returns-in-Ok-finish : goal.returns-in-Ok-finish
returns-in-Ok-finish g c = record {
  goes = run_over g.L.Link.outgoing g.L.Link.incoming g.L.Link.reports _ _ _ _ _ _ _ _ (is_full c.loop-left.lines.denied.queue) c.loop-left.invariant.rounds
      (passed g.L.Link.outgoing g.L.Link.incoming _ _ _ _ _ _ _ c.finish-2.ensures.lines (accounts_same _ _ c.finish-2.ensures.reported));
  watched = c.loop-left.invariant.watched;
}

pub returns-in-Err-finish : goal.returns-in-Err-finish
returns-in-Err-finish g c = record {
  goes = run_over g.L.Link.outgoing g.L.Link.incoming g.L.Link.reports _ _ _ _ _ _ _ _ (is_full c.loop-left.lines.denied.queue) c.loop-left.invariant.rounds
      (passed g.L.Link.outgoing g.L.Link.incoming _ _ _ _ _ _ _ c.finish-2.ensures.lines (accounts_same _ _ c.finish-2.ensures.reported));
  watched = c.loop-left.invariant.watched;
}
