use Rattle.std.proofs.Common.{◌≡◌, Some, subst, ◌∙◌}
use Rattle.slab.specs.Slab.{get}
use Rattle.nfs_loop.specs.Reporting.{ReportsReady}
use Rattle.nfs_loop.specs.Stages.{noted}
use Rattle.nfs_loop.specs.Watching.{hold_at}
use Rattle.nfs_loop.specs.Reports.{ready, listener_ready, nothing_ready}
use Rattle.nfs_loop.proofs.Asking.{asks_on, asks_ends}
use Rattle.nfs_loop.proofs.Lengthening.{notes_more, notes_on}
use Rattle.nfs_loop.proofs.service.Service.note.Goals as goal

pub loop-left-preserved : goal.loop-left-preserved
loop-left-preserved g c = record {
  members = c.note_client.ensures.members ∙ c.loop-left.invariant.members;
  joined = c.note_client.ensures.joined ∙ c.loop-left.invariant.joined;
  holds = λ k. c.note_client.ensures.holds k ∙ c.loop-left.invariant.holds k;
  heard = λ k. c.note_client.ensures.heard k ∙ c.loop-left.invariant.heard k;
  watched = c.note_client.ensures.watched;
  looked = c.note_client.ensures.looked ∙ c.loop-left.invariant.looked;
  limits = c.note_client.ensures.limits ∙ c.loop-left.invariant.limits;
  notes = notes_on c.args.self.now.clients.0 c.args.self.now.housekeeping.watches c.in-Some-Client.key c.args.self.now.clients.1.0 c.loop-left.self.clients.1.0 c.note_client.new.self.clients.1.0 _ _ _ c.loop-left.invariant.notes
      (subst (λ m. c.note_client.new.self.clients.1.0 ≡ noted (get m c.in-Some-Client.key) (hold_at c.args.self.now.housekeeping.watches c.in-Some-Client.key) c.in-Some-Client.key c.loop-left.self.clients.1.0) c.loop-left.invariant.members
      (subst (λ h. c.note_client.new.self.clients.1.0 ≡ noted (get c.loop-left.self.clients.0 c.in-Some-Client.key) h c.in-Some-Client.key c.loop-left.self.clients.1.0) (c.loop-left.invariant.holds c.in-Some-Client.key) c.note_client.ensures.queue))
      (subst (λ r. ReportsReady (g.N.Network.reported c.loop-left.net) (Some r) (g.N.Network.reported c.ready.new.self)) c.in-Some-Client.field-0-is c.in-Some-Client.ensures);
  asked = asks_on 1024 c.loop-left.left (ready c.in-Some-Client.key) _ _ _ c.loop-left.invariant.asked (subst (λ r. ReportsReady (g.N.Network.reported c.loop-left.net) (Some r) (g.N.Network.reported c.ready.new.self)) c.in-Some-Client.field-0-is c.in-Some-Client.ensures) c.loop-left-test.true;
}

pub loop-left-preserved-in-Some-Listener : goal.loop-left-preserved-in-Some-Listener
loop-left-preserved-in-Some-Listener g c =
    let reported = subst (λ r. ReportsReady (g.N.Network.reported c.loop-left.net) (Some r) (g.N.Network.reported c.ready.new.self)) c.in-Some-Listener.field-0-is c.in-Some-Listener.ensures in
    record {
      members = c.loop-left.invariant.members;
      joined = c.loop-left.invariant.joined;
      holds = c.loop-left.invariant.holds;
      heard = c.loop-left.invariant.heard;
      watched = c.loop-left.invariant.watched;
      looked = c.loop-left.invariant.looked;
      limits = c.loop-left.invariant.limits;
      notes = notes_more c.args.self.now.clients.0 c.args.self.now.housekeeping.watches listener_ready c.args.self.now.clients.1.0 c.loop-left.self.clients.1.0 _ _ _ tt c.loop-left.invariant.notes reported;
      asked = asks_on 1024 c.loop-left.left listener_ready _ _ _ c.loop-left.invariant.asked reported c.loop-left-test.true;
    }

pub returns-in-None-clause-notes : goal.returns-in-None-clause-notes
returns-in-None-clause-notes g c = notes_more c.args.self.now.clients.0 c.args.self.now.housekeeping.watches nothing_ready c.args.self.now.clients.1.0 c.loop-left.self.clients.1.0 _ _ _ tt c.loop-left.invariant.notes c.in-None.ensures

pub returns-in-None-clause-all : goal.returns-in-None-clause-all
returns-in-None-clause-all g c = asks_ends 1024 c.loop-left.left _ _ _ c.loop-left.invariant.asked c.in-None.ensures
