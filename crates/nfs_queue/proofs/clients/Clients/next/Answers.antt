use Rattle.std.proofs.Common.{arith, subst, deque_capacity}
use Rattle.nfs_queue.specs.Queues.{IsQueue}
use Rattle.nfs_queue.proofs.Queueing.{first_fits}
use Rattle.nfs_queue.proofs.clients.Clients.next.Goals as goal

pub index_mut-requires : goal.index_mut-requires
index_mut-requires g c =
    let q = subst (λ l. IsQueue c.self.inside.members l c.self.inside.flags.items (deque_capacity c.self.inside.queue)) c.in-Some.ensures.items c.self.invariant in
    let h = first_fits c.self.inside.members c.self.inside.members c.in-Some.key c.pop_front.new.self.items c.self.inside.flags.items (deque_capacity c.self.inside.queue) q in
    omega (arith, h)
