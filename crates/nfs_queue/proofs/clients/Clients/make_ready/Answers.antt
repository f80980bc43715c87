use Rattle.std.proofs.Common.{rules, arith, ◌≡◌, false, sym, ◌∙◌, deque_capacity, IsSome}
use Rattle.slab.specs.Slab.{get}
use Rattle.nfs_queue.specs.Queues.{is_waiting}
use Rattle.nfs_queue.proofs.Queueing.{one_more, joins, off}
use Rattle.nfs_queue.proofs.clients.Clients.make_ready.Goals as goal

pub push_back_reserved-requires : goal.push_back_reserved-requires
push_back_reserved-requires g c =
    let here : IsSome (get c.self.inside.members c.args.key) = search rules in
    let free : is_waiting c.args.key c.self.inside.queue.items ≡ false = sym (c.self.invariant.flags_tell c.args.key) ∙ off c.self.inside.flags.items c.args.key c.index.result.now c.index.ensures c.if-not-index.true in
    let h = one_more c.self.inside.members c.self.inside.members c.self.inside.queue.items c.self.inside.flags.items (deque_capacity c.self.inside.queue) c.self.invariant c.args.key (c.self.invariant.keys_fit c.args.key here) free in
    omega (arith, h)

pub invariant_of-self : goal.invariant_of-self
invariant_of-self g c =
    let here : IsSome (get c.self.inside.members c.args.key) = search rules in
    let free : is_waiting c.args.key c.self.inside.queue.items ≡ false = sym (c.self.invariant.flags_tell c.args.key) ∙ off c.self.inside.flags.items c.args.key c.index.result.now c.index.ensures c.if-not-index.true in
    joins c.self.inside.members c.self.inside.queue.items c.self.inside.flags.items (deque_capacity c.self.inside.queue) c.self.invariant c.args.key _ _ here free c.push_back_reserved.ensures.items c.push_back_reserved.ensures.capacity
