use Rattle.std.proofs.Common.{rules, arith, ◌≡◌, ◌<◌, Some, None, length, sym, ap, subst, refl, ◌∙◌, deque_capacity}
use Rattle.slab.specs.Slab.{get, Updates}
use Rattle.nfs_queue.specs.Queues.{is_waiting}
use Rattle.nfs_queue.proofs.Queueing.{one_more, returns, none_waits}
use Rattle.nfs_queue.proofs.clients.Clients.put_back.Goals as goal

pub push_back_reserved-requires : goal.push_back_reserved-requires
push_back_reserved-requires g c =
    let same : c.insert_reserved.result ≡ c.args.key = search rules in
    let none : get c.self.inside.members c.args.key ≡ None = ap (λ k. get c.self.inside.members k) (sym same) ∙ c.insert_reserved.ensures.was_vacant in
    let within : c.args.key < length c.self.inside.flags.items = search rules in
    let free = none_waits c.self.inside.members c.self.inside.members c.self.inside.queue.items c.self.inside.flags.items (deque_capacity c.self.inside.queue) c.self.invariant c.args.key (is_waiting c.args.key c.self.inside.queue.items) refl none in
    let h = one_more c.self.inside.members c.self.inside.members c.self.inside.queue.items c.self.inside.flags.items (deque_capacity c.self.inside.queue) c.self.invariant c.args.key within free in
    omega (arith, h)

pub invariant_of-self : goal.invariant_of-self
invariant_of-self g c =
    let same : c.insert_reserved.result ≡ c.args.key = search rules in
    let none : get c.self.inside.members c.args.key ≡ None = ap (λ k. get c.self.inside.members k) (sym same) ∙ c.insert_reserved.ensures.was_vacant in
    let within : c.args.key < length c.self.inside.flags.items = search rules in
    let back : Updates c.self.inside.members c.insert_reserved.new.self c.args.key (Some c.args.member) = subst (λ k. Updates c.self.inside.members c.insert_reserved.new.self k (Some c.args.member)) same c.insert_reserved.ensures.updates in
    returns c.self.inside.members c.self.inside.queue.items c.self.inside.flags.items (deque_capacity c.self.inside.queue) c.self.invariant c.insert_reserved.new.self c.args.key _ _ c.args.member none back within c.push_back_reserved.ensures.items c.push_back_reserved.ensures.capacity
