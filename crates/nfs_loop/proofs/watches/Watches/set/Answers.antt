use Rattle.std.proofs.Common.{◌≡◌, ◌+◌, ◌<◌, ◌≤◌, ◌^◌, ℕ, length, rules, sym, ap, ◌∙◌, arith}
use Rattle.nfs_loop.specs.Watching.{hold_at, held_count, one_if_held}
use Rattle.nfs_loop.specs.declared.watches.Watch.{Watch}
use Rattle.nfs_loop.proofs.Watching.{counted, count_fits, recounted}
use Rattle.nfs_loop.proofs.watches.Watches.set.Goals as goal

le_by : (a b c d : ℕ) → a ≡ b → c ≡ d → a ≤ c → b ≤ d
le_by a b c d e f l = omega (arith, e, f, l)

less_by : (a b m o n p : ℕ) → a ≡ n → o ≡ p → a + b < m + o → n + b < m + p
less_by a b m o n p e f l = omega (arith, e, f, l)

pub recount-self-inside-requires-clause-counted : goal.recount-self-inside-requires-clause-counted
recount-self-inside-requires-clause-counted c =
    let within : c.args.key < length c.self.inside.watches.items = search rules in
    let was : hold_at c.self.inside.watches.items c.args.key ≡ c.at-was.result.hold = ap (λ ws. hold_at ws c.args.key) c.self.view_is ∙ sym (ap (λ (w : Watch). w.hold) c.at-was.ensures) in
    le_by (one_if_held (hold_at c.self.inside.watches.items c.args.key)) (one_if_held c.at-was.result.hold) (held_count c.self.inside.watches.items) c.self.inside.held (ap one_if_held was) c.self.invariant (counted c.self.inside.watches.items c.args.key within)

pub recount-self-inside-requires-clause-fits : goal.recount-self-inside-requires-clause-fits
recount-self-inside-requires-clause-fits c =
    let within : c.args.key < length c.self.inside.watches.items = search rules in
    let few : length c.self.inside.watches.items < 2 ^ 64 = omega arith in
    let was : hold_at c.self.inside.watches.items c.args.key ≡ c.at-was.result.hold = ap (λ ws. hold_at ws c.args.key) c.self.view_is ∙ sym (ap (λ (w : Watch). w.hold) c.at-was.ensures) in
    less_by (held_count c.self.inside.watches.items) (one_if_held c.args.watch.hold) (2 ^ 64) (one_if_held (hold_at c.self.inside.watches.items c.args.key)) c.self.inside.held (one_if_held c.at-was.result.hold) c.self.invariant (ap one_if_held was)
    (count_fits c.self.inside.watches.items c.args.key (2 ^ 64) c.args.watch within few)

pub invariant_of-self : goal.invariant_of-self
invariant_of-self c =
    let within : c.args.key < length c.self.inside.watches.items = search rules in
    let was : hold_at c.self.inside.watches.items c.args.key ≡ c.at-was.result.hold = ap (λ ws. hold_at ws c.args.key) c.self.view_is ∙ sym (ap (λ (w : Watch). w.hold) c.at-was.ensures) in
    recounted c.self.inside.watches.items c.args.key c.recount-self-inside.result c.args.watch within
    (ap (λ h. c.recount-self-inside.result + one_if_held h) was ∙ c.recount-self-inside.ensures ∙ ap (λ n. n + one_if_held c.args.watch.hold) (sym c.self.invariant))
