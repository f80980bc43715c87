use Rattle.std.proofs.Common.{filter, rules, ap, ◌∙◌}
use Rattle.std.proofs.lemmas.Fn.{filter_same}
use Rattle.nfs_loop.specs.Refusing.{is_other_waiting}
use Rattle.nfs_loop.proofs.refused_peers.RefusedPeers.keep_others.Goals as goal

pub returns : goal.returns
returns c = filter_same _ (is_other_waiting c.args.addr c.args.now) _ (λ peer b f call. search rules) _ _ c.retain.ensures.filtered ∙ ap (filter (is_other_waiting c.args.addr c.args.now)) c.self.view_is
