use Rattle.std.proofs.Common.{◌≤◌, length, map, refl, sym, subst, ◌∙◌, arith}
use Rattle.nfs_args.specs.Chains.{IsChain, chain_text}
use Rattle.nfs_args.specs.MountAnswers.{IsMounted, mounted_text}
use Rattle.nfs_xdr.specs.Written.{Appends}
use Rattle.nfs_mount.specs.MountAnswers.{client}
use Rattle.nfs_mount.proofs.Listed.{chain_ended, chain_encoded, next_appended, next_encoded}
use Rattle.nfs_mount.proofs.mount_list.MountList.write_dump.Goals as goal

pub loop-mount-preserved : goal.loop-mount-preserved
loop-mount-preserved c = let items = c.as_slice-mount-items.result.now in record {
  text = next_appended items c.loop-mount.mount-index _ c.loop-mount-test.true (λ m. mounted_text (client c.args.tree.now m)) c.args.out.now c.loop-mount.out c.write_client.new.out c.loop-mount.invariant.text c.write_client.ensures.text;
  encoded = next_encoded items c.loop-mount.mount-index _ c.loop-mount-test.true (λ m. IsMounted (client c.args.tree.now m) (mounted_text (client c.args.tree.now m))) c.loop-mount.invariant.encoded c.write_client.ensures.encoded;
  room = omega (arith, c.loop-mount.invariant.room, c.write_client.ensures.room);
}

pub returns-clause-text : goal.returns-clause-text
returns-clause-text c = let items = c.as_slice-mount-items.result.now in
    subst (λ l. Appends (chain_text mounted_text (map (client c.args.tree.now) l)) c.args.out.now c.write_chain_end.new.out) (c.as_slice-mount-items.ensures.keys ∙ c.self.view_is)
    (chain_ended mounted_text (client c.args.tree.now) items c.loop-mount.mount-index c.args.out.now c.loop-mount.out c.write_chain_end.new.out (omega (arith, c.loop-mount-test.false)) c.loop-mount.invariant.text c.write_chain_end.ensures.text)

pub returns-clause-encoded : goal.returns-clause-encoded
returns-clause-encoded c = let items = c.as_slice-mount-items.result.now in
    let encoded = subst (λ l. IsChain IsMounted (map (client c.args.tree.now) l) (chain_text mounted_text (map (client c.args.tree.now) l))) (c.as_slice-mount-items.ensures.keys ∙ c.self.view_is)
    (chain_encoded mounted_text IsMounted (client c.args.tree.now) items c.loop-mount.mount-index (omega (arith, c.loop-mount-test.false)) c.loop-mount.invariant.encoded) in
    (map (client c.args.tree.now) c.args.self.now, refl, encoded)

pub returns-clause-bound : goal.returns-clause-bound
returns-clause-bound c = let text = returns-clause-text c in
    let few : length c.as_slice-mount-items.result.now ≤ 1024 = subst (λ l. length l ≤ 1024) (sym c.as_slice-mount-items.ensures.keys) c.self.invariant in
    let index = c.loop-mount.auto.mount-index-end in
    omega (arith, text.room, few, index, c.loop-mount.invariant.room, c.write_chain_end.ensures.text.room)
