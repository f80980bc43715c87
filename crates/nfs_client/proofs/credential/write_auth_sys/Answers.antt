use Rattle.std.proofs.Common.{[], ◌∷◌, length, refl}
use Rattle.nfs_xdr.specs.Encoding.{numbers_text}
use Rattle.nfs_client.proofs.Numbers.{room_left, one_more}
use Rattle.nfs_client.proofs.credential.write_auth_sys.Goals as goal

pub u32-requires : goal.u32-requires
u32-requires c = room_left (numbers_text (0 ∷ 0 ∷ c.args.cred.now.uid ∷ c.args.cred.now.gid ∷ length c.as_slice-gid-items.result.now ∷ [])) c.as_slice-gid-items.result.now c.loop-gid.gid-index _ _ refl c.requires c.loop-gid.invariant.few c.loop-gid-test.true c.loop-gid.invariant.text

pub loop-gid-preserved : goal.loop-gid-preserved
loop-gid-preserved c = record {
  gids = c.loop-gid.invariant.gids;
  few = c.loop-gid.invariant.few;
  text = one_more (numbers_text (0 ∷ 0 ∷ c.args.cred.now.uid ∷ c.args.cred.now.gid ∷ length c.as_slice-gid-items.result.now ∷ [])) c.as_slice-gid-items.result.now c.loop-gid.gid-index _ _ _ c.loop-gid-test.true c.loop-gid.invariant.text c.u32.ensures.text;
}
