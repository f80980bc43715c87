use Rattle.std.proofs.Common.{◌≡◌, ◌≤◌, [], ◌∷◌, ◌++◌, length, take}
use Rattle.nfs_xdr.specs.Written.{Appends}
use Rattle.nfs_xdr.specs.Encoding.{numbers_text}
use Rattle.nfs_client.proofs.credential.write_auth_sys.Given as goal

abbrev pub invariant-loop-gid : goal.invariant-loop-gid
invariant-loop-gid l = record {
  gids : l.gid-items ≡ l.fn.cred.gids.items;
  few : length l.gid-items ≤ 16;
  text : Appends (numbers_text (0 ∷ 0 ∷ l.fn.cred.uid ∷ l.fn.cred.gid ∷ length l.gid-items ∷ []) ++ numbers_text (take l.gid-index l.gid-items)) l.fn.out l.out;
}
