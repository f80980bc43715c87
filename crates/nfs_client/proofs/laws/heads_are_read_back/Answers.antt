use Rattle.nfs_rpc.proofs.AuthSys.{finds_cred}
use Rattle.nfs_rpc.proofs.Calls.{finds_head}
use Rattle.nfs_client.specs.Calls.{head_text, call_said, auth_sys_text}
use Rattle.nfs_client.proofs.Heads.{head_encoded, credential_encoded}
use Rattle.nfs_client.proofs.laws.heads_are_read_back.Goals as goal

pub returns : goal.returns
returns c = record {
  heads = λ call body rest fits few. finds_head.again (call_said call body) (head_text call body) rest (head_encoded call body fits few);
  credentials = λ cred rest fits. finds_cred.again cred (auth_sys_text cred) rest (credential_encoded cred fits);
}
