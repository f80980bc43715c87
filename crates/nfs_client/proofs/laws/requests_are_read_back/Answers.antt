use Rattle.nfs_args.proofs.Finds.{finds_args}
use Rattle.nfs_client.specs.Requests.{file_procedure, file_args, file_text, name_procedure, name_args, name_text}
use Rattle.nfs_client.proofs.Encoded.{file_encoded, name_encoded}
use Rattle.nfs_client.proofs.laws.requests_are_read_back.Goals as goal

pub returns : goal.returns
returns c = record {
  files = λ r file content fits f n rest. (finds_args (file_procedure r)).again (file_args r file content) (file_text r file content) rest (file_encoded r file content fits f n);
  names = λ r dir name fits d n rest. (finds_args (name_procedure r)).again (name_args r dir name) (name_text r dir name) rest (name_encoded r dir name fits d n);
}
