use Rattle.nfs_args.proofs.OnceAnswers.{answer_once}
use Rattle.nfs_args.proofs.MountOnce.{mount_answer_once}
use Rattle.nfs_args.proofs.laws.answers_are_encoded_once.Goals as goal

pub returns : goal.returns
returns c = record { nfs = answer_once; mount = mount_answer_once }
