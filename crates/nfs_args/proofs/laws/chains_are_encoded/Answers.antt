use Rattle.nfs_xdr.specs.Encoding.{opaque_text}
use Rattle.nfs_args.specs.Encoding.{IsString}
use Rattle.nfs_args.specs.Pages.{IsEntry, entry_text, IsEntryPlus, entry_plus_text}
use Rattle.nfs_args.specs.MountAnswers.{IsMounted, mounted_text, IsExported, exported_text}
use Rattle.nfs_args.proofs.Chains.{chain_written}
use Rattle.nfs_args.proofs.laws.chains_are_encoded.Goals as goal

pub returns : goal.returns
returns c = record {
  entries = chain_written IsEntry entry_text;
  entries_plus = chain_written IsEntryPlus entry_plus_text;
  clients = chain_written IsMounted mounted_text;
  volumes = chain_written IsExported exported_text;
  groups = chain_written IsString opaque_text;
}
