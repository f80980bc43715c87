use Rattle.std.proofs.Common.{subst, ◌∙◌}
use Rattle.nfs_xdr.specs.Reading.{AreBytes}
use Rattle.nfs_args.specs.Encoding.{IsArgsOf}
use Rattle.nfs_args.specs.Reading.{args_at}
use Rattle.nfs_args.proofs.Counted.{counted}
use Rattle.nfs_args.proofs.Finds.{finds_args, found_there, none_there}
use Rattle.nfs_args.proofs.args.NfsArgs.read.Goals as goal

pub returns-in-Ok-clause-read : goal.returns-in-Ok-clause-read
returns-in-Ok-clause-read c =
    found_there (IsArgsOf c.args.proc) (args_at c.args.proc) c.new-ahead.result c.args.input c.take.new.self c.take.new.input (finds_args c.args.proc) (subst AreBytes c.rest.ensures.all c.rest.ensures.bytes) (c.new-ahead.ensures ∙ c.rest.ensures.all) c.in-Ok.ensures

pub returns-in-Ok-clause-counted : goal.returns-in-Ok-clause-counted
returns-in-Ok-clause-counted c = let read = returns-in-Ok-clause-read c in counted c.args.proc c.take.new.self read.1.text read.1.encoded

pub returns-in-Err-clause-unreadable : goal.returns-in-Err-clause-unreadable
returns-in-Err-clause-unreadable c is =
    none_there (IsArgsOf c.args.proc) (args_at c.args.proc) c.new-ahead.result c.args.input c.in-Err.field-0 (finds_args c.args.proc) (c.new-ahead.ensures ∙ c.rest.ensures.all) c.in-Err.ensures.0
