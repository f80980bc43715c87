use Rattle.std.proofs.Common.{sym, ◌∙◌}
use Rattle.nfs_attrs.specs.Encoding.{IsMoment}
use Rattle.nfs_attrs.specs.Reading.{moment_at}
use Rattle.nfs_attrs.proofs.Finds.{found_there, finds_moment}
use Rattle.nfs_attrs.proofs.moment.read_moment.Goals as goal

pub returns-clause-reads : goal.returns-clause-reads
returns-clause-reads c =
    found_there IsMoment moment_at c.rest.result.now c.args.input.now c.in_ok-moment.moment c.in_ok-moment.rest finds_moment c.rest.ensures.bytes c.rest.ensures.all (sym c.moment_of.ensures ∙ c.in_ok-moment.was)
