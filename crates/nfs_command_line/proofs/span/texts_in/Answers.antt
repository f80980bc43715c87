use Rattle.std.proofs.Common.{ap, sym, ◌∙◌}
use Rattle.nfs_command_line.specs.Given.{texts_in}
use Rattle.nfs_command_line.proofs.Spans.{texts_between}
use Rattle.nfs_command_line.proofs.span.texts_in.Goals as goal

pub returns-in-Between : goal.returns-in-Between
returns-in-Between c =
    texts_between c.texts-all.result.now c.slice_of.result.now _ c.places-places.result.now _ c.in-Between.from c.in-Between.to c.count_before.result c.end_of.result
    c.slice_of.ensures c.count_before.ensures c.end_of.ensures c.places-places.ensures c.texts-all.ensures
    ∙ ap (λ span. texts_in span c.args.words.now c.args.id.now) (sym c.in-Between.is)
