use Rattle.std.proofs.Common.{sym, ap, ◌∙◌}
use Rattle.nfs_handles.specs.Handles.{reading_without}
use Rattle.nfs_handles.specs.declared.reading.Reading.TheVariants.{Live}
use Rattle.nfs_handles.proofs.files.Files.read.Goals as goal

pub returns-in-Ok : goal.returns-in-Ok
returns-in-Ok g c = ap Live c.new.ensures ∙ sym c.in-Ok.ensures.found.0

pub returns-in-Err-Stale : goal.returns-in-Err-Stale
returns-in-Err-Stale g c = sym (c.in-Err-Stale.ensures.none ∙ ap reading_without c.in-Err-Stale.field-0-is)

pub returns-in-Err-Bad : goal.returns-in-Err-Bad
returns-in-Err-Bad g c = sym (c.in-Err-Bad.ensures.none ∙ ap reading_without c.in-Err-Bad.field-0-is)
