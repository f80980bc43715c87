use Rattle.std.proofs.Common.{subst, ◌∙◌}
use Rattle.std.specs.Str.{IsTrimAsciiEnd}
use Rattle.nfs_replay.proofs.printing.Printer.named_audit.Goals as goal

pub returns : goal.returns
returns g c = (
  c.trim_ascii_end.result.now,
  subst (λ l. IsTrimAsciiEnd l c.trim_ascii_end.result.now) (c.as_slice.ensures.value ∙ c.put.ensures) c.trim_ascii_end.ensures.value,
  c.named.ensures,
)
