-- How lines are worded.
use Rattle.std.specs.Prelude.{◌&&◌, Bool, false, not, is_none}
use Rattle.nfs_lines.specs.declared.wording.WhenFailed.{WhenFailed}
use Rattle.nfs_lines.specs.declared.wording.WhenFailed.TheVariants.{Refuse, Count}
use Rattle.nfs_lines.specs.declared.wording.Wording.{Wording}

abbrev pub is_plain_where : WhenFailed → Bool → Bool
is_plain_where Refuse plain = plain
is_plain_where Count plain = false

-- each denied call has its line as it stands: no time before it, no names after it, no rule skipped, and none only counted
abbrev pub is_plain : Wording → Bool
is_plain w = is_plain_where w.when_failed (not w.has_times && (not w.has_names && is_none w.skipped))
