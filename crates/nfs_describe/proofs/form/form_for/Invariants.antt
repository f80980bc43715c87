use Rattle.std.proofs.Common.{◌≡◌, drop}
use Rattle.std.specs.List.{list_all}
use Rattle.nfs_describe.specs.Places.{are_plain, walks_of}
use Rattle.nfs_describe.proofs.form.form_for.Given as goal

abbrev pub invariant-loop-walk : goal.invariant-loop-walk
invariant-loop-walk l = list_all (are_plain l.tree) (walks_of l.walks) ≡ list_all (are_plain l.tree) (walks_of (drop l.walk-index l.walks))
