-- What takes memory: a name that becomes another.
use Rattle.std.proofs.Common.{◌≡◌, ◌≢◌, ℕ, true, List, Option, Some, None, refl, ap}
use Rattle.std.specs.Prelude.{nat_eq, not}
use Rattle.nfs_inodes.proofs.Maps.{apart_number}
use Rattle.nfs_inodes.specs.Conditions.{NameApart}
use Rattle.nfs_inodes.specs.Reading.{entry_at}
use Rattle.nfs_inodes.specs.Tree.{Tree, Entry, on_some}
use Rattle.nfs_procs.specs.Changers.{names_apart}

apart_of : (o p : Option Entry) → ((e : Entry) → o ≡ Some e → (old : Entry) → p ≡ Some old → old.number ≢ e.number)
    → on_some o true (λ e. on_some p true (λ old. not (nat_eq old.number e.number))) ≡ true
apart_of None p apart = refl
apart_of (Some e) None apart = refl
apart_of (Some e) (Some old) apart = ap not (apart_number old.number e.number (apart e refl old refl))

pub they_differ : (t : Tree) (from to : ℕ) (name new_name : List ℕ) → NameApart t from name to new_name → names_apart t from name to new_name ≡ true
they_differ t from to name new_name apart = apart_of (entry_at t from name) (entry_at t to new_name) apart
