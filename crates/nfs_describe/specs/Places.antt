-- Where the files of a volume stand, directory by directory.
use Rattle.std.specs.Prelude.{◌≡◌, ℕ, ◌&&◌, Bool, true, false, List, [], ◌∷◌, ◌++◌, length, map, nat_le, slice_get, Some, Vec, if◌then◌else◌}
use Rattle.std.specs.List.{flat_map, list_all}
use Rattle.nfs_inodes.specs.Tree.{Tree, Entry, Volume, on_some}
use Rattle.nfs_inodes.specs.Reading.{entries_at, path_at}
use Rattle.nfs_load.specs.Names.{is_plain}
use Rattle.nfs_load.specs.declared.name_form.NameForm.{NameForm}
use Rattle.nfs_load.specs.declared.name_form.NameForm.TheVariants.{Plain, Percent}
use Rattle.nfs_describe.specs.Lines.{is_target}

-- a path from the root of a volume on, empty for the root itself, and the file that it names
pub record FilePath : Type 0 where
  pub path : List ℕ
  pub number : ℕ

-- the place of an entry of the directory at a path
abbrev pub place_below : List ℕ → Entry → FilePath
place_below path e = record { path = path ++ 47 ∷ e.name; number = e.number }

-- the places of the entries of a directory, in their order
abbrev pub places_below : Tree → FilePath → List FilePath
places_below t p = map (place_below p.path) (entries_at t p.number)

-- A walk: the root of a volume, and after it what stands in the first place, in the second, and so on.
abbrev pub IsWalk : Tree → ℕ → List FilePath → Type 0
IsWalk t root places = places ≡ record { path = []; number = root } ∷ flat_map (places_below t) places

-- the walks of all volumes
pub record AreWalks (t : Tree) (walks : List (List FilePath)) : Type 0 where
  pub each : length walks ≡ length t.volumes
  pub walked : (index : ℕ) (v : Volume) (walk : List FilePath) → slice_get t.volumes index ≡ Some v → slice_get walks index ≡ Some walk → IsWalk t v.root walk

-- walks as they are in memory
abbrev pub walks_of : {Z : Type 0} → List (Vec FilePath Z) → List (List FilePath)
walks_of {Z} walks = map (λ (walk : Vec FilePath Z). walk.items) walks

-- ---- what can stand in a line as it is

-- a path: at most 1,024 bytes from `!` to `~`, none `%`
abbrev pub is_plain_path : List ℕ → Bool
is_plain_path path = nat_le (length path) 1024 && list_all is_plain path

-- a place: its path, and what it holds if it is a link
abbrev pub is_plain_place : Tree → FilePath → Bool
is_plain_place t p = is_plain_path p.path && on_some (path_at t p.number) true is_target

-- all places of a walk
abbrev pub are_plain : Tree → List FilePath → Bool
are_plain t walk = list_all (is_plain_place t) walk

-- the walk of a volume has a place that can't
pub record HasOther (t : Tree) : Type 0 where
  pub place : ℕ
  pub volume : Volume
  pub at_place : slice_get t.volumes place ≡ Some volume
  pub walk : List FilePath
  pub walked : IsWalk t volume.root walk
  pub other : are_plain t walk ≡ false

-- how names are written where these are the walks: as they are where all can
abbrev pub form_for : Tree → List (List FilePath) → NameForm
form_for t walks = if list_all (are_plain t) walks then Plain else Percent

-- whether the names of a walk can be written in a form
abbrev pub can_hold : NameForm → Tree → List FilePath → Bool
can_hold Plain t walk = are_plain t walk
can_hold Percent t walk = true
