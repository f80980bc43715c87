use Rattle.std.proofs.Common.{◌≡◌, ℕ, List, ◌++◌, [], take, drop, option_map}
use Rattle.nfs_describe.specs.Places.{FilePath}
use Rattle.nfs_describe.specs.Texts.{files_text, first_name, first_places, kept_name, lent}
use Rattle.nfs_describe.proofs.files.put_files.Given as goal

abbrev pub invariant-loop-place : goal.invariant-loop-place
invariant-loop-place g l = record {
  written : (before : List ℕ) → g.O.Output.has l.fn.out before
      → (done : List ℕ) × g.O.Output.has l.out done
      × (done ++ files_text l.form l.tree (take l.place-index l.places) (drop l.place-index l.places) ≡ before ++ files_text l.form l.tree [] l.places);
  firsts : lent l.firsts.items ++ first_places (take l.place-index l.places) (drop l.place-index l.places) ≡ first_places [] l.places;
  names : (n : ℕ) → kept_name l.first_names.entries n ≡ option_map (λ (p : FilePath). p.path) (first_name n (take l.place-index l.places));
}
