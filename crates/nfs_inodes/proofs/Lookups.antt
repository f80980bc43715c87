-- What is found in a directory lives.
use Rattle.std.proofs.Common.{◌≡◌, ℕ, Bool, true, cond, List, [], bytes_eq, Option, Some, None, option_map, refl, sym, ap, ◌∙◌}
use Rattle.std.specs.List.{find}
use Rattle.nfs_inodes.specs.Tree.{Tree, File, Kind, Entry, Regular, Directory, Link, at, on_some, entries_in, is_directory, parent_in, nlink}
use Rattle.nfs_inodes.specs.Law.{Law, Lives}
use Rattle.nfs_inodes.specs.Laws.{LiveTogether}
use Rattle.nfs_inodes.specs.Reading.{dot, dot_dot, number_under, listing, attributes_of, attributes_at}
use Rattle.nfs_inodes.proofs.Lists.{by_test, same_some, not_both, find_contains}
use Rattle.nfs_inodes.proofs.Views.{mapped}

module _ (t : Tree) (law : Law t) (d n : ℕ) (name : List ℕ) where
  abbrev is_named : Entry → Bool
  is_named e = bytes_eq e.name name

  abbrev number : Entry → ℕ
  number e = e.number

  -- under one of a directory's entries
  entered : (f : File) → Lives t d f → option_map number (find is_named (entries_in f.kind)) ≡ Some n → (g : File) × Lives t n g × (g.volume ≡ f.volume)
  entered f a e =
      let m = mapped number (find is_named (entries_in f.kind)) n e in
      let named = law.entries d f m.0 a (find_contains is_named (entries_in f.kind) m.0 m.1) in
      (named.0, ap (λ m. at m t.files) (sym m.2) ∙ named.1, named.2)

  in_kind : (f : File) → Lives t d f → (k : Kind) → f.kind ≡ k → option_map number (find is_named (listing d k)) ≡ Some n → (g : File) × Lives t n g × (g.volume ≡ f.volume)
  in_kind f a (Regular bytes) is e = absurd (not_both refl e)
  in_kind f a (Link path) is e = absurd (not_both refl e)
  in_kind f a (Directory parent next_cookie entries) is e =
      let rest : Option Entry = find is_named entries in
      let itself : Entry = record { cookie = 1; name = dot; number = d } in
      let above : Entry = record { cookie = 2; name = dot_dot; number = parent } in
      by_test (bytes_eq dot name)
      (λ y. (f, ap (λ m. at m t.files) (sym (same_some (sym (ap (λ b. option_map number (cond b (Some itself) (cond (bytes_eq dot_dot name) (Some above) rest))) y) ∙ e))) ∙ a, refl))
      (λ no. let e : option_map number (cond (bytes_eq dot_dot name) (Some above) rest) ≡ Some n = sym (ap (λ b. option_map number (cond b (Some itself) (cond (bytes_eq dot_dot name) (Some above) rest))) no) ∙ e in
      by_test (bytes_eq dot_dot name)
      (λ y. let home = law.homes d f (a, ap is_directory is) in
      let same : parent ≡ n = same_some (sym (ap (λ b. option_map number (cond b (Some above) rest)) y) ∙ e) in
      (home.0, ap (λ m. at m t.files) (sym (ap parent_in is ∙ same)) ∙ home.1.0, home.2))
      (λ no. entered f a (ap (λ k. option_map number (find is_named (entries_in k))) is ∙ sym (ap (λ b. option_map number (cond b (Some above) rest)) no) ∙ e)))

  of_directory : (k : Kind) → option_map number (find is_named (listing d k)) ≡ Some n → is_directory k ≡ true
  of_directory (Regular bytes) e = absurd (not_both refl e)
  of_directory (Directory parent next_cookie entries) e = refl
  of_directory (Link path) e = absurd (not_both refl e)

  of : (o : Option File) → at d t.files ≡ o → option_map number (find is_named (on_some o [] (λ f. listing d f.kind))) ≡ Some n → LiveTogether t d n
  of None a e = absurd (not_both refl e)
  of (Some f) a e = let g = in_kind f a f.kind refl e in record { dir = f; at_dir = (a, of_directory f.kind e); file = g.0; at_file = g.1; volume = g.2 }

  pub found_lives : number_under t d name ≡ Some n → LiveTogether t d n
  found_lives e = of (at d t.files) refl e

-- nothing is found where nothing lives
pub found_shown : (t : Tree) → Law t → (d n : ℕ) (name : List ℕ) → number_under t d name ≡ Some n → attributes_at t n ≡ None → ⊥
found_shown t law d n name e none = let both = found_lives t law d n name e in
    not_both none (ap (option_map (λ (f : File). attributes_of n f (nlink t.files n f))) both.at_file)
