-- A tree that is made again as far as some steps: what it has, and what there is room for.
use Rattle.std.proofs.Common.{◌≡◌, ◌≢◌, ℕ, suc, ◌+◌, ◌<◌, ◌≤◌, true, cond, List, [], ◌∷◌, ◌++◌, length, sum_by, nat_eq, get_or, Some, refl, sym, ap, subst, ◌∙◌}
use Rattle.std.proofs.Common.{arith}
use Rattle.std.specs.Prelude.{Bool, All, AllPairs, if◌then◌else◌}
use Rattle.std.proofs.lemmas.List.{length-append}
use Rattle.std.proofs.lemmas.List.Elements.{All-cons, All-nil}
use Rattle.std.proofs.lemmas.List.Sums.{sum_by_push}
use Rattle.nfs_inodes.specs.Law.{Law, Lives, LivesAsDirectory}
use Rattle.nfs_inodes.specs.Reading.{entries_at}
use Rattle.nfs_inodes.specs.Tree.{Tree, File, Kind, Regular, Directory, Link, Entry, Volume, at, bytes_for, bytes_in, bytes_of, entries_in, files_of}
use Rattle.nfs_inodes.specs.Tree.{is_directory, next_cookie_in, on_some, one_for, one_when}
use Rattle.nfs_inodes.proofs.Lists.{by_number, same_some}
use Rattle.nfs_inodes.proofs.Maps.{apart_number, itself}
use Rattle.nfs_round_trip.specs.Copies.{copied, copied_entries, copied_kind}
use Rattle.nfs_round_trip.proofs.Directories.{listed_by, shown}
use Rattle.nfs_round_trip.proofs.Made.{AreMade, Has, at_most_once, has_push, made_at, made_bounds, made_sum, none_high, partly, times, weighed, weighed_all}
use Rattle.nfs_round_trip.proofs.Made.{with_entries}
use Rattle.nfs_round_trip.proofs.Reaches.{HasNone}
use Rattle.nfs_round_trip.proofs.Walks.{Step}

-- ---- steps between files that are made

abbrev pub Known : List ℕ → List Step → Type 0
Known ns [] = Unit {0}
Known ns (s ∷ done) = Has s.0.number ns × Has s.1.number ns × Known ns done

pub known_number : (n : ℕ) (ns : List ℕ) (done : List Step) → Known ns done → Known (ns ++ n ∷ []) done
known_number n ns [] known = tt
known_number n ns (s ∷ done) known = (has_push s.0.number n ns known.0, has_push s.1.number n ns known.1, known_number n ns done known.2)

pub known_step : (ns : List ℕ) (done : List Step) (s : Step) → Known ns done → Has s.0.number ns → Has s.1.number ns → Known ns (done ++ s ∷ [])
known_step ns [] s known one two = (one, two, tt)
known_step ns (r ∷ done) s known one two = (known.0, known.1, known_step ns done s known.2 one two)

abbrev pub AllHave : List ℕ → List Entry → Type 0
AllHave ns [] = Unit {0}
AllHave ns (e ∷ es) = Has e.number ns × AllHave ns es

pub listed_yes : (s : Step) (rest : List Entry) (d : ℕ) → s.0.number ≡ d → listed_by d s ++ rest ≡ s.1 ∷ rest
listed_yes s rest d e = ap (λ b. cond b (s.1 ∷ []) [] ++ rest) (subst (λ i. nat_eq s.0.number i ≡ true) e (itself s.0.number))

listed_no : (s : Step) (rest : List Entry) (d : ℕ) → s.0.number ≢ d → listed_by d s ++ rest ≡ rest
listed_no s rest d o = ap (λ b. cond b (s.1 ∷ []) [] ++ rest) (apart_number s.0.number d o)

pub shown_have : (ns : List ℕ) (done : List Step) (d : ℕ) → Known ns done → AllHave ns (shown done d)
shown_have ns [] d known = tt
shown_have ns (s ∷ done) d known = by_number s.0.number d
    (λ e. subst (AllHave ns) (sym (listed_yes s (shown done d) d e)) (known.1, shown_have ns done d known.2))
    (λ o. subst (AllHave ns) (sym (listed_no s (shown done d) d o)) (shown_have ns done d known.2))

pub shown_unknown : (ns : List ℕ) (done : List Step) (d : ℕ) → Known ns done → (Has d ns → ⊥) → shown done d ≡ []
shown_unknown ns [] d known none = refl
shown_unknown ns (s ∷ done) d known none = by_number s.0.number d
    (λ e. absurd (none (subst (λ i. Has i ns) e known.0)))
    (λ o. listed_no s (shown done d) d o ∙ shown_unknown ns done d known.2 none)

pub shown_few : (done : List Step) (d : ℕ) → length (shown done d) ≤ length done
shown_few [] d = omega arith
shown_few (s ∷ done) d = let rest = shown_few done d in by_number s.0.number d
    (λ e. let is : length (shown (s ∷ done) d) ≡ suc (length (shown done d)) = ap length (listed_yes s (shown done d) d e) in omega (arith, rest, is))
    (λ o. let is : length (shown (s ∷ done) d) ≡ length (shown done d) = ap length (listed_no s (shown done d) d o) in omega (arith, rest, is))

-- ---- copies of files

pub copy_is_directory : (number : ℕ → ℕ) (es : List Entry) (k : Kind) → is_directory (copied_kind number (with_entries es k)) ≡ is_directory k
copy_is_directory number es (Regular bytes) = refl
copy_is_directory number es (Directory parent next_cookie entries) = refl
copy_is_directory number es (Link path) = refl

pub copy_bytes : (number : ℕ → ℕ) (es : List Entry) (k : Kind) → bytes_in (copied_kind number (with_entries es k)) ≡ bytes_in k
copy_bytes number es (Regular bytes) = refl
copy_bytes number es (Directory parent next_cookie entries) = refl
copy_bytes number es (Link path) = refl

pub copy_entries : (number : ℕ → ℕ) (es : List Entry) (k : Kind) → is_directory k ≡ true
    → entries_in (copied_kind number (with_entries es k)) ≡ copied_entries number 3 es
copy_entries number es (Regular bytes) y = cc
copy_entries number es (Directory parent next_cookie entries) y = refl
copy_entries number es (Link path) y = cc

pub copy_cookie : (number : ℕ → ℕ) (es : List Entry) (k : Kind) → is_directory k ≡ true
    → next_cookie_in (copied_kind number (with_entries es k)) ≡ 3 + length es
copy_cookie number es (Regular bytes) y = cc
copy_cookie number es (Directory parent next_cookie entries) y = refl
copy_cookie number es (Link path) y = cc

-- ---- entries of different names

same_after : {X : Type 0} (xs : List X) (x : X) (rest : List X) (d : X) → get_or (xs ++ x ∷ rest) (length xs) d ≡ x
same_after [] x rest d = refl
same_after (y ∷ xs) x rest d = same_after xs x rest d

pub none_before : (xs : List Entry) (e : Entry) (rest : List Entry) → AllPairs (λ e g. (e.name ≢ g.name) × (e.cookie < g.cookie)) (xs ++ e ∷ rest)
    → HasNone e.name xs
none_before [] e rest apart = tt
none_before (x ∷ xs) e rest apart = (
  λ s. (apart 0 (suc (length xs)) e (omega arith) (let l = length-append xs (e ∷ rest) in omega (arith, l))).0 (s
      ∙ ap (λ (g : Entry). g.name) (sym (same_after xs e rest e))),
  none_before xs e rest (λ j k d less inside. apart (suc j) (suc k) d (omega (arith, less)) (omega (arith, inside))),
)

pub all_other : (number : ℕ → ℕ) (cookie : ℕ) (name : List ℕ) (es : List Entry) → HasNone name es → All (λ e. e.name ≢ name) (copied_entries number cookie es)
all_other number cookie name [] none = All-nil (λ (e : Entry). e.name ≢ name)
all_other number cookie name (e ∷ es) none =
    All-cons (λ (g : Entry). g.name ≢ name) (record { cookie = cookie; name = e.name; number = number e.number })
    (copied_entries number (cookie + 1) es) none.0 (all_other number (cookie + 1) name es none.1)

-- ---- the tree

-- a file as it is made after some steps, with its times where they are given
abbrev pub so_far : List Step → (ℕ → Bool) → ℕ → File → File
so_far done timed n = partly (shown done n) (timed n)

pub record IsPart (t : Tree) (number : ℕ → ℕ) (timed : ℕ → Bool) (done : List Step) (ns : List ℕ) (vs : List Volume) (u : Tree) : Type 0 where
  pub files : AreMade t number (so_far done timed) 1 ns u.files
  pub next : u.next ≡ suc (length ns)
  pub known : Known ns done
  pub begun : (d : ℕ) → Has d ns → (rest : List Entry) × (entries_at t d ≡ shown done d ++ rest)
  pub few : length ns ≤ length done + length vs
  pub key : u.key ≡ t.key
  pub volumes : u.volumes ≡ vs
  pub limits : u.limits ≡ t.limits

-- what there is of a directory
pub record IsDirectoryMade (t : Tree) (number : ℕ → ℕ) (es : List Entry) (timed : Bool) (u : Tree) (d : ℕ) (f h : File) : Type 0 where
  pub lives : LivesAsDirectory u (number d) h
  pub volume : h.volume ≡ f.volume
  pub entries : entries_in h.kind ≡ copied_entries number 3 es
  pub cookie : next_cookie_in h.kind ≡ 3 + length es
  pub tag : ℕ
  pub is : h ≡ copied number tag (partly es timed f)

module _ (t : Tree) (law : Law t) (number : ℕ → ℕ) (timed : ℕ → Bool) (done : List Step) (ns : List ℕ) (vs : List Volume) (u : Tree)
    (part : IsPart t number timed done ns vs u) where
  pub file_made : (n : ℕ) (f : File) → Has n ns → Lives t n f → (h : File) × (at (number n) u.files ≡ Some h) × (tag : ℕ)
      × (h ≡ copied number tag (so_far done timed n f))
  file_made n f has lives =
      let m = made_at t number (so_far done timed) 1 ns u.files n part.files has in
      let same : m.2.file ≡ f = same_some (sym m.2.at_file ∙ lives) in
      (m.0, m.1, m.2.tag, m.2.is ∙ ap (λ (g : File). copied number m.2.tag (so_far done timed n g)) same)

  pub directory_made : (d : ℕ) (f : File) → Has d ns → LivesAsDirectory t d f → (h : File) × IsDirectoryMade t number (shown done d) (timed d) u d f h
  directory_made d f has lives =
      let m = file_made d f has lives.0 in (
        m.0,
        record {
          lives = (m.1, ap (λ (g : File). is_directory g.kind) m.3 ∙ copy_is_directory number (shown done d) f.kind ∙ lives.1);
          volume = ap (λ (g : File). g.volume) m.3;
          entries = ap (λ (g : File). entries_in g.kind) m.3 ∙ copy_entries number (shown done d) f.kind lives.1;
          cookie = ap (λ (g : File). next_cookie_in g.kind) m.3 ∙ copy_cookie number (shown done d) f.kind lives.1;
          tag = m.2;
          is = m.3;
        },
      )

  -- ---- totals

  module _ (n : ℕ) (g : File) (lives : Lives t n g) (new : number n ≡ suc (length ns)) where
    pub not_yet : Has n ns → ⊥
    not_yet has = let high = (made_bounds t number (so_far done timed) 1 ns u.files n part.files has).1 in omega (arith, high, new)

    once_more : (m : ℕ) → times m (ns ++ n ∷ []) ≤ 1
    once_more m =
        let sum = sum_by_push (λ (k : ℕ). one_when (nat_eq k m)) ns n in by_number n m
        (λ s. let none = none_high t number (so_far done timed) 1 ns u.files n part.files (omega (arith, new)) in
        let same : times m ns ≡ times n ns = ap (λ i. times i ns) (sym s) in
        let one : one_when (nat_eq n m) ≡ 1 = ap one_when (subst (λ i. nat_eq n i ≡ true) s (itself n)) in omega (arith, sum, none, same, one))
        (λ o. let rest = at_most_once t number (so_far done timed) 1 ns u.files m part.files in
        let none : one_when (nat_eq n m) ≡ 0 = ap one_when (apart_number n m o) in omega (arith, sum, rest, none))

    -- with one file more no more is counted than in the tree that is made again
    pub room_for : (weight : File → ℕ) → ((m tag : ℕ) (f : File) → weight (copied number tag (so_far done timed m f)) ≡ weight f)
        → sum_by (λ (e : ℕ × File). weight e.1) u.files + weight g ≤ sum_by (λ (e : ℕ × File). weight e.1) t.files
    room_for weight keeps =
        let made = made_sum t number (so_far done timed) weight (weighed weight t.files) 1 ns u.files part.files
        (λ m h has is. let e : weight h ≡ weighed weight t.files m =
        ap weight is.is ∙ keeps m is.tag is.file ∙ ap (λ o. on_some o 0 weight) (sym is.at_file) in omega (arith, e)) in
        let all = weighed_all weight t.files (ns ++ n ∷ []) once_more in
        let sum = sum_by_push (weighed weight t.files) ns n in
        let here : weighed weight t.files n ≡ weight g = ap (λ o. on_some o 0 weight) lives in omega (arith, made, all, sum, here)

    pub room_for_bytes : (index : ℕ) → bytes_of index u.files + bytes_for index g ≤ bytes_of index t.files
    room_for_bytes index = room_for (bytes_for index)
        (λ m tag f. ap (λ bytes. if nat_eq f.volume index then length bytes else 0) (copy_bytes number (shown done m) f.kind))

    pub room_for_files : (index : ℕ) → files_of index u.files + one_for index g ≤ files_of index t.files
    room_for_files index = room_for (one_for index) (λ m tag f. refl)
