-- What the lines that are written say.
use Rattle.std.proofs.Common.{◌≡◌, ℕ, ◌<◌, ◌^◌, true, List, [], ◌∷◌, ◌++◌, Ok, refl, ap, ◌∙◌, append_assoc, arith}
use Rattle.std.specs.Prelude.{Result, codes, decimal}
use Rattle.hex.specs.Hex.{encode_lower}
use Rattle.nfs_attrs.specs.declared.moment.Moment.{Moment}
use Rattle.nfs_load.specs.Fields.{◌>>=◌, after, by, content_in, mode_in, number_in, target_in}
use Rattle.nfs_load.specs.Listings.{octal}
use Rattle.nfs_load.specs.Moments.{moment_in}
use Rattle.nfs_load.specs.Paths.{path_in, path_or_root_in, volume_path_in}
use Rattle.nfs_load.specs.Statements.{Read, id_in, given_in, volume_in, dir_in, file_in, link_in, hard_in, times_in}
use Rattle.nfs_load.specs.declared.cause.Cause.{Cause}
use Rattle.nfs_load.specs.declared.line.Keyword.TheVariants.{Server, Names, Volume, Dir, File, Link, Hard, Times}
use Rattle.nfs_load.specs.declared.name_form.NameForm.{NameForm}
use Rattle.nfs_load.specs.declared.name_form.NameForm.TheVariants.{Percent}
use Rattle.nfs_load.specs.declared.statement.Given.{Given}
use Rattle.nfs_describe.specs.Lines.{content_text, dir_line, file_line, hard_line, link_line, moment_text, names_line, server_line, times_line, volume_line}
use Rattle.nfs_read_back.specs.ReadBack.{IsGiven, is_said}
use Rattle.nfs_read_back.specs.ReadBack as law
use Rattle.nfs_read_back.proofs.Digits.{content_read, content_said, decimal_said, key_read, key_said, mode_read, mode_said, number_read}
use Rattle.nfs_read_back.proofs.Lines.{read_as}
use Rattle.nfs_read_back.proofs.Moments.{moment_read, moment_said}

-- ---- fields

id_read : (n : ℕ) → n < 2 ^ 32 → id_in (decimal n) ≡ Ok n
id_read n small = number_read 0 4294967295 n (omega arith) (omega (arith, small)) (omega (arith, small))

id_said : (n : ℕ) → n < 2 ^ 32 → is_said (decimal n) ≡ true
id_said n small = decimal_said n (omega (arith, small))

given_read : (m u g : List ℕ) (rest : List (List ℕ)) (given : Given) → mode_in m ≡ Ok given.mode → id_in u ≡ Ok given.uid → id_in g ≡ Ok given.gid
    → given_in (m ∷ u ∷ g ∷ rest) ≡ Ok (given, rest)
given_read m u g rest given mode uid gid =
    ap (λ (r : Result ℕ Cause). after (u ∷ g ∷ rest) r >>= (λ (mode : ℕ × List (List ℕ)). by id_in mode.1 >>= (λ (uid : ℕ × List (List ℕ)). by id_in uid.1 >>= (λ (gid : ℕ × List (List ℕ)).
    Ok (record { mode = mode.0; uid = uid.0; gid = gid.0 }, gid.1))))) mode
    ∙ ap (λ (r : Result ℕ Cause). after (g ∷ rest) r >>= (λ (uid : ℕ × List (List ℕ)). by id_in uid.1 >>= (λ (gid : ℕ × List (List ℕ)). Ok (record { mode = given.mode; uid = uid.0; gid = gid.0 }, gid.1)))) uid
    ∙ ap (λ (r : Result ℕ Cause). after rest r >>= (λ (gid : ℕ × List (List ℕ)). Ok (record { mode = given.mode; uid = given.uid; gid = gid.0 }, gid.1))) gid

given_fields : (given : Given) (rest : List (List ℕ)) → IsGiven given → given_in (octal given.mode ∷ decimal given.uid ∷ decimal given.gid ∷ rest) ≡ Ok (given, rest)
given_fields given rest is = given_read (octal given.mode) (decimal given.uid) (decimal given.gid) rest given (mode_read given.mode is.0) (id_read given.uid is.1) (id_read given.gid is.2)

-- ---- statements

dir_read : (form : NameForm) (path : List ℕ) (names : List (List ℕ)) (given : Given) (fields rest : List (List ℕ)) → path_in form path ≡ Ok names → given_in fields ≡ Ok (given, rest)
    → dir_in form (path ∷ fields) ≡ Ok (record { path = names; given = given }, rest)
dir_read form path names given fields rest is gives =
    ap (λ (r : Result (List (List ℕ)) Cause). after fields r >>= (λ (path : List (List ℕ) × List (List ℕ)). given_in path.1 >>= (λ (given : Given × List (List ℕ)). Ok (record { path = path.0; given = given.0 }, given.1)))) is
    ∙ ap (λ (r : Read Given). r >>= (λ (given : Given × List (List ℕ)). Ok (record { path = names; given = given.0 }, given.1))) gives

file_read : (form : NameForm) (most : ℕ) (path c bytes : List ℕ) (names : List (List ℕ)) (given : Given) (fields : List (List ℕ)) → path_in form path ≡ Ok names → given_in fields ≡ Ok (given, c ∷ [])
    → content_in most c ≡ Ok bytes → file_in form most (path ∷ fields) ≡ Ok (record { path = names; given = given; content = bytes }, [])
file_read form most path c bytes names given fields is gives content =
    ap (λ (r : Result (List (List ℕ)) Cause). after fields r >>= (λ (path : List (List ℕ) × List (List ℕ)). given_in path.1 >>= (λ (given : Given × List (List ℕ)). by (content_in most) given.1 >>= (λ (content : List ℕ × List (List ℕ)).
    Ok (record { path = path.0; given = given.0; content = content.0 }, content.1))))) is
    ∙ ap (λ (r : Read Given). r >>= (λ (given : Given × List (List ℕ)). by (content_in most) given.1 >>= (λ (content : List ℕ × List (List ℕ)). Ok (record { path = names; given = given.0; content = content.0 }, content.1)))) gives
    ∙ ap (λ (r : Result (List ℕ) Cause). after [] r >>= (λ (content : List ℕ × List (List ℕ)). Ok (record { path = names; given = given; content = content.0 }, content.1))) content

link_read : (form : NameForm) (most : ℕ) (path u g field target : List ℕ) (names : List (List ℕ)) (uid gid : ℕ) → path_in form path ≡ Ok names → id_in u ≡ Ok uid → id_in g ≡ Ok gid
    → target_in form most field ≡ Ok target → link_in form most (path ∷ u ∷ g ∷ field ∷ []) ≡ Ok (record { path = names; uid = uid; gid = gid; target = target }, [])
link_read form most path u g field target names uid gid is owner group holds =
    ap (λ (r : Result (List (List ℕ)) Cause). after (u ∷ g ∷ field ∷ []) r >>= (λ (path : List (List ℕ) × List (List ℕ)). by id_in path.1 >>= (λ (uid : ℕ × List (List ℕ)). by id_in uid.1 >>= (λ (gid : ℕ × List (List ℕ)).
    by (target_in form most) gid.1 >>= (λ (target : List ℕ × List (List ℕ)). Ok (record { path = path.0; uid = uid.0; gid = gid.0; target = target.0 }, target.1)))))) is
    ∙ ap (λ (r : Result ℕ Cause). after (g ∷ field ∷ []) r >>= (λ (uid : ℕ × List (List ℕ)). by id_in uid.1 >>= (λ (gid : ℕ × List (List ℕ)).
    by (target_in form most) gid.1 >>= (λ (target : List ℕ × List (List ℕ)). Ok (record { path = names; uid = uid.0; gid = gid.0; target = target.0 }, target.1))))) owner
    ∙ ap (λ (r : Result ℕ Cause). after (field ∷ []) r >>= (λ (gid : ℕ × List (List ℕ)). by (target_in form most) gid.1 >>= (λ (target : List ℕ × List (List ℕ)). Ok (record { path = names; uid = uid; gid = gid.0; target = target.0 }, target.1)))) group
    ∙ ap (λ (r : Result (List ℕ) Cause). after [] r >>= (λ (target : List ℕ × List (List ℕ)). Ok (record { path = names; uid = uid; gid = gid; target = target.0 }, target.1))) holds

hard_read : (form : NameForm) (path old : List ℕ) (names olds : List (List ℕ)) → path_in form path ≡ Ok names → path_in form old ≡ Ok olds
    → hard_in form (path ∷ old ∷ []) ≡ Ok (record { path = names; old = olds }, [])
hard_read form path old names olds is was =
    ap (λ (r : Result (List (List ℕ)) Cause). after (old ∷ []) r >>= (λ (path : List (List ℕ) × List (List ℕ)). by (path_in form) path.1 >>= (λ (old : List (List ℕ) × List (List ℕ)). Ok (record { path = path.0; old = old.0 }, old.1)))) is
    ∙ ap (λ (r : Result (List (List ℕ)) Cause). after [] r >>= (λ (old : List (List ℕ) × List (List ℕ)). Ok (record { path = names; old = old.0 }, old.1))) was

times_read : (form : NameForm) (path a m c : List ℕ) (names : List (List ℕ)) (atime mtime ctime : Moment) → path_or_root_in form path ≡ Ok names → moment_in a ≡ Ok atime → moment_in m ≡ Ok mtime
    → moment_in c ≡ Ok ctime → times_in form (path ∷ a ∷ m ∷ c ∷ []) ≡ Ok (record { path = names; atime = atime; mtime = mtime; ctime = ctime }, [])
times_read form path a m c names atime mtime ctime is one two three =
    ap (λ (r : Result (List (List ℕ)) Cause). after (a ∷ m ∷ c ∷ []) r >>= (λ (path : List (List ℕ) × List (List ℕ)). by moment_in path.1 >>= (λ (atime : Moment × List (List ℕ)). by moment_in atime.1 >>= (λ (mtime : Moment × List (List ℕ)).
    by moment_in mtime.1 >>= (λ (ctime : Moment × List (List ℕ)). Ok (record { path = path.0; atime = atime.0; mtime = mtime.0; ctime = ctime.0 }, ctime.1)))))) is
    ∙ ap (λ (r : Result Moment Cause). after (m ∷ c ∷ []) r >>= (λ (atime : Moment × List (List ℕ)). by moment_in atime.1 >>= (λ (mtime : Moment × List (List ℕ)).
    by moment_in mtime.1 >>= (λ (ctime : Moment × List (List ℕ)). Ok (record { path = names; atime = atime.0; mtime = mtime.0; ctime = ctime.0 }, ctime.1))))) one
    ∙ ap (λ (r : Result Moment Cause). after (c ∷ []) r >>= (λ (mtime : Moment × List (List ℕ)). by moment_in mtime.1 >>= (λ (ctime : Moment × List (List ℕ)). Ok (record { path = names; atime = atime; mtime = mtime.0; ctime = ctime.0 }, ctime.1)))) two
    ∙ ap (λ (r : Result Moment Cause). after [] r >>= (λ (ctime : Moment × List (List ℕ)). Ok (record { path = names; atime = atime; mtime = mtime; ctime = ctime.0 }, ctime.1))) three

volume_read : (limit : ℕ) (path b f : List ℕ) (bytes files : ℕ) (given : Given) (fields : List (List ℕ)) → volume_path_in path ≡ Ok path → number_in 0 1099511627776 b ≡ Ok bytes → number_in 1 limit f ≡ Ok files
    → given_in fields ≡ Ok (given, []) → volume_in limit (path ∷ b ∷ f ∷ fields) ≡ Ok (record { path = path; max_bytes = bytes; max_files = files; given = given }, [])
volume_read limit path b f bytes files given fields is most many gives =
    ap (λ (r : Result (List ℕ) Cause). after (b ∷ f ∷ fields) r >>= (λ (path : List ℕ × List (List ℕ)). by (number_in 0 1099511627776) path.1 >>= (λ (max_bytes : ℕ × List (List ℕ)). by (number_in 1 limit) max_bytes.1 >>= (λ (max_files : ℕ × List (List ℕ)).
    given_in max_files.1 >>= (λ (given : Given × List (List ℕ)). Ok (record { path = path.0; max_bytes = max_bytes.0; max_files = max_files.0; given = given.0 }, given.1)))))) is
    ∙ ap (λ (r : Result ℕ Cause). after (f ∷ fields) r >>= (λ (max_bytes : ℕ × List (List ℕ)). by (number_in 1 limit) max_bytes.1 >>= (λ (max_files : ℕ × List (List ℕ)).
    given_in max_files.1 >>= (λ (given : Given × List (List ℕ)). Ok (record { path = path; max_bytes = max_bytes.0; max_files = max_files.0; given = given.0 }, given.1))))) most
    ∙ ap (λ (r : Result ℕ Cause). after fields r >>= (λ (max_files : ℕ × List (List ℕ)). given_in max_files.1 >>= (λ (given : Given × List (List ℕ)). Ok (record { path = path; max_bytes = bytes; max_files = max_files.0; given = given.0 }, given.1)))) many
    ∙ ap (λ (r : Read Given). r >>= (λ (given : Given × List (List ℕ)). Ok (record { path = path; max_bytes = bytes; max_files = files; given = given.0 }, given.1))) gives

-- ---- lines

-- a text that stands before another as a space does
abbrev pub IsSpace : List ℕ → Type 0
IsSpace s = (xs : List ℕ) → s ++ xs ≡ 32 ∷ xs

pub space : IsSpace (codes " ")
space xs = refl

pub hard_words : (k s path old e : List ℕ) → IsSpace s → k ++ path ++ s ++ old ++ e ≡ k ++ (path ++ 32 ∷ old ++ e)
hard_words k s path old e is =
    let flat : k ++ path ++ s ++ old ++ e ≡ k ++ (path ++ (s ++ (old ++ e))) = simp append_assoc in
    let back : k ++ (path ++ 32 ∷ (old ++ e)) ≡ k ++ (path ++ 32 ∷ old ++ e) = simp append_assoc in
    flat ∙ ap (λ l. k ++ (path ++ l)) (is (old ++ e)) ∙ back

dir_words : (k s path m u g e : List ℕ) → IsSpace s → k ++ path ++ (s ++ m ++ s ++ u ++ s ++ g) ++ e ≡ k ++ (path ++ 32 ∷ (m ++ 32 ∷ (u ++ 32 ∷ g)) ++ e)
dir_words k s path m u g e is =
    let flat : k ++ path ++ (s ++ m ++ s ++ u ++ s ++ g) ++ e ≡ k ++ (path ++ (s ++ (m ++ (s ++ (u ++ (s ++ (g ++ e))))))) = simp append_assoc in
    let back : k ++ (path ++ 32 ∷ (m ++ 32 ∷ (u ++ 32 ∷ (g ++ e)))) ≡ k ++ (path ++ 32 ∷ (m ++ 32 ∷ (u ++ 32 ∷ g)) ++ e) = simp append_assoc in
    flat ∙ ap (λ l. k ++ (path ++ l)) (is (m ++ (s ++ (u ++ (s ++ (g ++ e))))) ∙ ap (λ l. 32 ∷ (m ++ l)) (is (u ++ (s ++ (g ++ e))) ∙ ap (λ l. 32 ∷ (u ++ l)) (is (g ++ e)))) ∙ back

file_words : (k s path m u g c e : List ℕ) → IsSpace s → k ++ path ++ (s ++ m ++ s ++ u ++ s ++ g) ++ s ++ c ++ e ≡ k ++ (path ++ 32 ∷ (m ++ 32 ∷ (u ++ 32 ∷ (g ++ 32 ∷ c))) ++ e)
file_words k s path m u g c e is =
    let flat : k ++ path ++ (s ++ m ++ s ++ u ++ s ++ g) ++ s ++ c ++ e ≡ k ++ (path ++ (s ++ (m ++ (s ++ (u ++ (s ++ (g ++ (s ++ (c ++ e))))))))) = simp append_assoc in
    let back : k ++ (path ++ 32 ∷ (m ++ 32 ∷ (u ++ 32 ∷ (g ++ 32 ∷ (c ++ e))))) ≡ k ++ (path ++ 32 ∷ (m ++ 32 ∷ (u ++ 32 ∷ (g ++ 32 ∷ c))) ++ e) = simp append_assoc in
    flat ∙ ap (λ l. k ++ (path ++ l)) (is (m ++ (s ++ (u ++ (s ++ (g ++ (s ++ (c ++ e))))))) ∙ ap (λ l. 32 ∷ (m ++ l)) (is (u ++ (s ++ (g ++ (s ++ (c ++ e)))))
    ∙ ap (λ l. 32 ∷ (u ++ l)) (is (g ++ (s ++ (c ++ e))) ∙ ap (λ l. 32 ∷ (g ++ l)) (is (c ++ e))))) ∙ back

link_words : (k s path u g t e : List ℕ) → IsSpace s → k ++ path ++ s ++ u ++ s ++ g ++ s ++ t ++ e ≡ k ++ (path ++ 32 ∷ (u ++ 32 ∷ (g ++ 32 ∷ t)) ++ e)
link_words k s path u g t e is =
    let flat : k ++ path ++ s ++ u ++ s ++ g ++ s ++ t ++ e ≡ k ++ (path ++ (s ++ (u ++ (s ++ (g ++ (s ++ (t ++ e))))))) = simp append_assoc in
    let back : k ++ (path ++ 32 ∷ (u ++ 32 ∷ (g ++ 32 ∷ (t ++ e)))) ≡ k ++ (path ++ 32 ∷ (u ++ 32 ∷ (g ++ 32 ∷ t)) ++ e) = simp append_assoc in
    flat ∙ ap (λ l. k ++ (path ++ l)) (is (u ++ (s ++ (g ++ (s ++ (t ++ e))))) ∙ ap (λ l. 32 ∷ (u ++ l)) (is (g ++ (s ++ (t ++ e))) ∙ ap (λ l. 32 ∷ (g ++ l)) (is (t ++ e)))) ∙ back

volume_words : (k s path b f m u g e : List ℕ) → IsSpace s → k ++ path ++ s ++ b ++ s ++ f ++ (s ++ m ++ s ++ u ++ s ++ g) ++ e ≡ k ++ (path ++ 32 ∷ (b ++ 32 ∷ (f ++ 32 ∷ (m ++ 32 ∷ (u ++ 32 ∷ g)))) ++ e)
volume_words k s path b f m u g e is =
    let flat : k ++ path ++ s ++ b ++ s ++ f ++ (s ++ m ++ s ++ u ++ s ++ g) ++ e ≡ k ++ (path ++ (s ++ (b ++ (s ++ (f ++ (s ++ (m ++ (s ++ (u ++ (s ++ (g ++ e))))))))))) = simp append_assoc in
    let back : k ++ (path ++ 32 ∷ (b ++ 32 ∷ (f ++ 32 ∷ (m ++ 32 ∷ (u ++ 32 ∷ (g ++ e)))))) ≡ k ++ (path ++ 32 ∷ (b ++ 32 ∷ (f ++ 32 ∷ (m ++ 32 ∷ (u ++ 32 ∷ g)))) ++ e) = simp append_assoc in
    flat ∙ ap (λ l. k ++ (path ++ l)) (is (b ++ (s ++ (f ++ (s ++ (m ++ (s ++ (u ++ (s ++ (g ++ e))))))))) ∙ ap (λ l. 32 ∷ (b ++ l)) (is (f ++ (s ++ (m ++ (s ++ (u ++ (s ++ (g ++ e)))))))
    ∙ ap (λ l. 32 ∷ (f ++ l)) (is (m ++ (s ++ (u ++ (s ++ (g ++ e))))) ∙ ap (λ l. 32 ∷ (m ++ l)) (is (u ++ (s ++ (g ++ e))) ∙ ap (λ l. 32 ∷ (u ++ l)) (is (g ++ e)))))) ∙ back

-- ---- the laws

pub servers : law.ServersAreReadBack
servers key all long = (
  encode_lower key ∷ [],
  read_as (server_line key) (codes "server") (encode_lower key ∷ []) Server refl (refl, key_said key all long) refl refl refl,
  ap (λ (r : Result (List ℕ) Cause). after [] r) (key_read key all long),
)

pub forms : law.NamesAreReadBack
forms = (
  codes "percent" ∷ [],
  read_as (names_line Percent) (codes "names") (codes "percent" ∷ []) Names refl (refl, refl) refl refl refl,
  refl,
)

pub volumes : law.VolumesAreReadBack
volumes limit path bytes files given said is most some many few fits = (
  path ∷ decimal bytes ∷ decimal files ∷ octal given.mode ∷ decimal given.uid ∷ decimal given.gid ∷ [],
  read_as (volume_line path bytes files given) (codes "volume") (path ∷ decimal bytes ∷ decimal files ∷ octal given.mode ∷ decimal given.uid ∷ decimal given.gid ∷ []) Volume
      (volume_words (codes "volume ") (codes " ") path (decimal bytes) (decimal files) (octal given.mode) (decimal given.uid) (decimal given.gid) (10 ∷ []) space)
      (refl, (said, (decimal_said bytes (omega (arith, most)), (decimal_said files (omega (arith, few)), (mode_said given.mode, (id_said given.uid fits.1, id_said given.gid fits.2)))))) refl refl refl,
  volume_read limit path (decimal bytes) (decimal files) bytes files given (octal given.mode ∷ decimal given.uid ∷ decimal given.gid ∷ []) is
      (number_read 0 1099511627776 bytes (omega arith) most (omega (arith, most))) (number_read 1 limit files some many few) (given_fields given [] fits),
)

pub dirs : law.DirsAreReadBack
dirs form path names given said is fits = (
  path ∷ octal given.mode ∷ decimal given.uid ∷ decimal given.gid ∷ [],
  read_as (dir_line path given) (codes "dir") (path ∷ octal given.mode ∷ decimal given.uid ∷ decimal given.gid ∷ []) Dir
      (dir_words (codes "dir ") (codes " ") path (octal given.mode) (decimal given.uid) (decimal given.gid) (10 ∷ []) space)
      (refl, (said, (mode_said given.mode, (id_said given.uid fits.1, id_said given.gid fits.2)))) refl refl refl,
  dir_read form path names given (octal given.mode ∷ decimal given.uid ∷ decimal given.gid ∷ []) [] is (given_fields given [] fits),
)

pub files : law.FilesAreReadBack
files form most path names given bytes said is fits all few = (
  path ∷ octal given.mode ∷ decimal given.uid ∷ decimal given.gid ∷ content_text bytes ∷ [],
  read_as (file_line path given bytes) (codes "file") (path ∷ octal given.mode ∷ decimal given.uid ∷ decimal given.gid ∷ content_text bytes ∷ []) File
      (file_words (codes "file ") (codes " ") path (octal given.mode) (decimal given.uid) (decimal given.gid) (content_text bytes) (10 ∷ []) space)
      (refl, (said, (mode_said given.mode, (id_said given.uid fits.1, (id_said given.gid fits.2, content_said bytes all))))) refl refl refl,
  file_read form most path (content_text bytes) bytes names given (octal given.mode ∷ decimal given.uid ∷ decimal given.gid ∷ content_text bytes ∷ []) is
      (given_fields given (content_text bytes ∷ []) fits) (content_read most bytes all few),
)

pub links : law.LinksAreReadBack
links form most path names uid gid field target said is owner group shown holds = (
  path ∷ decimal uid ∷ decimal gid ∷ field ∷ [],
  read_as (link_line path uid gid field) (codes "link") (path ∷ decimal uid ∷ decimal gid ∷ field ∷ []) Link
      (link_words (codes "link ") (codes " ") path (decimal uid) (decimal gid) field (10 ∷ []) space)
      (refl, (said, (id_said uid owner, (id_said gid group, shown)))) refl refl refl,
  link_read form most path (decimal uid) (decimal gid) field target names uid gid is (id_read uid owner) (id_read gid group) holds,
)

pub hards : law.HardsAreReadBack
hards form path old names olds said is old_said was = (
  path ∷ old ∷ [],
  read_as (hard_line path old) (codes "hard") (path ∷ old ∷ []) Hard (hard_words (codes "hard ") (codes " ") path old (10 ∷ []) space) (refl, (said, old_said)) refl refl refl,
  hard_read form path old names olds is was,
)

pub times : law.TimesAreReadBack
times form path names atime mtime ctime said is accessed modified changed = (
  path ∷ moment_text atime ∷ moment_text mtime ∷ moment_text ctime ∷ [],
  read_as (times_line path atime mtime ctime) (codes "times") (path ∷ moment_text atime ∷ moment_text mtime ∷ moment_text ctime ∷ []) Times
      (link_words (codes "times ") (codes " ") path (moment_text atime) (moment_text mtime) (moment_text ctime) (10 ∷ []) space)
      (refl, (said, (moment_said atime accessed, (moment_said mtime modified, moment_said ctime changed)))) refl refl refl,
  times_read form path (moment_text atime) (moment_text mtime) (moment_text ctime) names atime mtime ctime is (moment_read atime accessed) (moment_read mtime modified) (moment_read ctime changed),
)
