-- What is made of directories, one after another.
use Rattle.std.proofs.Common.{◌≡◌, ℕ, suc, ◌+◌, List, [], ◌∷◌, ◌++◌, length, map, refl, sym, ap, subst, ◌∙◌, append_assoc, append-nil, length-append, arith, Result, Ok, Err, IfOk}
use Rattle.std.proofs.lemmas.List.{map-append}
use Rattle.nfs_named.specs.Lives.{AreMadeOf, IsMadeOf, MadeDirectory, Takes, directory_lines, found_of, lines_at, path_line}
use Rattle.nfs_disk.specs.declared.building.Made.{Made}
use Rattle.nfs_disk.specs.declared.found.Found.{Found}
use Rattle.nfs_named.specs.declared.shared.SharedDirectory.{SharedDirectory}

-- lines, and then others
pub takes_then : {S : Type 0} (has : S → List (List ℕ) → Type 0) (first second third : S) (lines others : List (List ℕ))
    → Takes has first lines second → Takes has second others third → Takes has first (lines ++ others) third
takes_then has first second third lines others one other =
    λ before h. subst (has third) (append_assoc before lines others) (other (before ++ lines) (one before h))

-- one path more
pub paths_more : {S : Type 0} (has : S → List (List ℕ) → Type 0) (first second third : S) (done : List Made) (made : Made)
    → Takes has first (map path_line done) second → Takes has second (path_line made ∷ []) third → Takes has first (map path_line (done ++ made ∷ [])) third
paths_more has first second third done made taken one =
    subst (λ lines. Takes has first lines third) (sym (map-append path_line done (made ∷ []))) (takes_then has first second third (map path_line done) (path_line made ∷ []) taken one)

pub found_more : (done : List Made) (made : Made) (left rest all : List Found) → left ≡ made.found ∷ rest → map found_of done ++ left ≡ all → map found_of (done ++ made ∷ []) ++ rest ≡ all
found_more done made left rest all next so =
    ap (λ l. l ++ rest) (map-append found_of done (made ∷ [])) ∙ append_assoc (map found_of done) (made.found ∷ []) rest
    ∙ ap (λ l. map found_of done ++ l) (sym next) ∙ so

-- one directory more
pub made_more : (taken : List SharedDirectory) (done : List MadeDirectory) (one : SharedDirectory) (it : MadeDirectory) → AreMadeOf taken done → IsMadeOf one it → AreMadeOf (taken ++ one ∷ []) (done ++ it ∷ [])
made_more [] [] one it so is = (is, tt)
made_more [] (other ∷ others) one it so is = absurd so
made_more (directory ∷ directories) [] one it so is = absurd so
made_more (directory ∷ directories) (other ∷ others) one it so is = (so.0, made_more directories others one it so.1 is)

pub as_many : (taken : List SharedDirectory) (done : List MadeDirectory) → AreMadeOf taken done → length done ≡ length taken
as_many [] [] so = refl
as_many [] (other ∷ others) so = absurd so
as_many (directory ∷ directories) [] so = absurd so
as_many (directory ∷ directories) (other ∷ others) so = ap suc (as_many directories others so.1)

shifted : (k n : ℕ) → suc k + n ≡ k + suc n
shifted k n = omega arith

pub lines_more : (k : ℕ) (done : List MadeDirectory) (it : MadeDirectory) → directory_lines k (done ++ it ∷ []) ≡ directory_lines k done ++ lines_at (k + length done) it
lines_more k [] it = append-nil (lines_at k it) ∙ ap (λ n. lines_at n it) (omega arith)
lines_more k (other ∷ others) it =
    ap (λ l. lines_at k other ++ l) (lines_more (suc k) others it ∙ ap (λ n. directory_lines (suc k) others ++ lines_at n it) (shifted k (length others)))
    ∙ sym (append_assoc (lines_at k other) (directory_lines (suc k) others) (lines_at (k + suc (length others)) it))

pub if_ok_more : {V E : Type 0} {P Q : Type 0} (result : Result V E) → (P → Q) → IfOk result (λ _. P) → IfOk result (λ _. Q)
if_ok_more (Ok value) more so = more so
if_ok_more (Err error) more so = tt

pub next_left : {T : Type 0} (taken left rest all : List T) (one : T) → left ≡ one ∷ rest → taken ++ left ≡ all → (taken ++ one ∷ []) ++ rest ≡ all
next_left taken left rest all one next so = append_assoc taken (one ∷ []) rest ∙ ap (λ l. taken ++ l) (sym next) ∙ so

pub one_longer : {T : Type 0} (taken : List T) (one : T) (n : ℕ) → length taken ≡ n → length (taken ++ one ∷ []) ≡ n + 1
one_longer taken one n e = length-append taken (one ∷ []) ∙ ap (λ k. k + 1) e

-- the lines of one directory more
pub lives_more : {S : Type 0} (has : S → List (List ℕ) → Type 0) (first second third : S) (taken : List SharedDirectory) (done : List MadeDirectory) (it : MadeDirectory) (n : ℕ)
    → AreMadeOf taken done → length taken ≡ n → Takes has first (directory_lines 0 done) second → Takes has second (lines_at n it) third → Takes has first (directory_lines 0 (done ++ it ∷ [])) third
lives_more has first second third taken done it n made count so one =
    let same : n ≡ 0 + length done = sym count ∙ sym (as_many taken done made) ∙ omega arith in
    subst (λ lines. Takes has first lines third) (ap (λ k. directory_lines 0 done ++ lines_at k it) same ∙ sym (lines_more 0 done it))
    (takes_then has first second third (directory_lines 0 done) (lines_at n it) so one)

-- nothing was taken
pub takes_none : {S : Type 0} (has : S → List (List ℕ) → Type 0) (it : S) → Takes has it [] it
takes_none has it = λ before h. subst (has it) (sym (append-nil before)) h
