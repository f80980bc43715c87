-- What the line of a file says, where its content is refused.
use Rattle.std.proofs.Common.{◌≡◌, ℕ, List, Result, Ok, Err, IsErr, IsErrAnd, sym, subst}
use Rattle.std.proofs.lemmas.Bool.{false≢true}
use Rattle.nfs_load.specs.declared.name_form.NameForm.{NameForm}
use Rattle.nfs_load.specs.declared.refusal.Refusal.{Refusal}
use Rattle.nfs_load.specs.declared.refusal.Refusal.TheVariants.{Fault, Memory}
use Rattle.nfs_load.specs.declared.statement.FileLine as kept
use Rattle.nfs_load.specs.declared.statement.Given.{Given}
use Rattle.nfs_load.specs.Fields.{SaysBytes, OfNext, TakesIfRoom, by, content_in}
use Rattle.nfs_load.specs.Paths.{path_in}
use Rattle.nfs_load.specs.Statements.{WantsContent, dir_in, file_in, file_line_of, given_in}

front_is : (form : NameForm) (fields path after : List (List ℕ)) (given : Given) (rest : List (List ℕ))
    → by (path_in form) fields ≡ Ok (path, after) → given_in after ≡ Ok (given, rest) → dir_in form fields ≡ Ok (record { path = path; given = given }, rest)
front_is form fields path after given rest p g = rw (p, g)

pub content_refused : {X : Type 0} (form : NameForm) (most : ℕ) (view : X → List ℕ) (fields path after : List (List ℕ)) (given : Given) (rest left : List (List ℕ)) (refusal : Refusal) (result : Result kept.FileLine Refusal)
    → by (path_in form) fields ≡ Ok (path, after) → given_in after ≡ Ok (given, rest)
    → TakesIfRoom view (OfNext (SaysBytes most) rest) left (Err refusal) (by (content_in most) rest)
    → IsErr result × IsErrAnd result (λ r. r ≡ refusal)
    → TakesIfRoom file_line_of (WantsContent form most fields) left result (file_in form most fields)
content_refused form most view fields path after given rest left refusal (Ok x) p g e f = absurd (false≢true f.0)
content_refused form most view fields path after given rest left (Fault cause) (Err r) p g e f =
    subst (λ it. TakesIfRoom file_line_of (WantsContent form most fields) left (Err it) (file_in form most fields)) (sym f.1) (rw (p, g, e))
content_refused form most view fields path after given rest left Memory (Err r) p g e f =
    subst (λ it. TakesIfRoom file_line_of (WantsContent form most fields) left (Err it) (file_in form most fields)) (sym f.1)
    (record { line = record { path = path; given = given }; rest = rest; front = front_is form fields path after given rest p g; content = e })
