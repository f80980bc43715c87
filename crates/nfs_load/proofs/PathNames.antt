-- The names that the components of a path stand for.
use Rattle.std.proofs.Common.{◌≡◌, ◌≢◌, ℕ, true, List, [], ◌∷◌, Option, Some, None, refl}
use Rattle.std.specs.Prelude.{is_some}
use Rattle.nfs_inodes.specs.Tree.{on_some}
use Rattle.nfs_load.specs.Names.{name_in, names_in, the_names}
use Rattle.nfs_load.specs.declared.name_form.NameForm.{NameForm}
use Rattle.nfs_load.proofs.Names.{names_from}

some_from : (first : Option (List ℕ)) (after : Option (List (List ℕ))) → is_some (names_from first after) ≡ true → on_some (names_from first after) [] (λ names. names) ≢ []
some_from None after are e = cc
some_from (Some name) None are e = cc
some_from (Some name) (Some names) are e = cc

-- one or more of them stand for one or more
pub some_names : (form : NameForm) (texts : List (List ℕ)) → texts ≢ [] → is_some (names_in form texts) ≡ true → the_names form texts ≢ []
some_names form [] some are = absurd (some refl)
some_names form (text ∷ texts) some are = some_from (name_in form text) (names_in form texts) are
